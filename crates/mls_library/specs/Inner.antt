-- The words of private contracts: how the reader goes about what the other modules define. A caller needs none of them.
use Rattle.std.specs.Prelude.{◌≡◌, ◌≢◌, ℕ, ◌<◌, ◌≤◌, ℤ, ⊤, Some, Result, Ok, Err, List, length, map, slice_index_or}
use Rattle.std.specs.List.{All, AllPairs}
use Rattle.mls_geom.specs.Locality.{AreUnorderedStrips}
use Rattle.mls_geom.specs.Pictures.{Picture, picture_of}
use Rattle.mls_geom.specs.World.{world}
use Rattle.mls_geom.specs.declared.piece.Piece.{Piece}
use Rattle.mls_tech.specs.Readings.{Tech, plane_of_type}
use Rattle.mls_text.specs.Digits.{value_at_most}
use Rattle.mls_tilepool.specs.Pools.{Pool}
use Rattle.mls_paint.specs.Owners.{AddsOwners}
use Rattle.mls_paint.specs.Planes.{picture_in}
use Rattle.mls_library.specs.CellFiles.{or_fault, layout_of_rects}
use Rattle.mls_library.specs.Libraries.{Cell, IsFrozen, NamedCell, most_tiles, tile_counts, total}
use Rattle.mls_library.specs.declared.cell_rect.CellRect.{CellRect}
use Rattle.mls_library.specs.declared.fault.CellFaultKind.{CellFaultKind}
use Rattle.mls_library.specs.declared.fault.CellFaultKind.TheVariants.{OutsideWorld}
use Rattle.mls_library.specs.declared.meaning.Meaning.{Meaning}
use Rattle.mls_library.specs.declared.meaning.Meaning.TheVariants.{Nothing, Enters, Paints, Ends}
use Rattle.mls_library.specs.declared.place.Place.{Place}
use Rattle.mls_library.specs.declared.place.Place.TheVariants.{Start, Header, Skipped, Layer}

-- the type is one of the technology's, and lies on this plane
pub record IsTypeOn (tech : Tech) (kind plane : ℕ) : Type 0 where
  pub on : plane_of_type tech.type_planes kind ≡ Some plane
  pub known : plane < tech.plane_count

-- the section's type and its plane are as they are to be
abbrev pub IsKnownPlace : (ℕ → ℕ → Type 0) → Place → Type 0
IsKnownPlace lies_on Start = ⊤
IsKnownPlace lies_on Header = ⊤
IsKnownPlace lies_on (Skipped with_uses) = ⊤
IsKnownPlace lies_on (Layer kind plane) = lies_on kind plane

-- a line leads to such a section, or paints such a type there
abbrev pub IsKnownMeaning : (ℕ → ℕ → Type 0) → Meaning → Type 0
IsKnownMeaning lies_on Nothing = ⊤
IsKnownMeaning lies_on (Enters next) = IsKnownPlace lies_on next
IsKnownMeaning lies_on (Paints painted) = lies_on painted.piece.kind painted.plane
IsKnownMeaning lies_on Ends = ⊤

-- how far from 0 digits lead, if the world has lines there
abbrev pub distance_of : List ℕ → Result ℕ CellFaultKind
distance_of digits = or_fault OutsideWorld (value_at_most 1048576 digits)

-- the line at a distance from 0, to one side
abbrev pub at_distance : (ℕ → ℤ) → Result ℕ CellFaultKind → Result ℤ CellFaultKind
at_distance side (Ok n) = Ok (side n)
at_distance side (Err fault) = Err fault

-- a cell under a name
abbrev pub named_cell : List ℕ → Cell → NamedCell
named_cell name cell = record { name = name; planes = cell.planes; bounds = cell.bounds }

-- the entries of a map from names, as cells
abbrev pub cells_in : {K V : Type 0} → (K → List ℕ) → (V → Cell) → List (K × V) → List NamedCell
cells_in bytes cell entries = map (λ entry. named_cell (bytes entry.0) (cell entry.1)) entries

-- the list has the strips of the picture, in any order, and shows it
pub record ArePlaneStrips (picture : Picture) (list : List Piece) : Type 0 where
  pub strips : AreUnorderedStrips world picture list
  pub shows : picture_of list ≡ picture

-- for each of the first planes of a layout a list of its strips, no more than `most`
pub record AreLayoutStrips (most : ℕ) (rects : List CellRect) (lists : List (List Piece)) : Type 0 where
  pub each : (plane : ℕ) (d : List Piece) → plane < length lists → ArePlaneStrips (layout_of_rects rects plane) (slice_index_or lists plane d)
  pub few : All (λ list. length list ≤ most) lists
  pub counts : map (λ list. length list) lists ≡ tile_counts (length lists) rects

-- these owners are new, each with a plane that a list of strips shows, and they have reserved just as many tiles as there are strips
pub record AreBuilt (old new : Pool) (owners : List ℕ) (lists : List (List Piece)) : Type 0 where
  pub count : length owners ≡ length lists
  pub frozen : All (IsFrozen new) owners
  pub apart : AllPairs (λ a b. a ≢ b) owners
  pub shows : (plane d : ℕ) (e : List Piece) → plane < length lists → picture_in new (slice_index_or owners plane d) ≡ picture_of (slice_index_or lists plane e)
  pub added : AddsOwners old new owners (total (map (λ list. length list) lists))

-- the list has the strips of the picture that it shows, no more than a plane of any cell may have
pub record IsFrozenList (list : List Piece) : Type 0 where
  pub strips : AreUnorderedStrips world (picture_of list) list
  pub few : length list ≤ most_tiles
