-- What a caller sees of a library, its cells' planes in the pool, and what loading a cell does. This project's own.
use Rattle.std.specs.Prelude.{◌≡◌, ◌≢◌, ℕ, ◌<◌, ◌≤◌, ◌==◌, Bool, not, ◌||◌, ◌&&◌, false, nat_lt, nat_le, if◌then◌else◌, is_some, Option, Some, None, Result, Ok, Err, List, [], ◌∷◌, ◌++◌, length, map, position, slice_get}
use Rattle.std.specs.List.{All, AllPairs, Contains, list_all, list_any, range_with_len, sum_by}
use Rattle.mls_geom.specs.Layouts.{Layout}
use Rattle.mls_geom.specs.Pictures.{Picture}
use Rattle.mls_geom.specs.Rects.{Rect, holds}
use Rattle.mls_geom.specs.TileCounts.{tile_count}
use Rattle.mls_geom.specs.World.{world}
use Rattle.mls_tech.specs.Readings.{Tech}
use Rattle.mls_text.specs.Words.{same_word}
use Rattle.mls_tilepool.specs.Pools.{Pool, room_of, unreserved}
use Rattle.mls_paint.specs.Owners.{AddsOwners}
use Rattle.mls_paint.specs.Planes.{HasStrips, layout_in, picture_in}
use Rattle.mls_library.specs.Bounds.{painted_bounds}
use Rattle.mls_library.specs.CellFiles.{layout_of_rects, reading_of}
use Rattle.mls_library.specs.Faults.{UnlessMemory}
use Rattle.mls_library.specs.SavedCells.{ShowsOwnTypes}
use Rattle.mls_library.specs.declared.cell_rect.CellRect.{CellRect}
use Rattle.mls_library.specs.declared.fault.CellFault.{CellFault}
use Rattle.mls_library.specs.declared.fault.CellFaultKind.{CellFaultKind}
use Rattle.mls_library.specs.declared.fault.CellFaultKind.TheVariants.{Form, TooManyTiles, NameTwice, PoolFull, LibraryFull}

-- the owners of the tiles of a cell's planes, the first of plane 0, and the rectangle round all that the cell shows, if it shows anything
pub record Cell : Type 0 where
  pub planes : List ℕ
  pub bounds : Option Rect

-- a cell and its name
pub record NamedCell : Type 0 where
  pub name : List ℕ
  pub planes : List ℕ
  pub bounds : Option Rect

-- the cells in the order in which they were loaded; a cell's number is its place
abbrev pub Library : Type 0
Library = List NamedCell

-- the cells' names, in order
abbrev pub names_of : Library → List (List ℕ)
names_of cells = map (λ cell. cell.name) cells

-- the number of the cell with this name
abbrev pub cell_named : Library → List ℕ → Option ℕ
cell_named cells name = position (λ cell. same_word name cell.name) cells

-- what a cell's planes show
abbrev pub cell_layout : Pool → NamedCell → Layout
cell_layout pool cell = layout_in pool cell.planes

-- the most tiles that a plane of any cell may have
abbrev pub most_tiles : ℕ
most_tiles = 16384

-- how many it may have if the user says nothing, and no limit is less
abbrev pub default_cell_tiles : ℕ
default_cell_tiles = 4096

-- the owner's plane lies in the pool in maximal strips, no more than a plane of any cell may have, and has reserved just as many tiles as it has
pub record IsFrozen (pool : Pool) (owner : ℕ) : Type 0 where
  pub strips : HasStrips pool owner
  pub few : tile_count world (picture_in pool owner) ≤ most_tiles
  pub reserve : room_of pool owner ≡ Some (tile_count world (picture_in pool owner))

-- the square lies in the rectangle, if there is one
abbrev pub holds_some : Option Rect → ℕ → ℕ → Bool
holds_some None x y = false
holds_some (Some rect) x y = holds rect x y

-- each square outside the bounds is space
abbrev pub ShowsWithin : Option Rect → Picture → Type 0
ShowsWithin bounds picture = (x y : ℕ) → holds_some bounds x y ≡ false → picture x y ≡ 0

-- each plane of a cell is frozen, they have different owners, and the cell's bounds are the smallest round all that they show
pub record IsCellHome (pool : Pool) (cell : NamedCell) : Type 0 where
  pub frozen : All (IsFrozen pool) cell.planes
  pub apart : AllPairs (λ a b. a ≢ b) cell.planes
  pub bounded : (plane : ℕ) → ShowsWithin cell.bounds (cell_layout pool cell plane)
  pub smallest : cell.bounds ≡ painted_bounds (length cell.planes) (cell_layout pool cell)

-- no owner has planes of both cells
abbrev pub AreApart : NamedCell → NamedCell → Type 0
AreApart a b = All (λ owner. ¬ (Contains b.planes owner)) a.planes

-- each cell is at home in the pool, under owners of its own
pub record IsHome (pool : Pool) (cells : Library) : Type 0 where
  pub each : All (IsCellHome pool) cells
  pub apart : AllPairs AreApart cells

-- each cell has this many planes
abbrev pub HavePlanes : ℕ → Library → Type 0
HavePlanes planes cells = All (λ cell. length cell.planes ≡ planes) cells

-- each cell shows types on their own planes alone
abbrev pub ShowOwnTypes : Tech → Pool → Library → Type 0
ShowOwnTypes tech pool cells = All (λ cell. ShowsOwnTypes tech (cell_layout pool cell)) cells

-- ---- names of cells
-- a letter, a digit, or one of `_ - . $`, of ASCII
abbrev pub is_name_byte : ℕ → Bool
is_name_byte b = (nat_le 48 b && nat_le b 57) || (nat_le 65 b && nat_le b 90) || (nat_le 97 b && nat_le b 122) || b == 95 || b == 45 || b == 46 || b == 36

-- 1 to 64 such bytes
abbrev pub is_cell_name : List ℕ → Bool
is_cell_name word = nat_le 1 (length word) && nat_le (length word) 64 && list_all is_name_byte word

-- ---- loading
abbrev pub most_cells : ℕ
most_cells = 64

-- what is wrong with a name before the file is read, where cells have these names
unfoldable pub name_fault : List (List ℕ) → List ℕ → Option CellFaultKind
name_fault names name =
    if not (is_cell_name name) then Some Form
    else (if is_some (position (same_word name) names) then Some NameTwice
    else (if nat_le most_cells (length names) then Some LibraryFull
    else None))

-- how many tiles each plane has
abbrev pub tile_counts : ℕ → List CellRect → List ℕ
tile_counts planes rects = map (λ plane. tile_count world (layout_of_rects rects plane)) (range_with_len 0 planes)

abbrev pub total : List ℕ → ℕ
total counts = sum_by (λ count. count) counts

-- what is wrong with planes that have these numbers of tiles, where each may have `most` and this many tiles of the pool are unreserved
unfoldable pub room_fault : ℕ → ℕ → List ℕ → Option CellFaultKind
room_fault most free counts =
    if list_any (λ count. nat_lt most count) counts then Some TooManyTiles
    else (if nat_lt free (total counts) then Some PoolFull
    else None)

-- a fault of no line comes first
abbrev pub unless_fault : Option CellFaultKind → Result (List CellRect) CellFault → Result (List CellRect) CellFault
unless_fault None read = read
unless_fault (Some kind) read = Err (record { line = 0; kind = kind })

-- what was read, if there is room for it
abbrev pub with_room : ℕ → ℕ → ℕ → Result (List CellRect) CellFault → Result (List CellRect) CellFault
with_room planes most free (Ok rects) = unless_fault (room_fault most free (tile_counts planes rects)) (Ok rects)
with_room planes most free (Err fault) = Err fault

-- the rectangles of a cell that may be loaded beside cells of these names, in at most `most` tiles a plane, or the first fault: of its name, of the
-- library, of the file, and of the room for it
unfoldable pub loading_of : Tech → List (List ℕ) → ℕ → ℕ → List ℕ → List ℕ → Result (List CellRect) CellFault
loading_of tech names most free name bytes = unless_fault (name_fault names name) (with_room tech.plane_count most free (reading_of tech bytes))

-- each cell keeps its number, with its name, its planes and its bounds
abbrev pub KeepsCells : Library → Library → Type 0
KeepsCells before after = (id : ℕ) → id < length before → slice_get after id ≡ slice_get before id

-- a cell of this name is the last of the library, with a plane for each of the technology's, which show what the rectangles do; it has taken as many
-- tiles of the pool as its planes have, and everything else in the pool is as it was
pub record AddsCell (tech : Tech) (before after : Pool) (cells more : Library) (name : List ℕ) (id : ℕ) (rects : List CellRect) : Type 0 where
  pub cell : NamedCell
  pub named : cell.name ≡ name
  pub number : id ≡ length cells
  pub added : more ≡ cells ++ cell ∷ []
  pub planes : length cell.planes ≡ tech.plane_count
  pub shows : cell_layout after cell ≡ layout_of_rects rects
  pub reserves : AddsOwners before after cell.planes (total (tile_counts tech.plane_count rects))

-- loading gives the cell that the definition reads, or its fault, unless memory ran out
abbrev pub LoadsUnlessMemory : Tech → ℕ → Pool → Pool → Library → Library → List ℕ → List ℕ → Result ℕ CellFault → Type 0
LoadsUnlessMemory tech most before after cells more name bytes (Ok id) =
    (rects : List CellRect) × (loading_of tech (names_of cells) most (unreserved before) name bytes ≡ Ok rects) × AddsCell tech before after cells more name id rects
LoadsUnlessMemory tech most before after cells more name bytes (Err fault) =
    UnlessMemory fault.kind fault.line (loading_of tech (names_of cells) most (unreserved before) name bytes ≡ Err fault)
