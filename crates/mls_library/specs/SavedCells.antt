-- The text of a layout as a cell file: the strips of each type, by bottom and then left. It depends on the squares of the layout alone.
use Rattle.std.specs.Prelude.{◌≡◌, ◌≢◌, ℕ, pos, ◌-ℤ◌, ◌+◌, ◌==◌, ◌≤◌, ◌<◌, false, Some, Ok, Result, OnOk, OnErr, List, [], ◌∷◌, ◌++◌, length, map, take, codes, Vec, vec_capacity, vec_len}
use Rattle.std.specs.Global.{Global}
use Rattle.std.specs.Fmt.{signed_decimal}
use Rattle.std.specs.List.{filter, flat_map, join_with_byte, range_with_len}
use Rattle.std.specs.Option.{option_map_or, unwrap_or}
use Rattle.mls_geom.specs.Layouts.{Layout}
use Rattle.mls_geom.specs.Rects.{Rect, holds}
use Rattle.mls_geom.specs.StripLists.{strips_of}
use Rattle.mls_geom.specs.World.{origin, world}
use Rattle.mls_geom.specs.declared.piece.Piece.{Piece}
use Rattle.mls_tech.specs.Readings.{Tech, name_of, plane_of_type}
use Rattle.mls_library.specs.CellFiles.{layout_of_rects, reading_of}
use Rattle.mls_library.specs.declared.cell_rect.CellRect.{CellRect}

-- ---- lines
-- words with a space between each two
abbrev pub spaced : List (List ℕ) → List ℕ
spaced words = join_with_byte 32 words

-- a line of the world as users count it, in decimal digits
abbrev pub coordinate_text : ℕ → List ℕ
coordinate_text line = signed_decimal (pos line -ℤ pos origin)

abbrev pub rect_words : Rect → List (List ℕ)
rect_words rect = codes "rect" ∷ coordinate_text rect.left ∷ coordinate_text rect.bottom ∷ coordinate_text rect.right ∷ coordinate_text rect.top ∷ []

abbrev pub section_words : List ℕ → List (List ℕ)
section_words name = codes "<<" ∷ name ∷ codes ">>" ∷ []

-- ---- the section of a type
abbrev pub of_kind : ℕ → List Piece → List Piece
of_kind kind strips = filter (λ strip. strip.kind == kind) strips

abbrev pub strip_lines : List Piece → List (List ℕ)
strip_lines strips = map (λ strip. spaced (rect_words strip.rect)) strips

-- a section with these strips; there is none without strips
abbrev pub section_lines : List ℕ → List Piece → List (List ℕ)
section_lines name [] = []
section_lines name (strip ∷ strips) = spaced (section_words name) ∷ strip_lines (strip ∷ strips)

-- the name that is written for a type
abbrev pub first_name : Tech → ℕ → List ℕ
first_name tech kind = unwrap_or (name_of tech.types kind) []

-- the section of a type, where its plane has these strips
abbrev pub layer_lines : Tech → ℕ → List Piece → List (List ℕ)
layer_lines tech kind strips = section_lines (first_name tech kind) (of_kind kind strips)

-- ---- the file
-- the technology's name, or `none` where it has none
abbrev pub header_lines : Tech → List (List ℕ)
header_lines tech = codes "magic" ∷ spaced (codes "tech" ∷ unwrap_or tech.name (codes "none") ∷ []) ∷ []

abbrev pub end_lines : List (List ℕ)
end_lines = spaced (section_words (codes "end")) ∷ []

-- the types other than space, in order
abbrev pub type_numbers : Tech → List ℕ
type_numbers tech = range_with_len 1 (length tech.type_planes)

-- the sections of types, where the planes have these strips
unfoldable pub layers_lines : Tech → (ℕ → List Piece) → List ℕ → List (List ℕ)
layers_lines tech strips kinds = flat_map (λ kind. layer_lines tech kind (option_map_or strips (plane_of_type tech.type_planes kind) [])) kinds

-- the file, where the planes have these strips
abbrev pub file_lines : Tech → (ℕ → List Piece) → List (List ℕ)
file_lines tech strips = header_lines tech ++ (layers_lines tech strips (type_numbers tech) ++ end_lines)

abbrev pub strips_on : Layout → ℕ → List Piece
strips_on layout plane = strips_of world (layout plane)

abbrev pub saved_lines : Tech → Layout → List (List ℕ)
saved_lines tech layout = file_lines tech (strips_on layout)

abbrev pub saved_line_count : Tech → Layout → ℕ
saved_line_count tech layout = length (saved_lines tech layout)

-- lines as a text: each ends with a line feed
unfoldable pub text_of : List (List ℕ) → List ℕ
text_of lines = flat_map (λ line. line ++ 10 ∷ []) lines

abbrev pub saved_text : Tech → Layout → List ℕ
saved_text tech layout = text_of (saved_lines tech layout)

-- ---- what is read back
-- each square is space, or of a type whose plane that is
abbrev pub ShowsOwnTypes : Tech → Layout → Type 0
ShowsOwnTypes tech layout = (plane x y : ℕ) → layout plane x y ≢ 0 → plane_of_type tech.type_planes (layout plane x y) ≡ Some plane

-- so it is, and there is only space outside the world
pub record HoldsOwnTypes (tech : Tech) (layout : Layout) : Type 0 where
  pub own : ShowsOwnTypes tech layout
  pub within : (plane x y : ℕ) → holds world x y ≡ false → layout plane x y ≡ 0

-- the text reads as rectangles that show the layout
abbrev pub ReadsAs : Tech → List ℕ → Layout → Type 0
ReadsAs tech text layout = (rects : List CellRect) × (reading_of tech text ≡ Ok rects) × (layout_of_rects rects ≡ layout)

-- ---- writing
-- what was there is still in front
abbrev pub Extends : List ℕ → List ℕ → Type 0
Extends old new = take (length old) new ≡ old

-- the bytes are appended, unless memory ran out, which it does only where there was no room for all of them
pub record Appends {T E : Type 0} (result : Result T E) (old new : Vec ℕ Global) (more : List ℕ) : Type 0 where
  pub text : OnOk result (new.items ≡ old.items ++ more)
  pub kept : OnErr result (Extends old.items new.items)
  pub room : OnErr result (vec_capacity old < vec_len old + length more)
  pub capacity : vec_capacity old ≤ vec_capacity new
