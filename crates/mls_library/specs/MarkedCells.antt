-- The text of a layout with what is known of the squares that rules forbid there: a cell file in which the areas that await checking are a section
-- `checkpaint`, and the marks a section `error_p`. These are the names under which Magic writes what its own checker has still to do and what it found, and
-- who reads a cell file skips both.
use Rattle.std.specs.Prelude.{ℕ, List, [], ◌∷◌, ◌++◌, length, map, max, codes}
use Rattle.mls_geom.specs.Layouts.{Layout}
use Rattle.mls_geom.specs.Pictures.{Picture, empty_picture}
use Rattle.mls_geom.specs.Rects.{Rect}
use Rattle.mls_geom.specs.StripLists.{strips_of}
use Rattle.mls_geom.specs.World.{world}
use Rattle.mls_geom.specs.declared.piece.Piece.{Piece}
use Rattle.mls_tech.specs.Readings.{Tech}
use Rattle.mls_library.specs.SavedCells.{end_lines, header_lines, layers_lines, of_kind, rect_words, section_lines, section_words, spaced, strips_on, text_of, type_numbers}

-- ---- the two sections
abbrev pub rect_lines : List Rect → List (List ℕ)
rect_lines rects = map (λ rect. spaced (rect_words rect)) rects

-- a section with these rectangles; there is none without rectangles
abbrev pub rects_section : List ℕ → List Rect → List (List ℕ)
rects_section name [] = []
rects_section name (rect ∷ rects) = spaced (section_words name) ∷ rect_lines (rect ∷ rects)

-- the areas that await checking, in their order
abbrev pub dirty_lines : List Rect → List (List ℕ)
dirty_lines areas = rects_section (codes "checkpaint") areas

-- the kind of a square that is marked
abbrev pub marked : ℕ
marked = 1

-- the marks, where they have these strips
abbrev pub mark_lines : List Piece → List (List ℕ)
mark_lines strips = section_lines (codes "error_p") (of_kind marked strips)

-- ---- the file
-- what stands before the sections of the types
abbrev pub lines_before_layers : Tech → List Rect → List Piece → List (List ℕ)
lines_before_layers tech areas marks = header_lines tech ++ (dirty_lines areas ++ mark_lines marks)

-- the file, where the planes and the marks have these strips
abbrev pub marked_file_lines : Tech → (ℕ → List Piece) → List Rect → List Piece → List (List ℕ)
marked_file_lines tech strips areas marks = lines_before_layers tech areas marks ++ (layers_lines tech strips (type_numbers tech) ++ end_lines)

abbrev pub marked_lines : Tech → Layout → List Rect → Picture → List (List ℕ)
marked_lines tech layout areas marks = marked_file_lines tech (strips_on layout) areas (strips_of world marks)

abbrev pub marked_line_count : Tech → Layout → List Rect → Picture → ℕ
marked_line_count tech layout areas marks = length (marked_lines tech layout areas marks)

abbrev pub marked_text : Tech → Layout → List Rect → Picture → List ℕ
marked_text tech layout areas marks = text_of (marked_lines tech layout areas marks)

-- ---- the areas and the marks alone
-- the layout that shows nothing
abbrev pub empty_layout : Layout
empty_layout plane = empty_picture

-- ---- how much of a layout is listed
-- the most tiles that a plane may have together with the cells that are placed on it, where it may have a quota of its own, and one of a cell `most`
abbrev pub most_flat_tiles : ℕ → ℕ → ℕ
most_flat_tiles quota most = max quota most
