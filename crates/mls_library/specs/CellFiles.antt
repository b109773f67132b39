-- The meaning of a cell file (the `.mag` form of Magic, for flat cells): the rectangles that its lines paint, or its first fault with its line. It
-- depends on the bytes, and on the types of the technology, alone.
use Rattle.std.specs.Prelude.{ℕ, ℤ, pos, neg_ℤ, ◌+◌, ◌==◌, Bool, true, false, not, ◌||◌, ◌&&◌, nat_eq, if◌then◌else◌, Option, Some, None, Result, Ok, Err, List, [], ◌∷◌, ◌++◌, map, codes}
use Rattle.std.specs.List.{filter, list_any, starts_with}
use Rattle.std.specs.Option.{option_and_then, option_map}
use Rattle.mls_geom.specs.Layouts.{Layout}
use Rattle.mls_geom.specs.Pictures.{picture_of}
use Rattle.mls_geom.specs.Rects.{Rect}
use Rattle.mls_geom.specs.World.{is_outside, rect_of}
use Rattle.mls_geom.specs.declared.piece.Piece.{Piece}
use Rattle.mls_geom.specs.declared.rect.RectFault.{RectFault}
use Rattle.mls_tech.specs.Readings.{Tech, number_named, plane_of_type, without_dash}
use Rattle.mls_text.specs.Digits.{is_number, value_of}
use Rattle.mls_text.specs.Lines.{raw_lines}
use Rattle.mls_text.specs.Words.{words_of, same_word}
use Rattle.mls_library.specs.declared.cell_rect.CellRect.{CellRect}
use Rattle.mls_library.specs.declared.fault.CellFault.{CellFault}
use Rattle.mls_library.specs.declared.fault.CellFaultKind.{CellFaultKind}
use Rattle.mls_library.specs.declared.fault.CellFaultKind.TheVariants.{Form, UnknownLayer, Hierarchy, Scale, OutsideWorld, Triangle}
use Rattle.mls_library.specs.declared.meaning.Meaning.{Meaning}
use Rattle.mls_library.specs.declared.meaning.Meaning.TheVariants.{Nothing, Enters, Paints, Ends}
use Rattle.mls_library.specs.declared.place.Place.{Place}
use Rattle.mls_library.specs.declared.place.Place.TheVariants.{Start, Header, Skipped, Layer}

infixl 10 ◌>>=◌
abbrev pub ◌>>=◌ : {A B : Type 0} → Result A CellFaultKind → (A → Result B CellFaultKind) → Result B CellFaultKind
(Ok x) >>= f = f x
(Err fault) >>= f = Err fault

abbrev pub or_fault : {A : Type 0} → CellFaultKind → Option A → Result A CellFaultKind
or_fault fault None = Err fault
or_fault fault (Some x) = Ok x

abbrev pub is_word : List ℕ → List ℕ → Bool
is_word text word = same_word word text

-- ---- the first line with words
unfoldable pub first_line : List ℕ → List (List ℕ) → Result Meaning CellFaultKind
first_line keyword [] = if is_word (codes "magic") keyword then Ok (Enters Header) else Err Form
first_line keyword (word ∷ words) = Err Form

-- ---- the line of a section: `<<`, a name, `>>`
-- sections that are skipped with all their lines
abbrev pub text_sections : List (List ℕ)
text_sections = codes "labels" ∷ codes "properties" ∷ codes "elements" ∷ []

abbrev pub is_text_section : List ℕ → Bool
is_text_section name = list_any (same_word name) text_sections

-- sections that are skipped but for the uses of cells: what Magic has still to check, and the errors that it found
abbrev pub is_check_section : List ℕ → Bool
is_check_section name = is_word (codes "checkpaint") name || is_word (codes "checksubcell") name || starts_with nat_eq name (codes "error_")

-- a type other than space begins the section in which its rectangles stand
unfoldable pub layer_named : Tech → List ℕ → Result Meaning CellFaultKind
layer_named tech name =
    or_fault UnknownLayer (option_and_then (λ kind. option_map (λ plane. Enters (Layer kind plane)) (plane_of_type tech.type_planes kind)) (number_named tech.types name))

unfoldable pub section_named : Tech → List ℕ → Result Meaning CellFaultKind
section_named tech name =
    if is_word (codes "end") name then Ok Ends
    else (if is_text_section name then Ok (Enters (Skipped true))
    else (if is_check_section name then Ok (Enters (Skipped false))
    else layer_named tech name))

-- the words after `<<`
unfoldable pub section_line : Tech → List (List ℕ) → Result Meaning CellFaultKind
section_line tech (name ∷ closing ∷ []) = if is_word (codes ">>") closing then section_named tech name else Err Form
section_line tech _ = Err Form

abbrev pub is_section_mark : List ℕ → Bool
is_section_mark keyword = is_word (codes "<<") keyword

-- ---- lines of the header
-- the words after `magscale`
unfoldable pub scale_line : List (List ℕ) → Result Meaning CellFaultKind
scale_line (x ∷ y ∷ []) = if is_word (codes "1") x && is_word (codes "1") y then Ok Nothing else Err Scale
scale_line _ = Err Scale

unfoldable pub header_line : List ℕ → List (List ℕ) → Result Meaning CellFaultKind
header_line keyword words =
    if is_word (codes "use") keyword then Err Hierarchy
    else (if is_word (codes "tri") keyword then Err Triangle
    else (if is_word (codes "magscale") keyword then scale_line words
    else Ok Nothing))

-- ---- lines of a section that is skipped, with its uses of cells or without them
unfoldable pub skipped_line : Bool → List ℕ → Result Meaning CellFaultKind
skipped_line with_uses keyword = if is_word (codes "use") keyword && not with_uses then Err Hierarchy else Ok Nothing

-- ---- lines of a type's section
-- an optional `-` and one or more digits
abbrev pub is_integer : List ℕ → Bool
is_integer word = is_number (without_dash word)

-- the number that such a word spells, however many digits it has
unfoldable pub integer_of : List ℕ → ℤ
integer_of [] = pos 0
integer_of (b ∷ bytes) = if b == 45 then neg_ℤ (pos (value_of bytes)) else pos (value_of (b ∷ bytes))

-- the number, if the world has a line there
unfoldable pub world_line : List ℕ → Result ℤ CellFaultKind
world_line word = if is_outside (integer_of word) then Err OutsideWorld else Ok (integer_of word)

abbrev pub painted_by : ℕ → ℕ → Result Rect RectFault → Result Meaning CellFaultKind
painted_by kind plane (Ok rect) = Ok (Paints (record { plane = plane; piece = record { rect = rect; kind = kind } }))
painted_by kind plane (Err fault) = Err Form

-- xbot, ybot, xtop and ytop
unfoldable pub rect_between : ℕ → ℕ → List ℕ → List ℕ → List ℕ → List ℕ → Result Meaning CellFaultKind
rect_between kind plane left bottom right top =
    world_line left >>= λ l. world_line bottom >>= λ b. world_line right >>= λ r. world_line top >>= λ t. painted_by kind plane (rect_of l b r t)

-- the words after `rect`
unfoldable pub rect_line : ℕ → ℕ → List (List ℕ) → Result Meaning CellFaultKind
rect_line kind plane (left ∷ bottom ∷ right ∷ top ∷ []) =
    if is_integer left && is_integer bottom && is_integer right && is_integer top then rect_between kind plane left bottom right top else Err Form
rect_line kind plane _ = Err Form

unfoldable pub layer_line : ℕ → ℕ → List ℕ → List (List ℕ) → Result Meaning CellFaultKind
layer_line kind plane keyword words =
    if is_word (codes "rect") keyword then rect_line kind plane words
    else (if is_word (codes "use") keyword then Err Hierarchy
    else (if is_word (codes "tri") keyword then Err Triangle
    else Err Form))

-- ---- any line
-- a line that begins no section, in its place after the first
unfoldable pub plain_line : Place → List ℕ → List (List ℕ) → Result Meaning CellFaultKind
plain_line Start keyword words = first_line keyword words
plain_line Header keyword words = header_line keyword words
plain_line (Skipped with_uses) keyword words = skipped_line with_uses keyword
plain_line (Layer kind plane) keyword words = layer_line kind plane keyword words

abbrev pub is_start : Place → Bool
is_start Start = true
is_start place = false

-- what a line with these words says in its place
unfoldable pub line_meaning : Tech → Place → List (List ℕ) → Result Meaning CellFaultKind
line_meaning tech place [] = Ok Nothing
line_meaning tech place (keyword ∷ words) =
    if is_section_mark keyword && not (is_start place) then section_line tech words else plain_line place keyword words

-- ---- the file
-- what a line means for those after it, which add to these rectangles, or the fault of line n
abbrev pub read_after : Place → List CellRect → ℕ → Result Meaning CellFaultKind → (Place → List CellRect → Result (List CellRect) CellFault) → Result (List CellRect) CellFault
read_after place rects n (Ok Nothing) rest = rest place rects
read_after place rects n (Ok (Enters next)) rest = rest next rects
read_after place rects n (Ok (Paints painted)) rest = rest place (rects ++ painted ∷ [])
read_after place rects n (Ok Ends) rest = Ok rects
read_after place rects n (Err kind) rest = Err (record { line = n; kind = kind })

-- the rectangles so far and those of the lines that follow line n, in order. A file that isn't ended has a fault in its last line
unfoldable pub read_lines : Tech → Place → List CellRect → ℕ → List (List ℕ) → Result (List CellRect) CellFault
read_lines tech place rects n [] = Err (record { line = n; kind = Form })
read_lines tech place rects n (line ∷ lines) =
    read_after place rects (n + 1) (line_meaning tech place (words_of line)) (λ next painted. read_lines tech next painted (n + 1) lines)

unfoldable pub reading_of : Tech → List ℕ → Result (List CellRect) CellFault
reading_of tech bytes = read_lines tech Start [] 0 (raw_lines bytes)

-- ---- what a cell shows
-- what is painted on a plane, in order
abbrev pub pieces_on : ℕ → List CellRect → List Piece
pieces_on plane rects = map (λ painted. painted.piece) (filter (λ painted. painted.plane == plane) rects)

-- a later rectangle wins
abbrev pub layout_of_rects : List CellRect → Layout
layout_of_rects rects plane = picture_of (pieces_on plane rects)
