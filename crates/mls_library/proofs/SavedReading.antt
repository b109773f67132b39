-- The lines of a saved layout mean what they were written for.
use Rattle.std.proofs.Common.{◌≡◌, ◌≢◌, ℕ, ℤ, ◌+◌, ◌<◌, ◌≤◌, ◌==◌, Bool, false, not, ◌&&◌, if◌then◌else◌, List, [], ◌∷◌, ◌++◌, length, map, flat_map, get_or, All, Option, Some, None, Result, Ok, Err, IfSome, refl, sym, ap, subst, subst₂, ◌∙◌, arith}
use Rattle.std.specs.Prelude.{codes}
use Rattle.std.specs.Option.{option_map_or, unwrap_or}
use Rattle.std.proofs.lemmas.Bool.{eqb-true}
use Rattle.std.proofs.lemmas.List.Elements.{All-append, All-cons, All-filter, All-from_recursion, All-head, All-map, All-nil, All-tail, filter_passes}
use mathlib.Core.List.{append_assoc, append-nil}
use Rattle.mls_geom.specs.Rects.{Rect, IsRectangleIn}
use Rattle.mls_geom.specs.World.{rect_of, world}
use Rattle.mls_geom.specs.declared.piece.Piece.{Piece}
use Rattle.mls_tech.specs.Readings.{Tech, plane_of_type}
use Rattle.mls_text.specs.Lines.{IsUnbroken, raw_lines, without_return}
use Rattle.mls_text.specs.Words.{words_of}
use Rattle.mls_library.specs.CellFiles.{◌>>=◌, first_line, header_line, is_start, layer_line, line_meaning, painted_by, plain_line, read_lines, reading_of, rect_between, rect_line, section_line, section_named}
use Rattle.mls_library.specs.SavedCells.{coordinate_text, end_lines, file_lines, first_name, header_lines, layer_lines, layers_lines, of_kind, rect_words, section_lines, section_words, spaced, strip_lines, text_of, type_numbers}
use Rattle.mls_library.specs.declared.cell_rect.CellRect.{CellRect}
use Rattle.mls_library.specs.declared.fault.CellFaultKind.{CellFaultKind}
use Rattle.mls_library.specs.declared.fault.CellFaultKind.TheVariants.{Form}
use Rattle.mls_library.specs.declared.meaning.Meaning.{Meaning}
use Rattle.mls_library.specs.declared.meaning.Meaning.TheVariants.{Nothing, Enters, Paints, Ends}
use Rattle.mls_library.specs.declared.place.Place.{Place}
use Rattle.mls_library.specs.declared.place.Place.TheVariants.{Start, Header, Layer}
use Rattle.mls_library.proofs.ReadingLemmas.{read_lines-line}
use Rattle.mls_library.proofs.SavedLines.{IsKept, IsKept-plain, IsPlain, IsWord, IsWord-plain, All-spaced, map-without_return, raw_lines-text_of, without_return-append, words_of-spaced, IsPlain-test}
use Rattle.mls_library.proofs.SavedNames.{IsNameOf, IsWord-type_name, section_named-type}
use Rattle.mls_library.proofs.SavedNumbers.{IsPlain-coordinate_text, is_integer-coordinate_text, rect_of-user_lines, some-coordinate_text, world_line-coordinate_text}

-- the rectangle of a plane that a strip is read as
abbrev pub on_plane : ℕ → Piece → CellRect
on_plane plane strip = record { plane = plane; piece = strip }

-- two lines of the world, where a rectangle begins and ends
record AreWorldLines (first last : ℕ) : Type 0 where
  first_from : 3145728 ≤ first
  first_to : first ≤ 5242880
  last_from : 3145728 ≤ last
  last_to : last ≤ 5242880

world_lines : (first last : ℕ) → 3145728 ≤ first → first < last → last ≤ 5242880 → AreWorldLines first last
world_lines first last low before high = record { first_from = low; first_to = omega (arith, before, high); last_from = omega (arith, low, before); last_to = high }

-- ---- what each line means
-- the line of a rectangle
module _ (rect : Rect) (legal : IsRectangleIn world rect) where
  across : AreWorldLines rect.left rect.right
  across = world_lines rect.left rect.right legal.left_in legal.wide legal.right_in

  upward : AreWorldLines rect.bottom rect.top
  upward = world_lines rect.bottom rect.top legal.bottom_in legal.tall legal.top_in

  plain_rect_words : All IsPlain (rect_words rect)
  plain_rect_words = All-from_recursion IsPlain (rect_words rect) (
    IsPlain-test (codes "rect") refl,
    (
      IsPlain-coordinate_text rect.left across.first_from across.first_to,
      (
        IsPlain-coordinate_text rect.bottom upward.first_from upward.first_to,
        (IsPlain-coordinate_text rect.right across.last_from across.last_to, (IsPlain-coordinate_text rect.top upward.last_from upward.last_to, tt)),
      ),
    ),
  )

  some_rect_words : All (λ word. 0 < length word) (rect_words rect)
  some_rect_words = All-from_recursion (λ word. 0 < length word) (rect_words rect) (
    omega arith,
    (
      some-coordinate_text rect.left across.first_from across.first_to,
      (
        some-coordinate_text rect.bottom upward.first_from upward.first_to,
        (some-coordinate_text rect.right across.last_from across.last_to, (some-coordinate_text rect.top upward.last_from upward.last_to, tt)),
      ),
    ),
  )

  pub words_of-rect_words : words_of (spaced (rect_words rect)) ≡ rect_words rect
  words_of-rect_words =
      words_of-spaced (rect_words rect) (λ k d within. IsWord-plain (get_or (rect_words rect) k d) (some_rect_words k d within) (plain_rect_words k d within))

  pub IsKept-rect_words : IsKept (spaced (rect_words rect))
  IsKept-rect_words = IsKept-plain (rect_words rect) plain_rect_words

  module _ (tech : Tech) (kind plane : ℕ) where
    rect_between-rect_words :
        rect_between kind plane (coordinate_text rect.left) (coordinate_text rect.bottom) (coordinate_text rect.right) (coordinate_text rect.top)
        ≡ Ok (Paints (on_plane plane (record { rect = rect; kind = kind })))
    unfolding rect_between
    rect_between-rect_words =
        let l = world_line-coordinate_text rect.left across.first_from across.first_to in
        let b = world_line-coordinate_text rect.bottom upward.first_from upward.first_to in
        let r = world_line-coordinate_text rect.right across.last_from across.last_to in
        let t = world_line-coordinate_text rect.top upward.last_from upward.last_to in
        let made = λ (l b r t : Result ℤ CellFaultKind). l >>= λ x. b >>= λ y. r >>= λ z. t >>= λ w. painted_by kind plane (rect_of x y z w) in
        (λ i. made (l i) (b i) (r i) (t i)) ∙ ap (painted_by kind plane) (rect_of-user_lines rect legal)

    line_meaning-rect : line_meaning tech (Layer kind plane) (rect_words rect) ≡ Ok (Paints (on_plane plane (record { rect = rect; kind = kind })))
    unfolding line_meaning plain_line layer_line rect_line
    line_meaning-rect =
        let l = is_integer-coordinate_text rect.left across.first_from across.first_to in
        let b = is_integer-coordinate_text rect.bottom upward.first_from upward.first_to in
        let r = is_integer-coordinate_text rect.right across.last_from across.last_to in
        let t = is_integer-coordinate_text rect.top upward.last_from upward.last_to in
        let made = λ (l b r t : Bool) (read : Result Meaning CellFaultKind). if l && b && r && t then read else Err Form in
        λ i. made (l i) (b i) (r i) (t i) (rect_between-rect_words i)

-- the line of a section
pub line_meaning-section : (tech : Tech) (place : Place) (name : List ℕ) → is_start place ≡ false → line_meaning tech place (section_words name) ≡ section_named tech name
unfolding line_meaning section_line
line_meaning-section tech place name later = ap (λ start. if not start then section_named tech name else plain_line place (codes "<<") (name ∷ codes ">>" ∷ [])) later

section_named-end : (tech : Tech) → section_named tech (codes "end") ≡ Ok Ends
unfolding section_named
section_named-end tech = refl

IsWord-opens : IsWord (codes "<<")
IsWord-opens = IsWord-plain (codes "<<") (omega arith) (IsPlain-test (codes "<<") refl)

IsWord-closes : IsWord (codes ">>")
IsWord-closes = IsWord-plain (codes ">>") (omega arith) (IsPlain-test (codes ">>") refl)

pub words_of-section : (name : List ℕ) → IsWord name → words_of (spaced (section_words name)) ≡ section_words name
words_of-section name word = words_of-spaced (section_words name) (All-from_recursion IsWord (section_words name) (IsWord-opens, (word, (IsWord-closes, tt))))

pub IsUnbroken-plain : (word : List ℕ) → IsPlain word → IsUnbroken word
IsUnbroken-plain word plain = (IsKept-plain (word ∷ []) (All-cons IsPlain word [] plain (All-nil IsPlain))).unbroken

pub IsKept-section : (name : List ℕ) → IsUnbroken name → IsKept (spaced (section_words name))
IsKept-section name unbroken = record {
  unbroken =
      All-spaced (λ b. b ≢ 10) (λ same. omega (arith, same)) (section_words name)
      (All-from_recursion IsUnbroken (section_words name)
      (IsUnbroken-plain (codes "<<") (IsPlain-test (codes "<<") refl), (unbroken, (IsUnbroken-plain (codes ">>") (IsPlain-test (codes ">>") refl), tt))));
  ends = without_return-append (60 ∷ 60 ∷ 32 ∷ name) 32 (62 ∷ 62 ∷ []) refl;
}

-- the first two lines
line_meaning-magic : (tech : Tech) → line_meaning tech Start (codes "magic" ∷ []) ≡ Ok (Enters Header)
unfolding line_meaning plain_line first_line
line_meaning-magic tech = refl

line_meaning-tech : (tech : Tech) (words : List (List ℕ)) → line_meaning tech Header (codes "tech" ∷ words) ≡ Ok Nothing
unfolding line_meaning plain_line header_line
line_meaning-tech tech words = refl

-- whatever the technology is called, a carriage return at the end dropped
words_of-tech : (name : List ℕ) → words_of (without_return (spaced (codes "tech" ∷ name ∷ []))) ≡ codes "tech" ∷ words_of (without_return name)
words_of-tech [] = refl
words_of-tech (b ∷ name) = refl

-- ---- what lines add to the rectangles before them, wherever the file begins
abbrev pub Reads : Tech → Place → List (List ℕ) → List CellRect → Type 0
Reads tech place lines added = (rects : List CellRect) (n : ℕ) → read_lines tech place rects n lines ≡ Ok (rects ++ added)

module _ (tech : Tech) (place : Place) (line : List ℕ) (lines : List (List ℕ)) (added : List CellRect) where
  pub Reads-nothing : line_meaning tech place (words_of line) ≡ Ok Nothing → Reads tech place lines added → Reads tech place (line ∷ lines) added
  Reads-nothing meant rest rects n = sym (read_lines-line tech place rects n line lines _ (sym meant)) ∙ rest rects (n + 1)

  pub Reads-enters : (next : Place) → line_meaning tech place (words_of line) ≡ Ok (Enters next) → Reads tech next lines added → Reads tech place (line ∷ lines) added
  Reads-enters next meant rest rects n = sym (read_lines-line tech place rects n line lines _ (sym meant)) ∙ rest rects (n + 1)

  Reads-paints : (painted : CellRect) → line_meaning tech place (words_of line) ≡ Ok (Paints painted) → Reads tech place lines added → Reads tech place (line ∷ lines) (painted ∷ added)
  Reads-paints painted meant rest rects n =
      sym (read_lines-line tech place rects n line lines _ (sym meant)) ∙ rest (rects ++ painted ∷ []) (n + 1) ∙ ap Ok (append_assoc rects (painted ∷ []) added)

Reads-ends : (tech : Tech) (place : Place) (line : List ℕ) (lines : List (List ℕ)) → line_meaning tech place (words_of line) ≡ Ok Ends → Reads tech place (line ∷ lines) []
Reads-ends tech place line lines meant rects n = sym (read_lines-line tech place rects n line lines _ (sym meant)) ∙ ap Ok (sym (append-nil rects))

-- after the first line, and after any other
abbrev pub ReadsLater : Tech → List (List ℕ) → List CellRect → Type 0
ReadsLater tech lines added = (place : Place) → is_start place ≡ false → Reads tech place lines added

-- ---- a section
module _ (tech : Tech) (kind plane : ℕ) where
  -- the strip is one of the type, in the world
  abbrev IsOwnStrip : Piece → Type 0
  IsOwnStrip strip = IsRectangleIn world strip.rect × (strip.kind ≡ kind)

  Reads-strips : (strips : List Piece) → All IsOwnStrip strips → (more : List (List ℕ)) (tail : List CellRect) → Reads tech (Layer kind plane) more tail
      → Reads tech (Layer kind plane) (strip_lines strips ++ more) (map (on_plane plane) strips ++ tail)
  Reads-strips [] own more tail rest = rest
  Reads-strips (strip ∷ strips) own more tail rest =
      let first = All-head IsOwnStrip strip strips own in
      let same : ◌≡◌ {A = Piece} (record { rect = strip.rect; kind = kind }) strip = λ i. record { rect = strip.rect; kind = sym first.1 i } in
      Reads-paints tech (Layer kind plane) (spaced (rect_words strip.rect)) (strip_lines strips ++ more) (map (on_plane plane) strips ++ tail) (on_plane plane strip)
      (ap (line_meaning tech (Layer kind plane)) (words_of-rect_words strip.rect first.0) ∙ line_meaning-rect strip.rect first.0 tech kind plane ∙ ap (λ s. Ok (Paints (on_plane plane s))) same)
      (Reads-strips strips (All-tail IsOwnStrip strip strips own) more tail rest)

  module _ (name : List ℕ) (is : IsNameOf tech kind plane name) where
    Reads-section : (strips : List Piece) → All IsOwnStrip strips → (more : List (List ℕ)) (tail : List CellRect) → ReadsLater tech more tail
        → ReadsLater tech (section_lines name strips ++ more) (map (on_plane plane) strips ++ tail)
    Reads-section [] own more tail rest place later = rest place later
    Reads-section (strip ∷ strips) own more tail rest place later =
        Reads-enters tech place (spaced (section_words name)) (strip_lines (strip ∷ strips) ++ more) (map (on_plane plane) (strip ∷ strips) ++ tail) (Layer kind plane)
        (ap (line_meaning tech place) (words_of-section name (IsWord-type_name name is.spelled)) ∙ line_meaning-section tech place name later ∙ section_named-type tech kind plane name is)
        (Reads-strips (strip ∷ strips) own more tail (rest (Layer kind plane) refl))

    IsKept-section_lines : (strips : List Piece) → All IsOwnStrip strips → All IsKept (section_lines name strips)
    IsKept-section_lines [] own = All-nil IsKept
    IsKept-section_lines (strip ∷ strips) own =
        All-cons IsKept (spaced (section_words name)) (strip_lines (strip ∷ strips)) (IsKept-section name is.unbroken)
        (All-map IsKept (λ each. spaced (rect_words each.rect)) (strip ∷ strips) (λ k d within. IsKept-rect_words (get_or (strip ∷ strips) k d).rect (own k d within).0))

-- ---- the sections of types
-- the first name of the type names it
abbrev pub IsNamed : Tech → ℕ → Type 0
IsNamed tech kind = (plane : ℕ) × IsNameOf tech kind plane (first_name tech kind)

-- the rectangles of a type, where its plane has these strips
abbrev pub layer_rects : (ℕ → List Piece) → ℕ → Option ℕ → List CellRect
layer_rects strips kind found = option_map_or (λ plane. map (on_plane plane) (of_kind kind (strips plane))) found []

abbrev pub layers_rects : Tech → (ℕ → List Piece) → List ℕ → List CellRect
layers_rects tech strips kinds = flat_map (λ kind. layer_rects strips kind (plane_of_type tech.type_planes kind)) kinds

module _ (tech : Tech) (strips : ℕ → List Piece) (legal : (plane : ℕ) → All (λ strip. IsRectangleIn world strip.rect) (strips plane)) where
  own_strips : (kind plane : ℕ) → All (IsOwnStrip tech kind plane) (of_kind kind (strips plane))
  own_strips kind plane k d within = (
    All-filter (λ strip. strip.kind == kind) (λ strip. IsRectangleIn world strip.rect) (strips plane) (legal plane) k d within,
    eqb-true _ kind (filter_passes (λ strip. strip.kind == kind) (strips plane) k d within),
  )

  abbrev type_lines : ℕ → Option ℕ → List (List ℕ)
  type_lines kind found = layer_lines tech kind (option_map_or strips found [])

  abbrev type_rects : ℕ → List CellRect
  type_rects kind = layer_rects strips kind (plane_of_type tech.type_planes kind)

  Reads-layer : (kind : ℕ) → IsNamed tech kind → (more : List (List ℕ)) (tail : List CellRect) → ReadsLater tech more tail
      → ReadsLater tech (type_lines kind (plane_of_type tech.type_planes kind) ++ more) (type_rects kind ++ tail)
  Reads-layer kind (plane, is) more tail rest =
      let P = λ (found : Option ℕ). ReadsLater tech (type_lines kind found ++ more) (layer_rects strips kind found ++ tail) in
      subst P (sym is.place) (Reads-section tech kind plane (first_name tech kind) is (of_kind kind (strips plane)) (own_strips kind plane) more tail rest)

  pub Reads-layers : (kinds : List ℕ) → All (IsNamed tech) kinds → (more : List (List ℕ)) (tail : List CellRect) → ReadsLater tech more tail
      → ReadsLater tech (layers_lines tech strips kinds ++ more) (layers_rects tech strips kinds ++ tail)
  unfolding layers_lines
  Reads-layers [] named more tail rest = rest
  Reads-layers (kind ∷ kinds) named more tail rest =
      subst₂ (ReadsLater tech) (sym (append_assoc (type_lines kind (plane_of_type tech.type_planes kind)) (layers_lines tech strips kinds) more))
      (sym (append_assoc (type_rects kind) (layers_rects tech strips kinds) tail))
      (Reads-layer kind (All-head (IsNamed tech) kind kinds named) (layers_lines tech strips kinds ++ more) (layers_rects tech strips kinds ++ tail)
      (Reads-layers kinds (All-tail (IsNamed tech) kind kinds named) more tail rest))

  IsKept-layer : (kind : ℕ) → IsNamed tech kind → All IsKept (type_lines kind (plane_of_type tech.type_planes kind))
  IsKept-layer kind (plane, is) =
      let P = λ (found : Option ℕ). All IsKept (type_lines kind found) in
      subst P (sym is.place) (IsKept-section_lines tech kind plane (first_name tech kind) is (of_kind kind (strips plane)) (own_strips kind plane))

  pub IsKept-layers : (kinds : List ℕ) → All (IsNamed tech) kinds → All IsKept (layers_lines tech strips kinds)
  unfolding layers_lines
  IsKept-layers [] named = All-nil IsKept
  IsKept-layers (kind ∷ kinds) named =
      All-append IsKept (type_lines kind (plane_of_type tech.type_planes kind)) (layers_lines tech strips kinds) (IsKept-layer kind (All-head (IsNamed tech) kind kinds named))
      (IsKept-layers kinds (All-tail (IsNamed tech) kind kinds named))

-- ---- the file
IsUnbroken-written : (name : Option (List ℕ)) → IfSome name IsUnbroken → IsUnbroken (unwrap_or name (codes "none"))
IsUnbroken-written None unbroken = IsUnbroken-plain (codes "none") (IsPlain-test (codes "none") refl)
IsUnbroken-written (Some name) unbroken = unbroken

pub IsKept-end_lines : All IsKept end_lines
IsKept-end_lines = All-cons IsKept (spaced (section_words (codes "end"))) [] (IsKept-section (codes "end") (IsUnbroken-plain (codes "end") (IsPlain-test (codes "end") refl))) (All-nil IsKept)

pub Reads-end : (tech : Tech) → ReadsLater tech end_lines []
Reads-end tech place later = Reads-ends tech place (spaced (section_words (codes "end"))) [] (line_meaning-section tech place (codes "end") later ∙ section_named-end tech)

-- lines after the header
module _ (tech : Tech) (unbroken : IfSome tech.name IsUnbroken) (lines : List (List ℕ)) (kept : All IsKept lines) where
  abbrev tech_line : List ℕ
  tech_line = spaced (codes "tech" ∷ unwrap_or tech.name (codes "none") ∷ [])

  unbroken_tech_line : IsUnbroken tech_line
  unbroken_tech_line =
      All-spaced (λ b. b ≢ 10) (λ same. omega (arith, same)) (codes "tech" ∷ unwrap_or tech.name (codes "none") ∷ [])
      (All-from_recursion IsUnbroken (codes "tech" ∷ unwrap_or tech.name (codes "none") ∷ [])
      (IsUnbroken-plain (codes "tech") (IsPlain-test (codes "tech") refl), (IsUnbroken-written tech.name unbroken, tt)))

  unbroken_lines : All IsUnbroken (header_lines tech ++ lines)
  unbroken_lines =
      All-cons IsUnbroken (codes "magic") (tech_line ∷ lines) (IsUnbroken-plain (codes "magic") (IsPlain-test (codes "magic") refl))
      (All-cons IsUnbroken tech_line lines unbroken_tech_line (λ k d within. (kept k d within).unbroken))

  raw_lines-file : raw_lines (text_of (header_lines tech ++ lines)) ≡ codes "magic" ∷ without_return tech_line ∷ lines
  raw_lines-file =
      raw_lines-text_of (header_lines tech ++ lines) unbroken_lines ∙ ap (λ all. codes "magic" ∷ without_return tech_line ∷ all) (map-without_return lines kept)

  -- the file is read as what they add
  pub reading_of-after_header : (added : List CellRect) → ReadsLater tech lines added → reading_of tech (text_of (header_lines tech ++ lines)) ≡ Ok added
  unfolding reading_of
  reading_of-after_header added reads =
      ap (read_lines tech Start [] 0) raw_lines-file
      ∙ Reads-enters tech Start (codes "magic") (without_return tech_line ∷ lines) added Header (line_meaning-magic tech)
      (Reads-nothing tech Header (without_return tech_line) lines added
      (ap (line_meaning tech Header) (words_of-tech (unwrap_or tech.name (codes "none"))) ∙ line_meaning-tech tech _) (reads Header refl))
      [] 0

-- the sections of all types, and the file's last line
module _ (tech : Tech) (strips : ℕ → List Piece) (legal : (plane : ℕ) → All (λ strip. IsRectangleIn world strip.rect) (strips plane)) (named : All (IsNamed tech) (type_numbers tech)) where
  abbrev pub layers_to_end : List (List ℕ)
  layers_to_end = layers_lines tech strips (type_numbers tech) ++ end_lines

  pub IsKept-layers_to_end : All IsKept layers_to_end
  IsKept-layers_to_end = All-append IsKept (layers_lines tech strips (type_numbers tech)) end_lines (IsKept-layers tech strips legal (type_numbers tech) named) IsKept-end_lines

  pub Reads-layers_to_end : ReadsLater tech layers_to_end (layers_rects tech strips (type_numbers tech))
  Reads-layers_to_end =
      subst (ReadsLater tech layers_to_end) (append-nil (layers_rects tech strips (type_numbers tech)))
      (Reads-layers tech strips legal (type_numbers tech) named end_lines [] (Reads-end tech))

  -- the text is read as the rectangles of its types, in order
  pub reading_of-file_lines : IfSome tech.name IsUnbroken → reading_of tech (text_of (file_lines tech strips)) ≡ Ok (layers_rects tech strips (type_numbers tech))
  reading_of-file_lines unbroken =
      reading_of-after_header tech unbroken layers_to_end IsKept-layers_to_end (layers_rects tech strips (type_numbers tech)) Reads-layers_to_end
