-- The text of a saved layout, appended part by part.
use Rattle.std.proofs.Common.{◌≡◌, ◌≢◌, ℕ, ℤ, pos, ◌+ℤ◌, zero, suc, ◌+◌, ◌<◌, ◌≤◌, ◌==◌, Bool, true, false, if◌then◌else◌, List, [], ◌∷◌, ◌++◌, length, map, flat_map, take, drop, get_or, Some, refl, sym, ap, subst, to_z, of_z, w32, ◌∙◌, le_of_suc-le-suc, length-append, arith}
use mir.Val.{SFits}
use Rattle.std.specs.Prelude.{OnErr, Result, Ok, Err, codes, count_by}
use Rattle.std.specs.Fmt.{signed_decimal}
use Rattle.std.specs.List.{range_with_len}
use Rattle.std.specs.Option.{option_map_or}
use Rattle.std.proofs.lemmas.Int.{ints, to_z-of_z}
use Rattle.std.proofs.lemmas.List.{length-map, length-take, map-append, take-append-drop}
use Rattle.std.proofs.lemmas.List.Concat.{flat_map-append}
use Rattle.std.proofs.lemmas.List.Elements.{filter-append, filter_more}
use Rattle.std.proofs.lemmas.List.Sums.{length-filter}
use mathlib.Core.List.{append_assoc, append-nil}
use Rattle.mls_geom.specs.Rects.{Rect, IsRectangleIn}
use Rattle.mls_geom.specs.World.{origin, world}
use Rattle.mls_geom.specs.declared.piece.Piece.{Piece}
use Rattle.mls_tech.specs.Readings.{Tech, plane_of_type}
use Rattle.mls_library.specs.SavedCells.{Extends, coordinate_text, end_lines, layer_lines, layers_lines, of_kind, rect_words, section_lines, section_words, spaced, strip_lines, text_of, type_numbers}
use Rattle.mls_library.proofs.Ranges.{range-push}
use Rattle.mls_library.proofs.SavedNumbers.{short_line, user_line}

-- ---- what stays in front
pub on_err : {T E : Type 0} (r : Result T E) (P : Type 0) → P → OnErr r P
on_err (Ok x) P p = tt
on_err (Err e) P p = p

take-of_take : (m n : ℕ) (xs : List ℕ) → m ≤ n → take m (take n xs) ≡ take m xs
take-of_take zero n xs within = refl
take-of_take (suc m) zero xs within = absurd (omega arith)
take-of_take (suc m) (suc n) [] within = refl
take-of_take (suc m) (suc n) (x ∷ xs) within = ap (λ l. x ∷ l) (take-of_take m n xs (le_of_suc-le-suc within))

take-length-append : (old more : List ℕ) → take (length old) (old ++ more) ≡ old
take-length-append [] more = refl
take-length-append (b ∷ old) more = ap (λ l. b ∷ l) (take-length-append old more)

pub Extends-appended : (old new more : List ℕ) → new ≡ old ++ more → Extends old new
Extends-appended old new more appended = ap (take (length old)) appended ∙ take-length-append old more

pub Extends-trans : (old middle new : List ℕ) → Extends old middle → Extends middle new → Extends old new
Extends-trans old middle new first second =
    let longer : length old ≤ length middle = omega (arith, ap length first, length-take (length old) middle) in
    sym (take-of_take (length old) (length middle) new longer) ∙ ap (take (length old)) second ∙ first

-- after two texts that were appended
pub Extends-after : (old first second new more others : List ℕ) → first ≡ old ++ more → second ≡ first ++ others → Extends second new → Extends old new
Extends-after old first second new more others one two rest =
    Extends-trans old first new (Extends-appended old first more one) (Extends-trans first second new (Extends-appended first second others two) rest)

-- ---- the line of a rectangle
-- a side as users count it, as a call passes it on
abbrev pub passed : ℤ → ℤ
passed z = to_z w32 (of_z w32 z)

pub coordinate_text-of : (line : ℕ) (z : ℤ) → world.left ≤ line → line ≤ world.right → pos line ≡ z +ℤ pos origin → signed_decimal (passed z) ≡ coordinate_text line
coordinate_text-of line z from to tied =
    let same : user_line line ≡ z = omega (arith, ints, tied) in
    let fits : SFits w32 z = subst (SFits w32) same (record { sfits = short_line line from to }) in
    ap signed_decimal (to_z-of_z w32 z fits ∙ sym same)

line_of_words : (l b r t : List ℕ)
    → codes "rect " ++ ((l ++ 32 ∷ []) ++ ((b ++ 32 ∷ []) ++ ((r ++ 32 ∷ []) ++ (t ++ 10 ∷ [])))) ≡ spaced (codes "rect" ∷ l ∷ b ∷ r ∷ t ∷ []) ++ 10 ∷ []
line_of_words l b r t = simp append_assoc

pub rect_line_parts : (rect : Rect)
    → codes "rect " ++ ((coordinate_text rect.left ++ 32 ∷ []) ++ ((coordinate_text rect.bottom ++ 32 ∷ []) ++ ((coordinate_text rect.right ++ 32 ∷ []) ++ (coordinate_text rect.top ++ 10 ∷ []))))
    ≡ spaced (rect_words rect) ++ 10 ∷ []
rect_line_parts rect = line_of_words (coordinate_text rect.left) (coordinate_text rect.bottom) (coordinate_text rect.right) (coordinate_text rect.top)

-- the sides of a rectangle, each with the byte that follows it
module _ (rect : Rect) (z : ℤ) (end : ℕ) (legal : IsRectangleIn world rect) where
  written : (line : ℕ) → world.left ≤ line → line ≤ world.right → pos line ≡ z +ℤ pos origin → signed_decimal (passed z) ++ end ∷ [] ≡ coordinate_text line ++ end ∷ []
  written line from to tied = ap (λ text. text ++ end ∷ []) (coordinate_text-of line z from to tied)

  pub left_written : pos rect.left ≡ z +ℤ pos origin → signed_decimal (passed z) ++ end ∷ [] ≡ coordinate_text rect.left ++ end ∷ []
  left_written tied =
      let right_to : rect.right ≤ 5242880 = legal.right_in in
      written rect.left legal.left_in (omega (arith, legal.wide, right_to)) tied

  pub bottom_written : pos rect.bottom ≡ z +ℤ pos origin → signed_decimal (passed z) ++ end ∷ [] ≡ coordinate_text rect.bottom ++ end ∷ []
  bottom_written tied =
      let top_to : rect.top ≤ 5242880 = legal.top_in in
      written rect.bottom legal.bottom_in (omega (arith, legal.tall, top_to)) tied

  pub right_written : pos rect.right ≡ z +ℤ pos origin → signed_decimal (passed z) ++ end ∷ [] ≡ coordinate_text rect.right ++ end ∷ []
  right_written tied =
      let left_from : 3145728 ≤ rect.left = legal.left_in in
      written rect.right (omega (arith, legal.wide, left_from)) legal.right_in tied

  pub top_written : pos rect.top ≡ z +ℤ pos origin → signed_decimal (passed z) ++ end ∷ [] ≡ coordinate_text rect.top ++ end ∷ []
  top_written tied =
      let bottom_from : 3145728 ≤ rect.bottom = legal.bottom_in in
      written rect.top (omega (arith, legal.tall, bottom_from)) legal.top_in tied

-- ---- texts of lines
pub text_of-append : (xs ys : List (List ℕ)) → text_of (xs ++ ys) ≡ text_of xs ++ text_of ys
unfolding text_of
text_of-append xs ys = flat_map-append (λ line. line ++ 10 ∷ []) xs ys

pub text_of-none : text_of [] ≡ []
unfolding text_of
text_of-none = refl

text_of-line : (line : List ℕ) → text_of (line ∷ []) ≡ line ++ 10 ∷ []
unfolding text_of
text_of-line line = append-nil (line ++ 10 ∷ [])

-- ---- a line for each of a list
module _ {X : Type 0} (line : X → List ℕ) where
  abbrev pub text_by : List X → List ℕ
  text_by xs = text_of (map line xs)

  pub text_by-append : (xs ys : List X) → text_by (xs ++ ys) ≡ text_by xs ++ text_by ys
  text_by-append xs ys = ap text_of (map-append line xs ys) ∙ text_of-append (map line xs) (map line ys)

  pub text_by-push : (xs : List X) (x : X) → text_by (xs ++ x ∷ []) ≡ text_by xs ++ (line x ++ 10 ∷ [])
  text_by-push xs x = text_by-append xs (x ∷ []) ∙ ap (λ text. text_by xs ++ text) (text_of-line (line x))

-- ---- the strips of a kind
abbrev pub strip_line : Piece → List ℕ
strip_line strip = spaced (rect_words strip.rect)

module _ (kind : ℕ) where
  pub length-of_kind : (strips : List Piece) → length (of_kind kind strips) ≡ count_by (λ strip. strip.kind == kind) strips
  length-of_kind strips = length-filter (λ strip. strip.kind == kind) strips

  abbrev pub strips_text : List Piece → List ℕ
  strips_text strips = text_of (strip_lines (of_kind kind strips))

  pub strips_text-append : (xs ys : List Piece) → strips_text (xs ++ ys) ≡ strips_text xs ++ strips_text ys
  strips_text-append xs ys =
      ap (text_by strip_line) (filter-append (λ strip. strip.kind == kind) xs ys) ∙ text_by-append strip_line (of_kind kind xs) (of_kind kind ys)

  module _ (strips : List Piece) (i : ℕ) (d : Piece) (within : i < length strips) where
    more : (b : Bool) → ((get_or strips i d).kind == kind) ≡ b → of_kind kind (take (i + 1) strips) ≡ of_kind kind (take i strips) ++ (if b then get_or strips i d ∷ [] else [])
    more b is =
        filter_more (λ strip. strip.kind == kind) strips i d within ∙ ap (λ t. of_kind kind (take i strips) ++ (if t then get_or strips i d ∷ [] else [])) is

    -- one more strip of the kind
    pub strips_text-more : ((get_or strips i d).kind == kind) ≡ true → strips_text (take (i + 1) strips) ≡ strips_text (take i strips) ++ (strip_line (get_or strips i d) ++ 10 ∷ [])
    strips_text-more is = ap (text_by strip_line) (more true is) ∙ text_by-push strip_line (of_kind kind (take i strips)) (get_or strips i d)

    -- one more of another
    pub strips_text-other : ((get_or strips i d).kind == kind) ≡ false → strips_text (take (i + 1) strips) ≡ strips_text (take i strips)
    strips_text-other is = ap (text_by strip_line) (more false is ∙ append-nil (of_kind kind (take i strips)))

-- a loop over strips, at a strip of the kind and at another
module _ (kind : ℕ) (strips : List Piece) (i : ℕ) (strip : Piece) (within : i < length strips) (here : strip ≡ get_or strips i strip) where
  pub strips_text-pushed : (strip.kind == kind) ≡ true → strips_text kind (take i strips) ++ (strip_line strip ++ 10 ∷ []) ≡ strips_text kind (take (i + 1) strips)
  strips_text-pushed own =
      ap (λ s. strips_text kind (take i strips) ++ (strip_line s ++ 10 ∷ [])) here ∙ sym (strips_text-more kind strips i strip within (sym (ap (λ s. s.kind == kind) here) ∙ own))

  pub strips_text-passed : (strip.kind == kind) ≡ false → strips_text kind (take i strips) ≡ strips_text kind (take (i + 1) strips)
  strips_text-passed other = sym (strips_text-other kind strips i strip within (sym (ap (λ s. s.kind == kind) here) ∙ other))

  -- the strips before it, its line, and the strips after it
  pub strips_text-parts : (strip.kind == kind) ≡ true
      → strips_text kind (take i strips) ++ ((strip_line strip ++ 10 ∷ []) ++ strips_text kind (drop (i + 1) strips)) ≡ strips_text kind strips
  strips_text-parts own =
      sym (append_assoc (strips_text kind (take i strips)) (strip_line strip ++ 10 ∷ []) (strips_text kind (drop (i + 1) strips)))
      ∙ ap (λ text. text ++ strips_text kind (drop (i + 1) strips)) (strips_text-pushed own)
      ∙ sym (strips_text-append kind (take (i + 1) strips) (drop (i + 1) strips)) ∙ ap (strips_text kind) (take-append-drop (i + 1) strips)

-- ---- a section
pub section_line_parts : (name : List ℕ) → codes "<< " ++ (name ++ codes " >>\n") ≡ text_of (spaced (section_words name) ∷ [])
unfolding text_of
section_line_parts name = simp append_assoc

pub length-section_lines-none : (name : List ℕ) (strips : List Piece) → length strips ≡ 0 → 0 ≡ length (section_lines name strips)
length-section_lines-none name [] none = refl
length-section_lines-none name (strip ∷ strips) none = absurd (omega (arith, none))

pub length-section_lines-some : (name : List ℕ) (strips : List Piece) (n : ℕ) → length strips ≡ n → 1 ≤ n → n + 1 ≡ length (section_lines name strips)
length-section_lines-some name [] n all some = absurd (omega (arith, all, some))
length-section_lines-some name (strip ∷ strips) n all some = omega (arith, all, length-map (strip ∷ strips) (λ each. spaced (rect_words each.rect)))

pub section_lines-none : (name : List ℕ) (strips : List Piece) → 0 ≡ length (section_lines name strips) → text_of (section_lines name strips) ≡ []
section_lines-none name [] none = text_of-none
section_lines-none name (strip ∷ strips) none = absurd (omega (arith, none))

pub section_lines-some : (name : List ℕ) (strips : List Piece) (n : ℕ) → n ≡ length (section_lines name strips) → n ≢ 0
    → text_of (spaced (section_words name) ∷ []) ++ text_of (strip_lines strips) ≡ text_of (section_lines name strips)
section_lines-some name [] n all some = absurd (some all)
section_lines-some name (strip ∷ strips) n all some = sym (text_of-append (spaced (section_words name) ∷ []) (strip_lines (strip ∷ strips)))

-- ---- the whole file
-- lines, and after them the sections of the first types
abbrev pub lines_up_to : List (List ℕ) → Tech → (ℕ → List Piece) → ℕ → List (List ℕ)
lines_up_to front tech strips types = front ++ layers_lines tech strips (range_with_len 1 types)

-- lines, and after them the sections of all types and the file's last line
abbrev pub lines_with_layers : List (List ℕ) → Tech → (ℕ → List Piece) → List (List ℕ)
lines_with_layers front tech strips = front ++ (layers_lines tech strips (type_numbers tech) ++ end_lines)

module _ (tech : Tech) (strips : ℕ → List Piece) where
  abbrev pub type_lines : ℕ → List (List ℕ)
  type_lines kind = layer_lines tech kind (option_map_or strips (plane_of_type tech.type_planes kind) [])

  layers_lines-push : (kinds : List ℕ) (kind : ℕ) → layers_lines tech strips (kinds ++ kind ∷ []) ≡ layers_lines tech strips kinds ++ type_lines kind
  unfolding layers_lines
  layers_lines-push kinds kind = flat_map-append type_lines kinds (kind ∷ []) ∙ ap (λ l. flat_map type_lines kinds ++ l) (append-nil (type_lines kind))

  layers_lines-none : layers_lines tech strips [] ≡ []
  unfolding layers_lines
  layers_lines-none = refl

module _ (front : List (List ℕ)) (tech : Tech) (strips : ℕ → List Piece) where
  abbrev up_to : ℕ → List (List ℕ)
  up_to types = lines_up_to front tech strips types

  pub lines_up_to-next : (types : ℕ) → up_to (suc types) ≡ up_to types ++ type_lines tech strips (1 + types)
  lines_up_to-next types =
      ap (λ kinds. front ++ layers_lines tech strips kinds) (range-push 1 types) ∙ ap (λ l. front ++ l) (layers_lines-push tech strips (range_with_len 1 types) (1 + types))
      ∙ sym (append_assoc front (layers_lines tech strips (range_with_len 1 types)) (type_lines tech strips (1 + types)))

  -- before the first type
  pub lines_up_to-none : up_to 0 ≡ front
  lines_up_to-none = ap (λ l. front ++ l) (layers_lines-none tech strips) ∙ append-nil front

  -- one type more, on whose plane these strips are
  pub lines_up_to-more : (types plane : ℕ) (list : List Piece) → plane_of_type tech.type_planes (types + 1) ≡ Some plane → list ≡ strips plane
      → up_to (types + 1) ≡ up_to types ++ layer_lines tech (types + 1) list
  lines_up_to-more types plane list place listed =
      let next : 1 + types ≡ types + 1 = omega arith in
      let later : types + 1 ≡ suc types = omega arith in
      ap (λ kinds. front ++ layers_lines tech strips kinds) (ap (range_with_len 1) later ∙ range-push 1 types ∙ ap (λ kind. range_with_len 1 types ++ kind ∷ []) next)
      ∙ ap (λ l. front ++ l) (layers_lines-push tech strips (range_with_len 1 types) (types + 1))
      ∙ sym (append_assoc front (layers_lines tech strips (range_with_len 1 types)) (type_lines tech strips (types + 1)))
      ∙ ap (λ found. up_to types ++ layer_lines tech (types + 1) (option_map_or strips found [])) place ∙ ap (λ l. up_to types ++ layer_lines tech (types + 1) l) (sym listed)

  -- all types
  pub lines_up_to-all : up_to (length tech.type_planes) ++ end_lines ≡ lines_with_layers front tech strips
  lines_up_to-all = append_assoc front (layers_lines tech strips (type_numbers tech)) end_lines

  -- ---- for a loop over the types that appends to a text and counts its lines
  pub text_up_to-more : (base old new : List ℕ) (types plane : ℕ) (list : List Piece) → plane_of_type tech.type_planes (types + 1) ≡ Some plane → list ≡ strips plane
      → old ≡ base ++ text_of (up_to types) → new ≡ old ++ text_of (layer_lines tech (types + 1) list) → new ≡ base ++ text_of (up_to (types + 1))
  text_up_to-more base old new types plane list place listed before appended =
      appended ∙ ap (λ text. text ++ text_of (layer_lines tech (types + 1) list)) before ∙ append_assoc base (text_of (up_to types)) (text_of (layer_lines tech (types + 1) list))
      ∙ ap (λ text. base ++ text) (sym (text_of-append (up_to types) (layer_lines tech (types + 1) list)) ∙ ap text_of (sym (lines_up_to-more types plane list place listed)))

  pub text_up_to-all : (base old new : List ℕ) → old ≡ base ++ text_of (up_to (length tech.type_planes)) → new ≡ old ++ text_of end_lines
      → new ≡ base ++ text_of (lines_with_layers front tech strips)
  text_up_to-all base old new before appended =
      let all = up_to (length tech.type_planes) in
      appended ∙ ap (λ text. text ++ text_of end_lines) before ∙ append_assoc base (text_of all) (text_of end_lines)
      ∙ ap (λ text. base ++ text) (sym (text_of-append all end_lines) ∙ ap text_of lines_up_to-all)

  pub count_up_to-none : length (up_to 0) ≡ length front
  count_up_to-none = ap length lines_up_to-none

  pub count_up_to-more : (types plane : ℕ) (list : List Piece) → plane_of_type tech.type_planes (types + 1) ≡ Some plane → list ≡ strips plane
      → length (up_to (types + 1)) ≡ length (up_to types) + length (layer_lines tech (types + 1) list)
  count_up_to-more types plane list place listed = ap length (lines_up_to-more types plane list place listed) ∙ length-append (up_to types) (layer_lines tech (types + 1) list)

  pub count_up_to-all : length (lines_with_layers front tech strips) ≡ length (up_to (length tech.type_planes)) + 1
  count_up_to-all = ap length (sym lines_up_to-all) ∙ length-append (up_to (length tech.type_planes)) end_lines
