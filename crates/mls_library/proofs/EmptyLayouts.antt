-- The text of areas and marks alone: a layout that shows nothing has no section of a type.
use Rattle.std.proofs.Common.{◌≡◌, ℕ, zero, suc, ◌+◌, ◌≤◌, ◌==◌, cond, inl, inr, List, [], ◌∷◌, ◌++◌, Option, Some, None, length, refl, sym, ap, ◌∙◌, eqb-true, append_assoc, length-append, arith}
use Rattle.std.specs.Prelude.{codes}
use Rattle.std.specs.List.{range_with_len}
use Rattle.std.specs.Option.{option_map_or}
use Rattle.std.proofs.lemmas.Bool.{cases_Bool}
use Rattle.std.proofs.lemmas.List.Elements.{All-cons, All-nil}
use Rattle.std.proofs.lemmas.List.{length-map}
use Rattle.std.proofs.lemmas.List.Sums.{count_by-le-length, length-filter}
use Rattle.mls_geom.specs.Pictures.{Picture, empty_picture}
use Rattle.mls_geom.specs.Rects.{Rect}
use Rattle.mls_geom.specs.StripLists.{strips_of}
use Rattle.mls_geom.specs.Strips.{AreStrips, IsStrip}
use Rattle.mls_geom.specs.World.{world}
use Rattle.mls_geom.specs.declared.piece.Piece.{Piece}
use Rattle.mls_geom.proofs.StripLists.{strips_are_listed}
use Rattle.mls_tech.specs.Readings.{Tech, plane_of_type}
use Rattle.mls_library.specs.MarkedCells.{dirty_lines, empty_layout, mark_lines, marked, marked_line_count, marked_text, rects_section}
use Rattle.mls_library.specs.SavedCells.{end_lines, first_name, header_lines, layer_lines, layers_lines, of_kind, rect_words, section_lines, spaced, strips_on, text_of, type_numbers}
use Rattle.mls_library.proofs.SavedTexts.{text_of-append}

-- ---- one strip of space
abbrev space : Piece
space = record { rect = world; kind = 0 }

IsStrip-space : IsStrip world empty_picture space
IsStrip-space = record {
  from = omega arith;
  tall = omega arith;
  to = omega arith;
  rows = λ y from to. record {
    from = omega arith;
    wide = omega arith;
    to = omega arith;
    one_kind = λ x left right. refl;
    ends_left = λ left. absurd (omega (arith, left));
    ends_right = λ right. absurd (omega (arith, right));
  };
  ends_below = λ below. absurd (omega (arith, below));
  ends_above = λ above. absurd (omega (arith, above));
}

AreStrips-space : AreStrips world empty_picture (space ∷ [])
AreStrips-space = record {
  each = All-cons (IsStrip world empty_picture) space [] IsStrip-space (All-nil (IsStrip world empty_picture));
  whole = λ x y inside. (0, space, omega arith, refl, inside);
  ordered = λ i j d before within. absurd (omega (arith, before, within));
}

strips-empty : strips_of world empty_picture ≡ space ∷ []
strips-empty = sym (strips_are_listed world empty_picture (space ∷ []) AreStrips-space)

-- ---- no sections
no_strips : (kind : ℕ) → 1 ≤ kind → of_kind kind (space ∷ []) ≡ []
no_strips kind some = elim (cases_Bool (0 == kind)) [
  | inl is ↦ absurd (omega (arith, eqb-true 0 kind is, some))
  | inr other ↦ ap (λ b. cond b (space ∷ []) []) other
]

no_layer : (tech : Tech) (kind : ℕ) (plane : Option ℕ) → 1 ≤ kind → layer_lines tech kind (option_map_or (strips_on empty_layout) plane []) ≡ []
no_layer tech kind None some = refl
no_layer tech kind (Some plane) some = ap (λ strips. section_lines (first_name tech kind) (of_kind kind strips)) strips-empty ∙ ap (section_lines (first_name tech kind)) (no_strips kind some)

no_layers : (tech : Tech) (from n : ℕ) → 1 ≤ from → layers_lines tech (strips_on empty_layout) (range_with_len from n) ≡ []
unfolding layers_lines
no_layers tech from zero some = refl
no_layers tech from (suc n) some =
    ap (λ lines. lines ++ layers_lines tech (strips_on empty_layout) (range_with_len (from + 1) n)) (no_layer tech from (plane_of_type tech.type_planes from) some)
    ∙ no_layers tech (from + 1) n (omega (arith, some))

-- ---- the text
module _ (tech : Tech) (areas : List Rect) (marks : Picture) (strips : List Piece) (are : strips ≡ strips_of world marks) where
  no_types : layers_lines tech (strips_on empty_layout) (type_numbers tech) ≡ []
  no_types = no_layers tech 1 (length tech.type_planes) (omega arith)

  abbrev header : List (List ℕ)
  header = header_lines tech

  abbrev dirty : List (List ℕ)
  dirty = dirty_lines areas

  abbrev shown : List (List ℕ)
  shown = mark_lines (strips_of world marks)

  four_texts : (a b c d : List (List ℕ)) → text_of a ++ (text_of b ++ (text_of c ++ text_of d)) ≡ text_of ((a ++ (b ++ c)) ++ d)
  four_texts a b c d = simp (text_of-append, append_assoc)

  -- the first two lines, the areas, the marks, and the last line
  pub error_text-parts : text_of header ++ (text_of dirty ++ (text_of (mark_lines strips) ++ text_of end_lines)) ≡ marked_text tech empty_layout areas marks
  error_text-parts =
      ap (λ (list : List Piece). text_of header ++ (text_of dirty ++ (text_of (mark_lines list) ++ text_of end_lines))) are ∙ four_texts header dirty shown end_lines
      ∙ ap (λ layers. text_of ((header ++ (dirty ++ shown)) ++ (layers ++ end_lines))) (sym no_types)

  pub error_line_count-sum : 3 + length dirty + length (mark_lines strips) ≡ marked_line_count tech empty_layout areas marks
  error_line_count-sum =
      omega (
        arith,
        ap (λ (list : List Piece). length (mark_lines list)) are,
        ap (λ layers. length ((header ++ (dirty ++ shown)) ++ (layers ++ end_lines))) no_types,
        length-append (header ++ (dirty ++ shown)) end_lines,
        length-append header (dirty ++ shown),
        length-append dirty shown,
      )

-- ---- how many lines the two sections have at most
rects_section-few : (name : List ℕ) (rects : List Rect) → length (rects_section name rects) ≤ length rects + 1
rects_section-few name [] = omega arith
rects_section-few name (rect ∷ rects) = omega (arith, length-map (rect ∷ rects) (λ each. spaced (rect_words each)))

section_lines-few : (name : List ℕ) (strips : List Piece) → length (section_lines name strips) ≤ length strips + 1
section_lines-few name [] = omega arith
section_lines-few name (strip ∷ strips) = omega (arith, length-map (strip ∷ strips) (λ each. spaced (rect_words each.rect)))

pub lines-few : (areas : List Rect) (strips : List Piece) → length (dirty_lines areas) + length (mark_lines strips) ≤ length areas + length strips + 2
lines-few areas strips =
    let own = section_lines-few (codes "error_p") (of_kind marked strips) in
    let some = length-filter (λ strip. strip.kind == marked) strips in
    let all = count_by-le-length (λ (strip : Piece). strip.kind == marked) strips in
    omega (arith, rects_section-few (codes "checkpaint") areas, own, some, all)
