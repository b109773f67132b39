-- The text of a layout with its marks, appended part by part.
use Rattle.std.proofs.Common.{◌≡◌, ℕ, ◌+◌, ◌≤◌, List, [], ◌∷◌, ◌++◌, length, sym, ap, ◌∙◌, append_assoc, length-append, arith, codes}
use Rattle.std.proofs.lemmas.List.{length-map}
use Rattle.mls_session.specs.Common.{Layout, Picture, Piece, Rect, Tech, dirty_lines, end_lines, header_lines, layers_lines, mark_lines, marked, marked_line_count, marked_text, rect_words, spaced, strips_of, strips_on, text_of, type_numbers, world}
use Rattle.mls_library.proofs.SavedTexts.{text_of-append}
use Rattle.mls_session.proofs.SavedCounts.{kind_lines-few, strips_few}

five_texts : (a b c d e : List (List ℕ)) → text_of ((a ++ (b ++ c)) ++ (d ++ e)) ≡ text_of a ++ (text_of b ++ (text_of c ++ (text_of d ++ text_of e)))
five_texts a b c d e = simp (text_of-append, append_assoc)

five_parts : (o a b c d e : List ℕ) → ((((o ++ a) ++ b) ++ c) ++ d) ++ e ≡ o ++ (a ++ (b ++ (c ++ (d ++ e))))
five_parts o a b c d e = simp append_assoc

module _ (tech : Tech) (layout : Layout) (areas : List Rect) (picture : Picture) (marks : List Piece) (are : marks ≡ strips_of world picture) where
  -- the first two lines, the areas, the marks, the types, and the last line
  pub marked_text-appended :
      (o0 o1 o2 o3 o4 o5 : List ℕ) → o1 ≡ o0 ++ text_of (header_lines tech) → o2 ≡ o1 ++ text_of (dirty_lines areas) → o3 ≡ o2 ++ text_of (mark_lines marks)
      → o4 ≡ o3 ++ text_of (layers_lines tech (strips_on layout) (type_numbers tech)) → o5 ≡ o4 ++ text_of end_lines → o5 ≡ o0 ++ marked_text tech layout areas picture
  marked_text-appended o0 o1 o2 o3 o4 o5 e1 e2 e3 e4 e5 =
      let header = text_of (header_lines tech) in
      let dirty = text_of (dirty_lines areas) in
      let marks_text = text_of (mark_lines (strips_of world picture)) in
      let layers = text_of (layers_lines tech (strips_on layout) (type_numbers tech)) in
      let last = text_of end_lines in
      let add = λ (text : List ℕ) (o : List ℕ). o ++ text in
      let listed = e3 ∙ ap (λ (list : List Piece). o2 ++ text_of (mark_lines list)) are in
      e5 ∙ ap (add last) (e4 ∙ ap (add layers) (listed ∙ ap (add marks_text) (e2 ∙ ap (add dirty) e1))) ∙ five_parts o0 header dirty marks_text layers last
      ∙ ap (λ text. o0 ++ text)
      (sym (five_texts (header_lines tech) (dirty_lines areas) (mark_lines (strips_of world picture)) (layers_lines tech (strips_on layout) (type_numbers tech)) end_lines))

  -- and how many lines these have
  pub marked_line_count-sum :
      3 + length (dirty_lines areas) + length (mark_lines marks) + length (layers_lines tech (strips_on layout) (type_numbers tech))
      ≡ marked_line_count tech layout areas picture
  marked_line_count-sum =
      let header = header_lines tech in
      let dirty = dirty_lines areas in
      let shown = mark_lines (strips_of world picture) in
      let layers = layers_lines tech (strips_on layout) (type_numbers tech) in
      omega (
        arith,
        ap (λ (list : List Piece). length (mark_lines list)) are,
        length-append (header ++ (dirty ++ shown)) (layers ++ end_lines),
        length-append header (dirty ++ shown),
        length-append dirty shown,
        length-append layers end_lines,
      )

-- ---- how many lines the areas and the marks have at most
pub dirty_lines-few : (areas : List Rect) → length (dirty_lines areas) ≤ length areas + 1
dirty_lines-few [] = omega arith
dirty_lines-few (area ∷ areas) = omega (arith, length-map (area ∷ areas) (λ rect. spaced (rect_words rect)))

pub mark_lines-few : (picture : Picture) (marks : List Piece) → marks ≡ strips_of world picture → length (mark_lines marks) ≤ 4398046511105
mark_lines-few picture marks are = omega (arith, kind_lines-few (codes "error_p") marked marks, ap length are, strips_few picture)
