-- The lines that cut a row: those of the extent and of the pieces that the row meets.
use Rattle.mls_geom.proofs.Common.{◌≡◌, ℕ, ◌+◌, ◌-◌, ◌<◌, ◌≤◌, ◌↔◌, List, [], ◌∷◌, ◌++◌, Some, length, take, get_or, slice_index, slice_get, IsSomeAnd, refl, ◌∙◌, arith, rules, All, Contains, IsStrictlyIncreasing, get_or_default, All-contains, All-cons, All-more, All-nil, All-push, Contains-append_left, Contains-get_or, Contains-push}
use Rattle.mls_geom.proofs.Definitions.{Rect, AreBetweenLines, AreCuts, IsBetweenLines, Piece}
use Rattle.mls_geom.proofs.CutLines.{rises}
use Rattle.mls_geom.proofs.ListLemmas.{IsSomeAnd-weaker}

-- more lines keep pieces between lines
AreBetweenLines_more :
    (lines more : List ℕ) (pieces : List Piece) (indices : List ℕ) → ((line : ℕ) → Contains lines line → Contains more line)
    → AreBetweenLines lines pieces indices → AreBetweenLines more pieces indices
AreBetweenLines_more lines more pieces indices kept between = λ k d within.
    IsSomeAnd-weaker _ (λ p. IsBetweenLines lines p.rect) (λ p. IsBetweenLines more p.rect)
    (λ p given. record { left = kept _ given.left; right = kept _ given.right }) (between k d within)

-- the lines with both sides of a rectangle
module _ (lines : List ℕ) (rect : Rect) where
  abbrev with_sides : List ℕ
  with_sides = (lines ++ rect.left ∷ []) ++ rect.right ∷ []

  stays : (line : ℕ) → Contains lines line → Contains with_sides line
  stays line member = Contains-append_left (lines ++ rect.left ∷ []) (rect.right ∷ []) line (Contains-append_left lines (rect.left ∷ []) line member)

  inside_with :
      (extent : Rect) → All (λ line. (extent.left ≤ line) × (line ≤ extent.right)) lines → extent.left ≤ rect.left → rect.left ≤ rect.right → rect.right ≤ extent.right
      → All (λ line. (extent.left ≤ line) × (line ≤ extent.right)) with_sides
  inside_with extent inside from wide to =
      let Inside = λ (line : ℕ). (extent.left ≤ line) × (line ≤ extent.right) in
      All-push Inside _ _ (All-push Inside lines _ inside (from, omega arith)) (omega arith, to)

  IsBetweenLines-sides : IsBetweenLines with_sides rect
  IsBetweenLines-sides = record { left = Contains-append_left _ _ _ (Contains-push lines rect.left); right = Contains-push _ rect.right }

-- the lines, in any order
pub record AreLines (extent : Rect) (pieces : List Piece) (indices lines : List ℕ) : Type 0 where
  pub left : Contains lines extent.left
  pub right : Contains lines extent.right
  pub inside : All (λ line. (extent.left ≤ line) × (line ≤ extent.right)) lines
  pub between : AreBetweenLines lines pieces indices

pub AreLines-none : (extent : Rect) (pieces : List Piece) → extent.left ≤ extent.right → AreLines extent pieces [] (extent.left ∷ extent.right ∷ [])
AreLines-none extent pieces wide = record {
  left = (0, omega arith, refl);
  right = (1, omega arith, refl);
  inside = search (rules, All-cons, All-nil);
  between = search rules;
}

pub AreLines-push :
    (extent : Rect) (pieces : List Piece) (indices lines : List ℕ) (k : ℕ) (piece : Piece) → AreLines extent pieces (take k indices) lines
    → k < length indices → slice_get pieces (slice_index indices k) ≡ Some piece
    → extent.left ≤ piece.rect.left → piece.rect.left ≤ piece.rect.right → piece.rect.right ≤ extent.right
    → AreLines extent pieces (take (k + 1) indices) ((lines ++ piece.rect.left ∷ []) ++ piece.rect.right ∷ [])
AreLines-push extent pieces indices lines k piece so_far within is from wide to = record {
  left = stays lines piece.rect _ so_far.left;
  right = stays lines piece.rect _ so_far.right;
  inside = inside_with lines piece.rect extent so_far.inside from wide to;
  between = All-more (λ i. IsSomeAnd (slice_get pieces i) (λ p. IsBetweenLines (with_sides lines piece.rect) p.rect)) indices k 0 within
      (AreBetweenLines_more lines (with_sides lines piece.rect) pieces (take k indices) (stays lines piece.rect) so_far.between) (rw is (IsBetweenLines-sides lines piece.rect));
}

-- cuts are the lines in order, each once
module _ (extent : Rect) (pieces : List Piece) (indices lines cuts : List ℕ) (all : AreLines extent pieces indices lines) (members : (line : ℕ) → Contains cuts line ↔ Contains lines line) where
  pub AreBetweenLines-from_lines : AreBetweenLines cuts pieces indices
  AreBetweenLines-from_lines = AreBetweenLines_more lines cuts pieces indices (λ line. (members line).1) all.between

  pub AreCuts-from_lines : IsStrictlyIncreasing cuts → AreCuts extent cuts
  AreCuts-from_lines ascending =
      let inside = λ (k : ℕ) (within : k < length cuts).
      All-contains (λ line. (extent.left ≤ line) × (line ≤ extent.right)) lines (slice_index cuts k) all.inside ((members _).0 (Contains-get_or cuts k 0 within)) in
      let (i, i_in, left) = (members extent.left).1 all.left in
      let (j, j_in, right) = (members extent.right).1 all.right in
      let left_is = get_or_default cuts i 0 extent.left i_in ∙ left in
      let right_is = get_or_default cuts j 0 extent.right j_in ∙ right in
      record {
        ascending = ascending;
        some = omega arith;
        first = omega (arith, (inside 0 (omega arith)).0, rises cuts ascending 0 i (omega arith) i_in);
        last = omega (arith, (inside (length cuts - 1) (omega arith)).1, rises cuts ascending j (length cuts - 1) (omega arith) (omega arith));
      }

-- the lines of pieces, one piece more each time
pub record ArePieceLines (extent : Rect) (pieces : List Piece) (lines : List ℕ) : Type 0 where
  pub left : Contains lines extent.left
  pub right : Contains lines extent.right
  pub inside : All (λ line. (extent.left ≤ line) × (line ≤ extent.right)) lines
  pub between : All (λ piece. IsBetweenLines lines piece.rect) pieces

between_more :
    (lines more : List ℕ) (pieces : List Piece) → ((line : ℕ) → Contains lines line → Contains more line)
    → All (λ (piece : Piece). IsBetweenLines lines piece.rect) pieces → All (λ (piece : Piece). IsBetweenLines more piece.rect) pieces
between_more lines more pieces kept between = λ k d within. record { left = kept _ (between k d within).left; right = kept _ (between k d within).right }

pub ArePieceLines-none : (extent : Rect) → extent.left ≤ extent.right → ArePieceLines extent [] (extent.left ∷ extent.right ∷ [])
ArePieceLines-none extent wide = record {
  left = (0, omega arith, refl);
  right = (1, omega arith, refl);
  inside = search (rules, All-cons, All-nil);
  between = All-nil (λ (piece : Piece). IsBetweenLines (extent.left ∷ extent.right ∷ []) piece.rect);
}

pub ArePieceLines-push :
    (extent : Rect) (pieces : List Piece) (lines : List ℕ) (k : ℕ) (d : Piece) → ArePieceLines extent (take k pieces) lines → k < length pieces
    → extent.left ≤ (get_or pieces k d).rect.left → (get_or pieces k d).rect.left ≤ (get_or pieces k d).rect.right → (get_or pieces k d).rect.right ≤ extent.right
    → ArePieceLines extent (take (k + 1) pieces) ((lines ++ (get_or pieces k d).rect.left ∷ []) ++ (get_or pieces k d).rect.right ∷ [])
ArePieceLines-push extent pieces lines k d so_far within from wide to =
    let rect = (get_or pieces k d).rect in
    let between = between_more lines (with_sides lines rect) (take k pieces) (stays lines rect) so_far.between in
    record {
      left = stays lines rect _ so_far.left;
      right = stays lines rect _ so_far.right;
      inside = inside_with lines rect extent so_far.inside from wide to;
      between = All-more (λ (p : Piece). IsBetweenLines (with_sides lines rect) p.rect) pieces k d within between (IsBetweenLines-sides lines rect);
    }

-- cuts are the lines in order, each once
module _ (extent : Rect) (pieces : List Piece) (lines cuts : List ℕ) (all : ArePieceLines extent pieces lines) (members : (line : ℕ) → Contains cuts line ↔ Contains lines line) where
  pub All-between-from_lines : All (λ piece. IsBetweenLines cuts piece.rect) pieces
  All-between-from_lines = between_more lines cuts pieces (λ line. (members line).1) all.between

  pub AreCuts-from_piece_lines : IsStrictlyIncreasing cuts → AreCuts extent cuts
  AreCuts-from_piece_lines ascending =
      AreCuts-from_lines extent pieces [] lines cuts (record { left = all.left; right = all.right; inside = all.inside; between = search rules }) members ascending
