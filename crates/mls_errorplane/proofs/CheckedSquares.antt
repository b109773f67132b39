-- Steps and edits leave the marks right outside the areas that await checking.
use Rattle.std.proofs.Common.{◌≡◌, ℕ, Bool, false, ◌||◌, inl, inr, List, [], ◌∷◌, Option, Some, None, refl, ap, ◌∙◌, arith}
use Rattle.std.proofs.lemmas.Bool.{and_from, both_ways, cases_Bool, cond-false, cond-true, false_from_ne_true, or_left, or_right}
use Rattle.std.proofs.lemmas.Bool.Decides.{nat_tests}
use Rattle.mls_errorplane.proofs.Common.{AgreeOutside, Checking, EdgeRule, IsChecked, Layout, Rect, SquareSet, check_step, checked_marks, dirtied, forbidden, grown, halo_of, holds, squares_of, world}
use Rattle.mls_geom.proofs.Holds.{holds_common}
use Rattle.mls_checker.proofs.Locality.{forbidden_same_outside}
use Rattle.mls_errorplane.specs.DirtyLists.{added, dropped, first_piece_of, squares_in, zone_round}
use Rattle.mls_errorplane.proofs.DirtySquares.{squares_of-added}

squares_of-dropped : (areas : List Rect) (x y : ℕ) → squares_of areas x y ≡ (squares_in (first_piece_of areas) x y || squares_of (dropped areas) x y)
squares_of-dropped [] x y = refl
squares_of-dropped (first ∷ rest) x y = grind (arith, nat_tests)

-- ---- steps
checked-after :
    (rules : List EdgeRule) (layout : Layout) (marks : SquareSet) (piece : Option Rect) (x y : ℕ) (before after : Bool) → before ≡ (squares_in piece x y || after) → after ≡ false
    → (before ≡ false → marks x y ≡ forbidden rules layout x y) → checked_marks rules layout piece marks x y ≡ forbidden rules layout x y
checked-after rules layout marks None x y before after split none right = right (split ∙ none)
checked-after rules layout marks (Some piece) x y before after split none right = elim (cases_Bool (holds piece x y)) [
  | inl here ↦ cond-true (holds piece x y) (forbidden rules layout x y) (marks x y) here
  | inr elsewhere ↦
      cond-false (holds piece x y) (forbidden rules layout x y) (marks x y) elsewhere ∙ right (split ∙ ap (λ b. b || after) elsewhere ∙ none)
]

-- once the first piece is checked, what is right outside the areas is right outside those that are left
pub step-IsChecked :
    (rules : List EdgeRule) (layout : Layout) (checking : Checking) → IsChecked rules layout checking → IsChecked rules layout (check_step rules layout checking)
step-IsChecked rules layout checking right x y here none =
    checked-after rules layout checking.marks (first_piece_of checking.dirty) x y (squares_of checking.dirty x y) (squares_of (dropped checking.dirty) x y)
    (squares_of-dropped checking.dirty x y) none (right x y here)

-- ---- edits
-- once an edit's rectangle was added, what was right outside the areas of one layout is right outside those of the edited one
pub edit-IsChecked :
    (rules : List EdgeRule) (rect : Rect) (layout other : Layout) (checking : Checking) → AgreeOutside rect layout other → IsChecked rules layout checking
    → IsChecked rules other (dirtied rules rect checking)
edit-IsChecked rules rect layout other checking agree right x y here none =
    let zone = zone_round (halo_of rules) rect in
    let dirty = squares_of checking.dirty x y in
    let was : dirty ≡ false =
    false_from_ne_true dirty (λ some. both_ways (squares_of (added checking.dirty zone) x y) none (squares_of-added checking.dirty zone x y (or_left dirty (holds zone x y) some))) in
    let far : holds zone x y ≡ false =
    false_from_ne_true (holds zone x y) (λ some. both_ways (squares_of (added checking.dirty zone) x y) none (squares_of-added checking.dirty zone x y (or_right dirty (holds zone x y) some))) in
    let out : holds (grown (halo_of rules) rect) x y ≡ false =
    false_from_ne_true (holds (grown (halo_of rules) rect) x y)
    (λ near. both_ways (holds zone x y) far (holds_common (grown (halo_of rules) rect) world x y ∙ and_from (holds (grown (halo_of rules) rect) x y) (holds world x y) near here)) in
    right x y here was ∙ forbidden_same_outside rules rect layout other agree x y out
