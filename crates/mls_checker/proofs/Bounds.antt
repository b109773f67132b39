-- The smallest area that has the squares of a set, line by line.
use Rattle.std.proofs.Common.{◌≡◌, ℕ, ◌+◌, ◌-◌, ◌<◌, min, true, ◌||◌, inl, inr, sym, ◌∙◌, arith}
use Rattle.std.proofs.lemmas.Bool.{or_left, or_right, or_cases}
use Rattle.mls_geom.specs.Rects.{Rect, holds, joined}
use Rattle.mls_geom.proofs.Holds.{between_holds, holds_between}
use Rattle.mls_geom.proofs.JoinedRects.{holds-joined_one, holds-joined_other}
use Rattle.mls_checker.specs.Marking.{IsBoundsOf, SquareSet}
use Rattle.mls_checker.specs.MarkMaps.{IsTightOf}

-- sets with the same squares have the same bounds
pub tight-same : (set other : SquareSet) (e : Rect) → ((x y : ℕ) → set x y ≡ other x y) → IsTightOf set e → IsTightOf other e
tight-same set other e same is = record {
  all = λ x y here. is.all x y (same x y ∙ here);
  left = λ l few each. is.left l few (λ x y here. each x y (sym (same x y) ∙ here));
  bottom = λ l few each. is.bottom l few (λ x y here. each x y (sym (same x y) ∙ here));
  right = λ r each. is.right r (λ x y here. each x y (sym (same x y) ∙ here));
  top = λ r each. is.top r (λ x y here. each x y (sym (same x y) ∙ here));
}

-- those of two sets
pub tight-joined : (set other : SquareSet) (a b : Rect) → IsTightOf set a → IsTightOf other b → IsTightOf (λ x y. set x y || other x y) (joined a b)
tight-joined set other a b is is' = record {
  all = λ x y here. elim (or_cases (set x y) (other x y) here) [
    | inl one ↦ holds-joined_one a b x y (is.all x y one)
    | inr two ↦ holds-joined_other a b x y (is'.all x y two)
  ];
  left = λ l few each. omega (arith, is.left l few (λ x y here. each x y (or_left (set x y) (other x y) here)), is'.left l few (λ x y here. each x y (or_right (set x y) (other x y) here)));
  bottom = λ l few each. omega (arith, is.bottom l few (λ x y here. each x y (or_left (set x y) (other x y) here)), is'.bottom l few (λ x y here. each x y (or_right (set x y) (other x y) here)));
  right = λ r each. omega (arith, is.right r (λ x y here. each x y (or_left (set x y) (other x y) here)), is'.right r (λ x y here. each x y (or_right (set x y) (other x y) here)));
  top = λ r each. omega (arith, is.top r (λ x y here. each x y (or_left (set x y) (other x y) here)), is'.top r (λ x y here. each x y (or_right (set x y) (other x y) here)));
}

-- where no square has so great lines, it is the smallest area
pub tight-bounds : (set : SquareSet) (e : Rect) → ((x y : ℕ) → set x y ≡ true → (x < 4294967295) × (y < 4294967295)) → IsTightOf set e → IsBoundsOf set e
tight-bounds set e near is = record {
  all = is.all;
  least = λ other has x y here.
      let lines = holds_between e x y here in
      let between = λ (u v : ℕ) (there : set u v ≡ true). holds_between other u v (has u v there) in
      let left = is.left (min other.left 4294967295) (omega arith) (λ u v there. omega (arith, (between u v there).0)) in
      let bottom = is.bottom (min other.bottom 4294967295) (omega arith) (λ u v there. omega (arith, (between u v there).2)) in
      let right = is.right other.right (λ u v there. (between u v there).1) in
      let top = is.top other.top (λ u v there. (between u v there).3) in
      let right' = is.right 4294967295 (λ u v there. (near u v there).0) in
      let top' = is.top 4294967295 (λ u v there. (near u v there).1) in
      between_holds other x y (omega (arith, left, right', lines.0, lines.1)) (omega (arith, right, lines.1)) (omega (arith, bottom, top', lines.2, lines.3)) (omega (arith, top, lines.3));
}

-- an area whose outermost squares are in the set
pub tight-ends : (set : SquareSet) (e : Rect) → ((x y : ℕ) → set x y ≡ true → holds e x y ≡ true) → e.left < e.right → e.top ≡ e.bottom + 1
    → set e.left e.bottom ≡ true → set (e.right - 1) e.bottom ≡ true → IsTightOf set e
tight-ends set e all wide flat first last = record {
  all = all;
  left = λ l few each. each e.left e.bottom first;
  bottom = λ l few each. each e.left e.bottom first;
  right = λ r each. omega (arith, each (e.right - 1) e.bottom last);
  top = λ r each. omega (arith, each e.left e.bottom first);
}

pub bounds-same : (set other : SquareSet) (e : Rect) → ((x y : ℕ) → set x y ≡ other x y) → IsBoundsOf set e → IsBoundsOf other e
bounds-same set other e same is = record {
  all = λ x y here. is.all x y (same x y ∙ here);
  least = λ rect has. is.least rect (λ x y here. has x y (sym (same x y) ∙ here));
}
