-- Which rules are violated in a rectangle, from which are in its parts.
use Rattle.std.proofs.Common.{◌≡◌, ℕ, ◌||◌, inl, inr, List, Option, Some, None, slice_get, refl, sym, ◌∙◌}
use Rattle.std.specs.Cmp.{both_ways as same_if}
use Rattle.std.proofs.lemmas.Bool.{or_cases, or_left, or_right}
use Rattle.mls_errorplane.specs.Common.{EdgeRule, Layout, Rect, SquareSet, has_some, holds, is_violated_in, union, violated_rules}
use Rattle.mls_edgerule.proofs.RuleSetLemmas.{union-bits_where}
use Rattle.mls_kinds.proofs.BitLemmas.{bits_where_same}
use Rattle.mls_checker.proofs.FoundInRect.{found_in_rect, rect_finds}

-- each square of the whole lies in one of the parts, and theirs lie in the whole
abbrev AreParts : Rect → Rect → Rect → Type 0
AreParts whole one other = (x y : ℕ) → holds whole x y ≡ (holds one x y || holds other x y)

-- the whole has a square of a set exactly where a part has
has_some-parts : (whole one other : Rect) (set : SquareSet) → AreParts whole one other → has_some whole set ≡ (has_some one set || has_some other set)
has_some-parts whole one other set parts =
    same_if (has_some whole set) (has_some one set || has_some other set)
    (λ some. let (x, y, inside, within) = found_in_rect whole set some in
    elim (or_cases (holds one x y) (holds other x y) (sym (parts x y) ∙ inside)) [
      | inl here ↦ or_left (has_some one set) (has_some other set) (rect_finds one set (x, y, here, within))
      | inr there ↦ or_right (has_some one set) (has_some other set) (rect_finds other set (x, y, there, within))
    ])
    (λ some. elim (or_cases (has_some one set) (has_some other set) some) [
      | inl here ↦ (let (x, y, inside, within) = found_in_rect one set here in
          rect_finds whole set (x, y, parts x y ∙ or_left (holds one x y) (holds other x y) inside, within))
      | inr there ↦ (let (x, y, inside, within) = found_in_rect other set there in
          rect_finds whole set (x, y, parts x y ∙ or_right (holds one x y) (holds other x y) inside, within))
    ])

is_violated_in-parts :
    (whole one other : Rect) (layout : Layout) (rule : Option EdgeRule) → AreParts whole one other
    → is_violated_in whole layout rule ≡ (is_violated_in one layout rule || is_violated_in other layout rule)
is_violated_in-parts whole one other layout None parts = refl
is_violated_in-parts whole one other layout (Some rule) parts = has_some-parts whole one other _ parts

-- the rules that are violated in the whole are those that are violated in a part
pub violated_rules-parts :
    (rules : List EdgeRule) (whole one other : Rect) (layout : Layout) → AreParts whole one other
    → violated_rules rules whole layout ≡ union (violated_rules rules one layout) (violated_rules rules other layout)
unfolding violated_rules
violated_rules-parts rules whole one other layout parts =
    bits_where_same 128 (λ k. is_violated_in whole layout (slice_get rules k))
    (λ k. is_violated_in one layout (slice_get rules k) || is_violated_in other layout (slice_get rules k))
    (λ k below. is_violated_in-parts whole one other layout (slice_get rules k) parts)
    ∙ sym (union-bits_where (λ k. is_violated_in one layout (slice_get rules k)) (λ k. is_violated_in other layout (slice_get rules k)))
