-- What rules forbid in a rectangle, gathered part by part.
use Rattle.std.proofs.Common.{◌≡◌, ℕ, ◌-◌, Bool, true, false, ◌||◌, ◌&&◌, List, [], ◌∷◌, map, get_or, All, Option, Some, None, slice_get, refl, sym, ap, ◌∙◌}
use Rattle.std.proofs.Math.Bool.{and-false, and_self_left, or_assoc}
use Rattle.std.proofs.Math.Path.{fun_ext}
use Rattle.std.proofs.lemmas.List.Elements.{All-head, All-tail, filter_passes}
use Rattle.std.proofs.lemmas.Option.{get_or_from_slice_get, slice_get_within}
use Rattle.std.specs.List.{range_with_len}
use Rattle.mls_errorplane.proofs.Common.{AgreeOutside, EdgeRule, GainSomeViolations, GainViolations, IsRectangleIn, Layout, Rect, Violation, areas_at, forbids, has_bit, holds, listed_violation, rule_limit, rules_in, set_strips, squares_of, squares_within, violated_rules, violation_of, violations_in, violations_of, within, world, zone_of}
use Rattle.mls_errorplane.proofs.ViolatedNear.{forbids-zone}

-- ---- zones
and_in : (inside a b : Bool) → (inside ≡ true → a ≡ b) → (inside && a) ≡ (inside && b)
and_in true a b same = same refl
and_in false a b same = refl

-- the zone of a rectangle is enough to know which of its squares a rule forbids
zone-at :
    (rules : List EdgeRule) (rect : Rect) (layout : Layout) (k : ℕ) (rule : Option EdgeRule) → slice_get rules k ≡ rule → IsRectangleIn world rect
    → AgreeOutside world layout (λ plane x y. 0) → (x y : ℕ) → violations_of rule rect (within (zone_of rules rect) layout) x y ≡ violations_of rule rect layout x y
zone-at rules rect layout k None is legal space x y = refl
zone-at rules rect layout k (Some rule) is legal space x y =
    and_in (holds rect x y) (forbids rule (within (zone_of rules rect) layout) (record { x = x; y = y })) (forbids rule layout (record { x = x; y = y }))
    (λ here. forbids-zone rules rect layout rule (k, slice_get_within rules k rule is, get_or_from_slice_get rules k rule rule is) legal space x y here)

pub GainViolations-zone :
    (rules : List EdgeRule) (set : ℕ) (rect : Rect) (layout : Layout) (old new : List (List Rect)) → IsRectangleIn world rect → AgreeOutside world layout (λ plane x y. 0)
    → GainViolations rules set rect (within (zone_of rules rect) layout) old new → GainViolations rules set rect layout old new
GainViolations-zone rules set rect layout old new legal space gains = record {
  as_many = gains.as_many;
  squares = λ k there x y. gains.squares k there x y ∙ ap (λ b. squares_of (areas_at old k) x y || b) (zone-at rules rect layout k (slice_get rules k) refl legal space x y);
}

pub GainSomeViolations-zone :
    (rules : List EdgeRule) (set : ℕ) (rect : Rect) (layout : Layout) (old new : List (List Rect)) → IsRectangleIn world rect → AgreeOutside world layout (λ plane x y. 0)
    → GainSomeViolations rules set rect (within (zone_of rules rect) layout) old new → GainSomeViolations rules set rect layout old new
GainSomeViolations-zone rules set rect layout old new legal space gains = record {
  as_many = gains.as_many;
  squares = λ k there x y.
      let same = zone-at rules rect layout k (slice_get rules k) refl legal space x y in
      ap (λ b. squares_of (areas_at new k) x y || b) (sym same) ∙ gains.squares k there x y ∙ ap (λ b. squares_of (areas_at old k) x y || b) same;
}

-- lists that stay as they are may have gained some
pub GainSomeViolations-none : (rules : List EdgeRule) (set : ℕ) (rect : Rect) (layout : Layout) (lists : List (List Rect)) → GainSomeViolations rules set rect layout lists lists
GainSomeViolations-none rules set rect layout lists = record { as_many = refl; squares = λ k there x y. refl }

-- ---- halves
either_at : (one other forbidden : Bool) → ((one || other) && forbidden) ≡ ((one && forbidden) || (other && forbidden))
either_at true true true = refl
either_at true true false = refl
either_at true false true = refl
either_at true false false = refl
either_at false other forbidden = refl

-- what a rule forbids in a rectangle it forbids in one of its halves
halves-at :
    (rule : Option EdgeRule) (whole one other : Rect) (layout : Layout) (x y : ℕ) → holds whole x y ≡ (holds one x y || holds other x y)
    → violations_of rule whole layout x y ≡ (violations_of rule one layout x y || violations_of rule other layout x y)
halves-at None whole one other layout x y squares = refl
halves-at (Some rule) whole one other layout x y squares =
    ap (λ b. b && forbids rule layout (record { x = x; y = y })) squares ∙ either_at (holds one x y) (holds other x y) (forbids rule layout (record { x = x; y = y }))

pub GainViolations-halves :
    (rules : List EdgeRule) (set : ℕ) (whole one other : Rect) (layout : Layout) (old start mid new : List (List Rect))
    → ((x y : ℕ) → holds whole x y ≡ (holds one x y || holds other x y)) → GainSomeViolations rules set whole layout old start
    → GainViolations rules set one layout start mid → GainViolations rules set other layout mid new → GainViolations rules set whole layout old new
GainViolations-halves rules set whole one other layout old start mid new squares some first second = record {
  as_many = second.as_many ∙ first.as_many ∙ some.as_many;
  squares = λ k there x y.
      let rule = slice_get rules k in
      let was = squares_of (areas_at start k) x y in
      let v_one = violations_of rule one layout x y in
      let v_other = violations_of rule other layout x y in
      second.squares k there x y ∙ ap (λ b. b || v_other) (first.squares k there x y) ∙ or_assoc was v_one v_other
      ∙ ap (λ b. was || b) (sym (halves-at rule whole one other layout x y (squares x y))) ∙ some.squares k there x y;
}

-- ---- the list of violations
map-same : {X Y : Type 0} (f g : X → Y) (xs : List X) → All (λ x. f x ≡ g x) xs → map f xs ≡ map g xs
map-same f g [] same = refl
map-same f g (x ∷ xs) same = ap (λ y. y ∷ map f xs) (All-head (λ z. f z ≡ g z) x xs same) ∙ ap (λ ys. g x ∷ ys) (map-same f g xs (All-tail (λ z. f z ≡ g z) x xs same))

within-at : (rule : Option EdgeRule) (rect : Rect) (layout : Layout) (x y : ℕ) → (holds rect x y && violations_of rule rect layout x y) ≡ violations_of rule rect layout x y
within-at None rect layout x y = and-false (holds rect x y)
within-at (Some rule) rect layout x y = and_self_left (holds rect x y) (forbids rule layout (record { x = x; y = y }))

-- where no rule forbids a square, the list is empty
pub violations-none : (rules : List EdgeRule) (rect : Rect) (layout : Layout) (set : ℕ) → set ≡ violated_rules rules rect layout → rules_in set ≡ [] → violations_in rules rect layout ≡ []
unfolding violations_in
violations-none rules rect layout set is none = ap (map (violation_of rules rect layout)) (ap rules_in (sym is) ∙ none)

-- lists that had no areas have those of what the rules of the set forbid
gathered-at :
    (rules : List EdgeRule) (set : ℕ) (rect : Rect) (layout : Layout) (old new : List (List Rect)) → ((k : ℕ) → areas_at old k ≡ []) → GainViolations rules set rect layout old new
    → (k : ℕ) → has_bit set k ≡ true → squares_within rect (areas_at new k) ≡ violations_of (slice_get rules k) rect layout
gathered-at rules set rect layout old new none gains k there =
    fun_ext (λ x. fun_ext (λ y.
    ap (λ b. holds rect x y && b) (gains.squares k there x y ∙ ap (λ (list : List Rect). squares_of list x y || violations_of (slice_get rules k) rect layout x y) (none k))
    ∙ within-at (slice_get rules k) rect layout x y))

pub listed-violations :
    (rules : List EdgeRule) (set : ℕ) (rect : Rect) (layout : Layout) (old new : List (List Rect)) → set ≡ violated_rules rules rect layout → ((k : ℕ) → areas_at old k ≡ [])
    → GainViolations rules set rect layout old new → map (listed_violation rect new) (rules_in set) ≡ violations_in rules rect layout
unfolding rules_in violations_in
listed-violations rules set rect layout old new is none gains =
    map-same (listed_violation rect new) (violation_of rules rect layout) (rules_in set)
    (λ i d below.
    let n = get_or (rules_in set) i d in
    ap (λ strips. make n strips) (ap set_strips (gathered-at rules set rect layout old new none gains (n - 1) (filter_passes (λ k. has_bit set (k - 1)) (range_with_len 1 rule_limit) i d below))))
    ∙ ap (λ s. map (violation_of rules rect layout) (rules_in s)) is
  where
    make : ℕ → List Rect → Violation
    make n strips = record { rule = n; strips = strips }
