-- What rules forbid in a rectangle, rule by rule, and the marks in it.
use Rattle.std.proofs.Common.{◌≡◌, ℕ, ◌+◌, ◌-◌, ◌<◌, ◌≤◌, Bool, true, false, true≢false, ◌||◌, ◌&&◌, List, [], ◌∷◌, length, map, get_or, All, Contains, Option, Some, None, slice_get, refl, sym, ap, ◌∙◌, arith}
use Rattle.std.specs.Cmp.{both_ways}
use Rattle.std.specs.List.{list_any, range_with_len}
use Rattle.std.proofs.lemmas.Bool.{and_from, and_parts, false_from_ne_true}
use Rattle.std.proofs.lemmas.List.Elements.{All-contains}
use Rattle.std.proofs.lemmas.List.Folds.{Any-from_list_any, list_any-from_Any}
use Rattle.std.proofs.lemmas.Option.{get_or_from_slice_get, slice_get_read, slice_get_within}
use Rattle.mls_errorplane.proofs.Common.{Checking, EdgeRule, IsChecked, IsRectangleIn, Layout, Rect, Violation, common, forbidden, forbids, has_bit, holds, is_violated_in, meets, rule_limit, rules_in, squares_in_all, squares_of, violated_rules, violation_of, violations_in, violations_of, world}
use Rattle.mls_geom.proofs.Ascending.{Contains-filter}
use Rattle.mls_geom.proofs.Holds.{holds_common, square_has_squares}
use Rattle.mls_geom.proofs.Squares.{Contains-range_with_len}
use Rattle.mls_kinds.proofs.BitLemmas.{has_bit-bits_where}
use Rattle.mls_checker.proofs.FoundInRect.{rect_finds}
use Rattle.mls_errorplane.proofs.PaintedPieces.{holds_inside}
use Rattle.mls_errorplane.proofs.SetStrips.{squares-set_strips}

-- ---- lists
any-map : {X Y : Type 0} (test : Y → Bool) (f : X → Y) (xs : List X) → list_any test (map f xs) ≡ list_any (λ x. test (f x)) xs
any-map test f [] = refl
any-map test f (x ∷ xs) = ap (λ b. test (f x) || b) (any-map test f xs)

-- ---- one rule
-- the rule of this index forbids the square, and it lies in the rectangle
forbidding : (rules : List EdgeRule) (rect : Rect) (layout : Layout) (k x y : ℕ) (rule : Option EdgeRule) → slice_get rules k ≡ rule → violations_of rule rect layout x y ≡ true
    → (holds rect x y ≡ true) × (list_any (λ r. forbids r layout (record { x = x; y = y })) rules ≡ true)
forbidding rules rect layout k x y None is there = absurd (cc)
forbidding rules rect layout k x y (Some rule) is there =
    let (here, forbidden) = and_parts (holds rect x y) (forbids rule layout (record { x = x; y = y })) there in (
      here,
      list_any-from_Any (λ (r : EdgeRule). forbids r layout (record { x = x; y = y })) rules (k, rule, slice_get_within rules k rule is, get_or_from_slice_get rules k rule rule is, forbidden),
    )

-- a rule that forbids a square of the rectangle is among those that are named
named : (rules : List EdgeRule) (rect : Rect) (layout : Layout) (k x y : ℕ) (rule : EdgeRule) → length rules ≤ 128 → k < length rules → get_or rules k rule ≡ rule
    → holds rect x y ≡ true → forbids rule layout (record { x = x; y = y }) ≡ true → Contains (rules_in (violated_rules rules rect layout)) (k + 1)
unfolding rules_in violated_rules
named rules rect layout k x y rule few within is here forbidden =
    let set = violated_rules rules rect layout in
    let back : k + 1 - 1 ≡ k = omega arith in
    let at = slice_get_read rules (length rules) k rule refl within (sym is) in
    let bit : has_bit set k ≡ true =
    has_bit-bits_where (λ j. is_violated_in rect layout (slice_get rules j)) 128 k (omega (arith, few, within))
    ∙ ap (is_violated_in rect layout) at ∙ rect_finds rect (λ u v. forbids rule layout (record { x = u; y = v })) (x, y, here, forbidden) in
    Contains-filter (λ n. has_bit set (n - 1)) (range_with_len 1 rule_limit) (k + 1) (Contains-range_with_len 1 (1 + rule_limit) (k + 1) (omega arith) (omega (arith, few, within))) (ap (has_bit set) back ∙ bit)

-- ---- all rules
-- the strips of all rules have the squares of the rectangle that some rule forbids
pub squares-violations :
    (rules : List EdgeRule) (rect : Rect) (layout : Layout) (x y : ℕ) → length rules ≤ 128 → IsRectangleIn world rect
    → squares_in_all (violations_in rules rect layout) x y ≡ (holds rect x y && list_any (λ rule. forbids rule layout (record { x = x; y = y })) rules)
unfolding violations_in
squares-violations rules rect layout x y few legal =
    let numbers = rules_in (violated_rules rules rect layout) in
    let shows : Violation → Bool = λ violation. squares_of violation.strips x y in
    let made : ℕ → Violation = violation_of rules rect layout in
    let set = λ (n : ℕ). violations_of (slice_get rules (n - 1)) rect layout in
    both_ways (list_any shows (map made numbers)) (holds rect x y && list_any (λ rule. forbids rule layout (record { x = x; y = y })) rules)
    (λ some.
    let (i, n, within, is, passes) = Any-from_list_any (λ (n : ℕ). shows (made n)) numbers (sym (any-map shows made numbers) ∙ some) in
    let there = and_parts (holds world x y) (set n x y) (sym (squares-set_strips (set n) x y) ∙ passes) in
    let (here, forbidden) = forbidding rules rect layout (n - 1) x y (slice_get rules (n - 1)) refl there.1 in
    and_from (holds rect x y) (list_any (λ rule. forbids rule layout (record { x = x; y = y })) rules) here forbidden)
    (λ both.
    let (here, some) = and_parts (holds rect x y) (list_any (λ rule. forbids rule layout (record { x = x; y = y })) rules) both in
    let (k, rule, within, is, forbidden) = Any-from_list_any (λ (r : EdgeRule). forbids r layout (record { x = x; y = y })) rules some in
    let (i, inside, is') = named rules rect layout k x y rule few within is here forbidden in
    let back : k + 1 - 1 ≡ k = omega arith in
    let at : slice_get rules (k + 1 - 1) ≡ Some rule = ap (slice_get rules) back ∙ slice_get_read rules (length rules) k rule refl within (sym is) in
    let there : set (k + 1) x y ≡ true = ap (λ (r : Option EdgeRule). violations_of r rect layout x y) at ∙ and_from (holds rect x y) (forbids rule layout (record { x = x; y = y })) here forbidden in
    let squares = squares-set_strips (set (k + 1)) x y ∙ and_from (holds world x y) (set (k + 1) x y) (holds_inside world rect x y legal here) there in
    any-map shows made numbers ∙ list_any-from_Any (λ (n : ℕ). shows (made n)) numbers (i, k + 1, inside, is', squares))

-- ---- marks
-- a square of a rectangle that no area meets lies in none
apart : (areas : List Rect) (rect : Rect) (x y : ℕ) → All (λ area. meets area rect ≡ false) areas → holds rect x y ≡ true → squares_of areas x y ≡ false
apart areas rect x y none here =
    false_from_ne_true (squares_of areas x y)
    (λ some.
    let (k, area, within, is, there) = Any-from_list_any (λ (e : Rect). holds e x y) areas some in
    true≢false (sym (square_has_squares (common area rect) x y (holds_common area rect x y ∙ and_from (holds area x y) (holds rect x y) there here))
    ∙ All-contains (λ (e : Rect). meets e rect ≡ false) areas area none (k, within, is)))

in_both : (inside some world_has marked : Bool) → (inside ≡ true → world_has ≡ true) → (inside ≡ true → marked ≡ (world_has && some)) → (inside && some) ≡ (inside && marked)
in_both true some true marked whole same = sym (same refl)
in_both true some false marked whole same = absurd (true≢false (sym (whole refl)))
in_both false some world_has marked whole same = refl

-- where no area that awaits checking meets the rectangle, they are the marks in it
pub violations_are_marks :
    (rules : List EdgeRule) (rect : Rect) (layout : Layout) (checking : Checking) → length rules ≤ 128 → IsRectangleIn world rect → IsChecked rules layout checking
    → All (λ area. meets area rect ≡ false) checking.dirty → (x y : ℕ) → squares_in_all (violations_in rules rect layout) x y ≡ (holds rect x y && checking.marks x y)
violations_are_marks rules rect layout checking few legal checked none x y =
    squares-violations rules rect layout x y few legal
    ∙ in_both (holds rect x y) (list_any (λ rule. forbids rule layout (record { x = x; y = y })) rules) (holds world x y) (checking.marks x y)
    (λ here. holds_inside world rect x y legal here)
    (λ here. checked x y (holds_inside world rect x y legal here) (apart checking.dirty rect x y none here))
