-- What rules forbid in an empty layout, and whether they forbid anything in a layout.
use Rattle.std.proofs.Common.{◌≡◌, ℕ, zero, suc, ◌-◌, nat_lt, Bool, not, true, false, if◌then◌else◌, ◌&&◌, ◌||◌, List, [], ◌∷◌, refl, sym, ap, ◌∙◌, arith}
use Rattle.std.specs.Cmp.{both_ways}
use Rattle.std.specs.List.{list_any, range_with_len}
use Rattle.std.proofs.lemmas.Bool.{and_from, and_parts, false_from_ne_true}
use Rattle.std.proofs.lemmas.Bool.{both_ways as contradiction}
use Rattle.std.proofs.lemmas.Bool.Decides.{nat_tests}
use Rattle.mls_errorplane.proofs.Common.{Direction, Directions, Down, EdgeRule, Four, IsChecked, Layout, Left, Point, Right, RightAndUp, Up, across, columns, directions_in, empty_picture, forbidden, forbids, forbids_any, forbids_space, holds, in_block, in_row, opening_checking, reaches, squares_of, world}
use Rattle.mls_kinds.specs.KindSets.{has_bit as has_type}
use Rattle.mls_geom.proofs.Holds.{holds_between}
use Rattle.mls_checker.proofs.ListTests.{found_in_range, list_any_same, range_finds}

-- ---- whether the rules forbid some square
-- they do where they forbid this one
forbids_any-finds : (rules : List EdgeRule) (layout : Layout) (x y : ℕ) → holds world x y ≡ true → forbidden rules layout x y ≡ true → forbids_any rules layout ≡ true
unfolding forbids_any
forbids_any-finds rules layout x y here is =
    let lines = holds_between world x y here in
    range_finds (λ b. list_any (λ a. forbidden rules layout a b) (columns world)) world.bottom (world.top - world.bottom) y lines.2 lines.3
    (range_finds (λ a. forbidden rules layout a y) world.left (world.right - world.left) x lines.0 lines.1 is)

-- where they do, here is a square that they forbid
found-forbidden : (rules : List EdgeRule) (layout : Layout) → forbids_any rules layout ≡ true → (x y : ℕ) × (forbidden rules layout x y ≡ true)
unfolding forbids_any
found-forbidden rules layout some =
    let y = found_in_range (λ b. list_any (λ a. forbidden rules layout a b) (columns world)) world.bottom (world.top - world.bottom) some in
    let x = found_in_range (λ a. forbidden rules layout a y.0) world.left (world.right - world.left) y.3 in
    (x.0, y.0, x.3)

-- where they don't, they forbid none
none-forbidden : (rules : List EdgeRule) (layout : Layout) (x y : ℕ) → holds world x y ≡ true → forbids_any rules layout ≡ false → forbidden rules layout x y ≡ false
none-forbidden rules layout x y here none =
    false_from_ne_true (forbidden rules layout x y) (λ is. contradiction (forbids_any rules layout) none (forbids_any-finds rules layout x y here is))

-- ---- one rule in an empty layout
abbrev empty : Layout
empty plane = empty_picture

-- a test that each element passes or none, on a list that isn't empty
same_each : {X : Type 0} (x : X) (xs : List X) (b : Bool) → list_any (λ (y : X). b) (x ∷ xs) ≡ b
same_each x xs true = refl
same_each x [] false = refl
same_each x (y ∷ xs) false = same_each y xs false

some_steps : (n : ℕ) → nat_lt 0 (suc n) ≡ true
some_steps n = grind (arith, nat_tests)

some_below : (n : ℕ) (b : Bool) → list_any (λ (i : ℕ). b) (range_with_len 0 n) ≡ (nat_lt 0 n && b)
some_below zero b = refl
some_below (suc n) b = same_each 0 (range_with_len 1 n) b ∙ ap (λ t. t && b) (sym (some_steps n))

each_across : (direction : Direction) (b : Bool) → list_any (λ (flank : Direction). b) (across direction) ≡ b
each_across Right b = same_each Up (Down ∷ []) b
each_across Up b = same_each Right (Left ∷ []) b
each_across Left b = same_each Up (Down ∷ []) b
each_across Down b = same_each Right (Left ∷ []) b

each_direction : (directions : Directions) (b : Bool) → list_any (λ (direction : Direction). b) (directions_in directions) ≡ b
each_direction RightAndUp b = same_each Right (Up ∷ []) b
each_direction Four b = same_each Right (Up ∷ Left ∷ Down ∷ []) b

-- space lies on both sides of an edge, and beside it
abbrev is_edge_of : EdgeRule → Bool
is_edge_of rule = has_type rule.types2 0 && has_type rule.types1 0

abbrev is_cornered_of : EdgeRule → Bool
is_cornered_of rule = is_edge_of rule && has_type rule.corner_types 0

-- the rows and the blocks of such edges
abbrev row_of : EdgeRule → Bool
row_of rule = nat_lt 0 rule.distance && is_edge_of rule

abbrev block_of : EdgeRule → Bool
block_of rule = nat_lt 0 rule.corner_distance && (nat_lt 0 rule.corner_distance && is_cornered_of rule)

block-space : (rule : EdgeRule) (direction flank : Direction) (p : Point) → in_block rule empty direction p flank ≡ block_of rule
block-space rule direction flank p =
    some_below rule.corner_distance (list_any (λ (j : ℕ). is_cornered_of rule) (range_with_len 0 rule.corner_distance))
    ∙ ap (λ b. nat_lt 0 rule.corner_distance && b) (some_below rule.corner_distance (is_cornered_of rule))

direction-space :
    (rule : EdgeRule) (p : Point) (direction : Direction)
    → (in_row rule empty direction p || list_any (in_block rule empty direction p) (across direction)) ≡ (row_of rule || block_of rule)
direction-space rule p direction =
    ap (λ b. b || list_any (in_block rule empty direction p) (across direction)) (some_below rule.distance (is_edge_of rule))
    ∙ ap (λ b. row_of rule || b)
    (list_any_same (in_block rule empty direction p) (λ (flank : Direction). block_of rule) (across direction) (λ flank. block-space rule direction flank p)
    ∙ each_across direction (block_of rule))

reaches-space : (rule : EdgeRule) (p : Point) → reaches rule empty p ≡ (row_of rule || block_of rule)
unfolding reaches
reaches-space rule p =
    list_any_same (λ (direction : Direction). in_row rule empty direction p || list_any (in_block rule empty direction p) (across direction))
    (λ (direction : Direction). row_of rule || block_of rule) (directions_in rule.directions) (direction-space rule p)
    ∙ each_direction rule.directions (row_of rule || block_of rule)

regrouped :
    (before behind allowed corner row block : Bool)
    → (not allowed && ((row && (behind && before)) || (block && (block && ((behind && before) && corner)))))
    ≡ (before && behind && not allowed && (row || (block && corner)))
regrouped before behind allowed corner row block = grind (arith, nat_tests)

-- a rule forbids each square of an empty layout, or none
forbids-space : (rule : EdgeRule) (p : Point) → forbids rule empty p ≡ forbids_space rule
forbids-space rule p =
    ap (λ b. not (has_type rule.ok_types 0) && b) (reaches-space rule p)
    ∙ regrouped (has_type rule.types1 0) (has_type rule.types2 0) (has_type rule.ok_types 0) (has_type rule.corner_types 0) (nat_lt 0 rule.distance) (nat_lt 0 rule.corner_distance)

-- ---- rules in an empty layout
any-space : (rules : List EdgeRule) (p : Point) → list_any (λ (rule : EdgeRule). forbids rule empty p) rules ≡ list_any forbids_space rules
any-space rules p = list_any_same (λ (rule : EdgeRule). forbids rule empty p) forbids_space rules (λ rule. forbids-space rule p)

-- they forbid some square exactly where one of them forbids each
pub forbids_any_of_space : (rules : List EdgeRule) → forbids_any rules (λ plane. empty_picture) ≡ list_any forbids_space rules
forbids_any_of_space rules =
    both_ways (forbids_any rules empty) (list_any forbids_space rules)
    (λ some. (let at = found-forbidden rules empty some in
    let p : Point = record { x = at.0; y = at.1 } in
    sym (any-space rules p) ∙ (and_parts (holds world at.0 at.1) (list_any (λ (rule : EdgeRule). forbids rule empty p) rules) at.2).1))
    (λ some. (let p : Point = record { x = world.left; y = world.bottom } in
    forbids_any-finds rules empty world.left world.bottom refl
    (and_from (holds world world.left world.bottom) (list_any (λ (rule : EdgeRule). forbids rule empty p) rules) refl (any-space rules p ∙ some))))

-- ---- how checking begins
outside : (some : Bool) (x y : ℕ) → holds world x y ≡ true → squares_of (if some then world ∷ [] else []) x y ≡ false → some ≡ false
outside true x y here none = absurd (contradiction (holds world x y || false) none (ap (λ b. b || false) here))
outside false x y here none = refl

pub opening-IsChecked : (rules : List EdgeRule) → IsChecked rules (λ plane. empty_picture) (opening_checking rules)
opening-IsChecked rules x y here none = sym (none-forbidden rules empty x y here (outside (forbids_any rules empty) x y here none))
