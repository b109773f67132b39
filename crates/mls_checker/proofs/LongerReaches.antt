-- Rules that reach at least as far as others.
use Rattle.std.proofs.Common.{◌≡◌, ℕ, ◌+◌, ◌≤◌, Bool, true, inl, inr, ◌||◌, List, [], ◌∷◌, arith}
use Rattle.std.specs.List.{list_any, range_with_len}
use Rattle.std.proofs.lemmas.Bool.{and_from, and_parts, or_left, or_right, or_cases}
use Rattle.mls_edgerule.specs.Directions.{directions_in}
use Rattle.mls_edgerule.specs.declared.edge_rule.EdgeRule.{EdgeRule}
use Rattle.mls_geom.specs.Directions.{across, back, moved}
use Rattle.mls_geom.specs.Layouts.{Layout}
use Rattle.mls_geom.specs.Rects.{Point}
use Rattle.mls_geom.specs.declared.direction.Direction.{Direction}
use Rattle.mls_checker.specs.Forbids.{forbids, in_block, in_row, is_cornered, is_disallowed, is_edge, reaches}
use Rattle.mls_checker.proofs.ListTests.{below_finds, found_below}

-- the rule with other distances
abbrev pub reaching : EdgeRule → ℕ → ℕ → EdgeRule
reaching rule distance corner_distance = record rule { distance = distance; corner_distance = corner_distance }

-- what passes a test passes a weaker one
any_weaker : {X : Type 0} (f g : X → Bool) (xs : List X) → ((x : X) → f x ≡ true → g x ≡ true) → list_any f xs ≡ true → list_any g xs ≡ true
any_weaker f g [] weaker some = some
any_weaker f g (x ∷ xs) weaker some = elim (or_cases (f x) (list_any f xs) some) [
  | inl first ↦ or_left (g x) (list_any g xs) (weaker x first)
  | inr later ↦ or_right (g x) (list_any g xs) (any_weaker f g xs weaker later)
]

any_longer : (f : ℕ → Bool) (m n : ℕ) → m ≤ n → list_any f (range_with_len 0 m) ≡ true → list_any f (range_with_len 0 n) ≡ true
any_longer f m n more some = let i = found_below f m some in below_finds f n i.0 (omega (arith, i.1)) i.2

block_longer : (rule : EdgeRule) (layout : Layout) (d c : ℕ) (direction : Direction) (q : Point) (flank : Direction) → rule.corner_distance ≤ c
    → in_block rule layout direction q flank ≡ true → in_block (reaching rule d c) layout direction q flank ≡ true
block_longer rule layout d c direction q flank more some =
    let inner : ℕ → ℕ → Bool = λ n i. list_any (λ j. is_cornered rule layout direction flank (moved (back flank) (1 + j) (moved (back direction) i q))) (range_with_len 0 n) in
    any_longer (inner c) rule.corner_distance c more
    (any_weaker (inner rule.corner_distance) (inner c) (range_with_len 0 rule.corner_distance)
    (λ i here. any_longer (λ j. is_cornered rule layout direction flank (moved (back flank) (1 + j) (moved (back direction) i q))) rule.corner_distance c more here) some)

direction_longer : (rule : EdgeRule) (layout : Layout) (d c : ℕ) (q : Point) (direction : Direction) → rule.distance ≤ d → rule.corner_distance ≤ c
    → (in_row rule layout direction q || list_any (in_block rule layout direction q) (across direction)) ≡ true
    → (in_row (reaching rule d c) layout direction q || list_any (in_block (reaching rule d c) layout direction q) (across direction)) ≡ true
direction_longer rule layout d c q direction far far' some =
    elim (or_cases (in_row rule layout direction q) (list_any (in_block rule layout direction q) (across direction)) some) [
      | inl row ↦ or_left (in_row (reaching rule d c) layout direction q) _ (any_longer (λ i. is_edge rule layout direction (moved (back direction) i q)) rule.distance d far row)
      | inr blocks ↦ or_right (in_row (reaching rule d c) layout direction q) _
          (any_weaker (in_block rule layout direction q) (in_block (reaching rule d c) layout direction q) (across direction) (λ flank here. block_longer rule layout d c direction q flank far' here) blocks)
    ]

reaches_longer : (rule : EdgeRule) (layout : Layout) (d c : ℕ) (q : Point) → rule.distance ≤ d → rule.corner_distance ≤ c → reaches rule layout q ≡ true → reaches (reaching rule d c) layout q ≡ true
unfolding reaches
reaches_longer rule layout d c q far far' some =
    any_weaker (λ direction. in_row rule layout direction q || list_any (in_block rule layout direction q) (across direction))
    (λ direction. in_row (reaching rule d c) layout direction q || list_any (in_block (reaching rule d c) layout direction q) (across direction)) (directions_in rule.directions)
    (λ direction here. direction_longer rule layout d c q direction far far' here) some

pub forbids-longer : (rule : EdgeRule) (layout : Layout) (d c : ℕ) (q : Point) → rule.distance ≤ d → rule.corner_distance ≤ c → forbids rule layout q ≡ true → forbids (reaching rule d c) layout q ≡ true
forbids-longer rule layout d c q far far' some =
    let parts = and_parts (is_disallowed rule layout q) (reaches rule layout q) some in
    and_from (is_disallowed rule layout q) (reaches (reaching rule d c) layout q) parts.0 (reaches_longer rule layout d c q far far' parts.1)
