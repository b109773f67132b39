-- Lists of areas, rule by rule, that gain what the rules forbid in a rectangle.
use Rattle.std.proofs.Common.{◌≡◌, ◌≢◌, ℕ, zero, suc, ◌∷◌, ◌+◌, ◌<◌, Bool, true, false, true≢false, nat_lt, ◌||◌, ◌&&◌, List, [], ◌++◌, length, get_or, Option, Some, None, slice_get, slice_set, inl, inr, refl, sym, ap, ◌∙◌, arith}
use Rattle.std.proofs.Math.Bool.{or-false}
use Rattle.std.proofs.Math.ListN.{length-set}
use Rattle.std.proofs.lemmas.Bool.{cases_eq}
use Rattle.std.proofs.lemmas.Bool.Decides.{nat_tests}
use Rattle.std.proofs.lemmas.List.{get_or-set_other, get_or-set_same, get_or_default}
use Rattle.std.proofs.lemmas.List.Folds.{list_any-append}
use Rattle.std.proofs.lemmas.Option.{slice_get_read, slice_get_within}
use Rattle.mls_edgerule.specs.declared.edge_rule.EdgeRule.{EdgeRule}
use Rattle.mls_geom.specs.Layouts.{Layout}
use Rattle.mls_geom.specs.Rects.{Rect, holds}
use Rattle.mls_kinds.specs.KindSets.{has_bit}
use Rattle.mls_checker.specs.Marking.{squares_of}
use Rattle.mls_checker.specs.Violations.{GainSomeViolations, GainViolations, areas_at, forbidden_by, violations_of}

-- ---- lists without areas
-- with one more there are still none
pub areas-push : (lists : List (List Rect)) → ((k : ℕ) → areas_at lists k ≡ []) → (k : ℕ) → areas_at (lists ++ [] ∷ []) k ≡ []
areas-push [] none zero = refl
areas-push [] none (suc k) = refl
areas-push (areas ∷ lists) none zero = none 0
areas-push (areas ∷ lists) none (suc k) = areas-push lists (λ j. none (suc j)) k

-- ---- rule by rule
-- the lists of the rules before this one have gained theirs
pub record GainSoFar (rules : List EdgeRule) (set : ℕ) (rect : Rect) (layout : Layout) (old new : List (List Rect)) (i : ℕ) : Type 0 where
  pub as_many : length new ≡ length old
  pub squares : (k : ℕ) → has_bit set k ≡ true → (x y : ℕ) → squares_of (areas_at new k) x y ≡ (squares_of (areas_at old k) x y || (nat_lt k i && violations_of (slice_get rules k) rect layout x y))

module _ (rules : List EdgeRule) (set : ℕ) (rect : Rect) (layout : Layout) (old : List (List Rect)) where
  none_before : (k : ℕ) → nat_lt k 0 ≡ false
  none_before k = grind (arith, nat_tests)

  -- none at first
  pub gain-none : GainSoFar rules set rect layout old old 0
  gain-none = record {
    as_many = refl;
    squares = λ k there x y.
        sym (ap (λ b. squares_of (areas_at old k) x y || (b && violations_of (slice_get rules k) rect layout x y)) (none_before k)
        ∙ or-false (squares_of (areas_at old k) x y));
  }

  before_next : (k i : ℕ) → k ≢ i → nat_lt k (i + 1) ≡ nat_lt k i
  before_next k i other = grind (arith, nat_tests)

  not_before : (i : ℕ) → nat_lt i i ≡ false
  not_before i = grind (arith, nat_tests)

  now_before : (i : ℕ) → nat_lt i (i + 1) ≡ true
  now_before i = grind (arith, nat_tests)

  -- a rule that isn't in the set gains none
  pub gain-skip : (new : List (List Rect)) (i : ℕ) → has_bit set i ≡ false → GainSoFar rules set rect layout old new i → GainSoFar rules set rect layout old new (i + 1)
  gain-skip new i not_in so_far = record {
    as_many = so_far.as_many;
    squares = λ k there x y.
        so_far.squares k there x y
        ∙ ap (λ b. squares_of (areas_at old k) x y || (b && violations_of (slice_get rules k) rect layout x y))
        (sym (before_next k i (λ same. true≢false (sym there ∙ ap (has_bit set) same ∙ not_in))));
  }

  append_at : (was none found : Bool) → none ≡ false → ((was || (none && found)) || found) ≡ (was || found)
  append_at true none found is = refl
  append_at false true found is = absurd (cc)
  append_at false false found is = refl

  -- one that is in it gains what it forbids
  pub gain-next :
      (mid new : List (List Rect)) (i : ℕ) (rule : EdgeRule) (areas : List Rect) → slice_get rules i ≡ Some rule
      → length new ≡ length mid → areas_at new i ≡ areas_at mid i ++ areas → ((k : ℕ) → k ≢ i → areas_at new k ≡ areas_at mid k)
      → ((x y : ℕ) → squares_of areas x y ≡ forbidden_by rule rect layout x y) → GainSoFar rules set rect layout old mid i → GainSoFar rules set rect layout old new (i + 1)
  gain-next mid new i rule areas at lengths here others found so_far = record {
    as_many = lengths ∙ so_far.as_many;
    squares = λ k there x y. elim (cases_eq k i) [
      | inl same ↦
          let was = squares_of (areas_at old i) x y in
          let forbids = violations_of (slice_get rules i) rect layout x y in
          let forbidden : squares_of areas x y ≡ forbids = found x y ∙ ap (λ (r : Option EdgeRule). violations_of r rect layout x y) (sym at) in
          rw same
          (ap (λ (list : List Rect). squares_of list x y) here ∙ list_any-append (λ (e : Rect). holds e x y) (areas_at mid i) areas
          ∙ ap (λ b. b || squares_of areas x y) (so_far.squares i (ap (has_bit set) (sym same) ∙ there) x y)
          ∙ ap (λ b. (was || (nat_lt i i && forbids)) || b) forbidden
          ∙ append_at was (nat_lt i i) forbids (not_before i)
          ∙ ap (λ b. was || (b && forbids)) (sym (now_before i)))
      | inr other ↦
          ap (λ (list : List Rect). squares_of list x y) (others k other) ∙ so_far.squares k there x y
          ∙ ap (λ b. squares_of (areas_at old k) x y || (b && violations_of (slice_get rules k) rect layout x y)) (sym (before_next k i other))
    ];
  }

  -- where its list is the one of this index
  pub gain-item :
      (mid new : List (List Rect)) (i : ℕ) (rule : EdgeRule) (item extended areas : List Rect) → i < length rules → rule ≡ get_or rules i rule
      → i < length mid → item ≡ get_or mid i item → extended ≡ item ++ areas → new ≡ slice_set mid i extended
      → ((x y : ℕ) → squares_of areas x y ≡ forbidden_by rule rect layout x y) → GainSoFar rules set rect layout old mid i → GainSoFar rules set rect layout old new (i + 1)
  gain-item mid new i rule item extended areas below is within item_is longer put found so_far =
      gain-next mid new i rule areas (slice_get_read rules (length rules) i rule refl below is)
      (ap length put ∙ length-set mid i extended)
      (ap (λ (lists : List (List Rect)). areas_at lists i) put ∙ get_or-set_same mid i extended [] within ∙ longer
      ∙ ap (λ (list : List Rect). list ++ areas) (item_is ∙ get_or_default mid i item [] within))
      (λ k other. ap (λ (lists : List (List Rect)). areas_at lists k) put ∙ get_or-set_other mid i k extended [] other) found so_far

  all_before : (k i : ℕ) (found : Option EdgeRule) → slice_get rules k ≡ found → length rules ≡ i → (x y : ℕ) → (nat_lt k i && violations_of found rect layout x y) ≡ violations_of found rect layout x y
  all_before k i None is end x y = none_at (nat_lt k i)
    where
      none_at : (b : Bool) → (b && false) ≡ false
      none_at true = refl
      none_at false = refl
  all_before k i (Some rule) is end x y =
      let within : k < i = omega (arith, slice_get_within rules k rule is, end) in
      let before : nat_lt k i ≡ true = grind (arith, nat_tests) in
      ap (λ b. b && violations_of (Some rule) rect layout x y) before

  -- all have theirs once no rule is left
  pub gain-all : (new : List (List Rect)) (i : ℕ) → length rules ≡ i → GainSoFar rules set rect layout old new i → GainViolations rules set rect layout old new
  gain-all new i end so_far = record {
    as_many = so_far.as_many;
    squares = λ k there x y.
        so_far.squares k there x y ∙ ap (λ b. squares_of (areas_at old k) x y || b) (all_before k i (slice_get rules k) refl end x y);
  }

  some_at : (was before found : Bool) → ((was || (before && found)) || found) ≡ (was || found)
  some_at true before found = refl
  some_at false true true = refl
  some_at false true false = refl
  some_at false false found = refl

  -- and before that some of it
  pub gain-some : (new : List (List Rect)) (i : ℕ) → GainSoFar rules set rect layout old new i → GainSomeViolations rules set rect layout old new
  gain-some new i so_far = record {
    as_many = so_far.as_many;
    squares = λ k there x y.
        let forbids = violations_of (slice_get rules k) rect layout x y in
        ap (λ b. b || forbids) (so_far.squares k there x y) ∙ some_at (squares_of (areas_at old k) x y) (nat_lt k i) forbids;
  }
