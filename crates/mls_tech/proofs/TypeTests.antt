-- The types that pass a test, found one by one.
use Rattle.std.proofs.Common.{◌≡◌, ◌≢◌, ℕ, ◌+◌, ◌-◌, ◌≤◌, ◌==◌, Bool, true, false, ◌&&◌, List, length, nat_lt, nat_le, refl, ◌∙◌, ⊎_elim, arith}
use Rattle.std.proofs.lemmas.Bool.{cases_eq, cases_lt, lt-ltb, ne_eqb}
use Rattle.std.proofs.lemmas.Bool.Decides.{nat_tests}
use Rattle.std.proofs.lemmas.Option.{slice_get_past}
use Rattle.mls_tech.specs.Readings.{lies_on_plane}
use Rattle.mls_kinds.specs.KindSets.{set_of}
use Rattle.mls_kinds.specs.KindSets.{union}
use Rattle.mls_kinds.proofs.KindSetLemmas.{set_of_none, union-set_of}

-- tests that agree give one set
set_of-same : (test other : ℕ → Bool) → ((kind : ℕ) → test kind ≡ other kind) → set_of test ≡ set_of other
set_of-same test other same = λ i. set_of (λ kind. same kind i)

module _ (test : ℕ → Bool) where
  -- the types below n that pass
  abbrev pub below : ℕ → ℕ → Bool
  below n kind = nat_lt kind n && test kind

  -- below 0 there is none
  pub set_of-below_none : 0 ≡ set_of (below 0)
  set_of-below_none = set_of_none ∙ set_of-same _ _ (λ kind. grind (arith, nat_tests))

  -- one more that passes
  pub set_of-below_more : (n : ℕ) → test n ≡ true → union (set_of (below n)) (set_of (λ kind. kind == n)) ≡ set_of (below (n + 1))
  set_of-below_more n passes = union-set_of _ _ ∙ set_of-same _ _ (λ kind. ⊎_elim
      (λ same. rw same (rw passes (grind (arith, nat_tests))))
      (λ other. grind (arith, nat_tests))
      (cases_eq kind n))

  -- one more that doesn't
  pub set_of-below_same : (n : ℕ) → test n ≡ false → set_of (below n) ≡ set_of (below (n + 1))
  set_of-below_same n fails = set_of-same _ _ (λ kind. ⊎_elim
      (λ same. rw same (rw fails (grind (arith, nat_tests))))
      (λ other. grind (arith, nat_tests))
      (cases_eq kind n))

  -- where none from n on passes, these are all
  pub set_of-below_all : (n : ℕ) → ((kind : ℕ) → n ≤ kind → test kind ≡ false) → set_of (below n) ≡ set_of test
  set_of-below_all n fails = set_of-same _ _ (λ kind. ⊎_elim
      (λ lt. rw (lt-ltb kind n lt) refl)
      (λ ge. rw (fails kind ge) (grind (arith, nat_tests)))
      (cases_lt kind n))

-- no type past the last is one
pub not_a_type : (count kind : ℕ) → count + 1 ≤ kind → nat_le kind count ≡ false
not_a_type count kind past = grind (arith, nat_tests)

-- or lies on a plane
pub lies_nowhere : (type_planes : List ℕ) (plane kind : ℕ) → length type_planes + 1 ≤ kind → lies_on_plane type_planes plane kind ≡ false
lies_nowhere type_planes plane kind past =
    let other : kind ≢ 0 = omega arith in
    let outside : length type_planes ≤ kind - 1 = omega arith in
    rw (ne_eqb kind 0 other, slice_get_past type_planes (kind - 1) outside) refl
