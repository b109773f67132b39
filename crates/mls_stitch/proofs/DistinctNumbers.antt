-- Lists of numbers, none of which stands twice.
use Rattle.std.proofs.Common.{◌≢◌, ℕ, ◌≤◌, ◌⊎◌, inl, inr, nat_eq, List, length}
use Rattle.mls_stitch.proofs.Common.{All, AllPairs, Contains, list_any, both_ways, cases_Bool, eqb-true, ne_eqb, All-contains}
use Rattle.std.proofs.lemmas.Cmp.{nat_eq_equiv}
use Rattle.std.proofs.lemmas.Map.Keys.{IsDistinct-from_apart}
use Rattle.std.proofs.lemmas.Map.Made.{length-le_from_is_member}
use Rattle.std.proofs.lemmas.Map.Views.{Contains-from_any, list_any-from_Contains}

-- a number is in a list or not
pub cases_Contains : (xs : List ℕ) (x : ℕ) → Contains xs x ⊎ (¬ (Contains xs x))
cases_Contains xs x = elim (cases_Bool (list_any (nat_eq x) xs)) [
  | inl there ↦ inl (Contains-from_any {eq = nat_eq} (λ a b. eqb-true a b) x xs there)
  | inr absent ↦ inr (λ there. both_ways _ absent (list_any-from_Contains nat_eq_equiv x xs there))
]

-- different numbers of a list are at most as many as all of it
pub length-le-AllPairs : (xs ys : List ℕ) → AllPairs (λ a b. a ≢ b) xs → All (Contains ys) xs → length xs ≤ length ys
length-le-AllPairs xs ys differ there =
    length-le_from_is_member nat_eq_equiv xs ys (IsDistinct-from_apart nat_eq xs (λ i j d before within. ne_eqb _ _ (differ i j d before within)))
    (λ x in_xs. list_any-from_Contains nat_eq_equiv x ys (All-contains (Contains ys) xs x there (Contains-from_any {eq = nat_eq} (λ a b. eqb-true a b) x xs in_xs)))
