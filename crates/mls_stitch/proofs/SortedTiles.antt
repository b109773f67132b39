-- Listed tiles, sorted by their keys, with no key twice.
use Rattle.std.proofs.Common.{◌≡◌, ◌≢◌, ℕ, ◌<◌, ◌≤◌, ◌==◌, Bool, List, [], ◌∷◌, get_or, All, AllPairs, Contains, IsPermutation, Result, Ok, Err, is_err, not, inl, inr, refl, sym, ap, ◌∙◌, subst, eqb-true, zero, suc, arith}
use Rattle.mls_stitch.proofs.Common.{dedup, dedup_from, list_any, IsBinarySearchResult, IsNonDecreasing, IsNonDecreasingBy, cases_Bool, cases_lt, cond-false, cond-true, eqb-false, get_or_default, All-cons, All-weaker, Contains-get_or, Contains-permutation, IsPermutation-sym, searched, Contains-first, Contains-map, Contains-rest, keys_of, KeepsKeys, LaidTile}
use Rattle.std.specs.Ordering.{nat_cmp}
use Rattle.std.proofs.lemmas.List.Kept.{AllPairs-cons, Contains-from_dedup}
use Rattle.mls_stitch.proofs.FreshTiles.{Contains-first_or_rest, list_any-Contains, list_any-absent, nothing_in_nil}

-- the tiles have one key
abbrev pub same_key : LaidTile → LaidTile → Bool
same_key p q = p.id == q.id

abbrev id_of : LaidTile → ℕ
id_of entry = entry.id

-- the first of a sorted list, and the rest
rises : (x : LaidTile) (xs : List LaidTile) → IsNonDecreasingBy id_of (x ∷ xs) → All (λ y. x.id ≤ y.id) xs
rises x xs up k d within = up zero (suc k) d (omega arith) (omega (arith, within))

rest_rises : (x : LaidTile) (xs : List LaidTile) → IsNonDecreasingBy id_of (x ∷ xs) → IsNonDecreasingBy id_of xs
rest_rises x xs up i j d before within = up (suc i) (suc j) d (omega (arith, before)) (omega (arith, within))

skip_rises : (k x : LaidTile) (xs : List LaidTile) → IsNonDecreasingBy id_of (k ∷ x ∷ xs) → IsNonDecreasingBy id_of (k ∷ xs)
skip_rises k x xs up zero zero d before within = up zero zero d before (omega (arith, within))
skip_rises k x xs up zero (suc j) d before within = up zero (suc (suc j)) d (omega (arith, before)) (omega (arith, within))
skip_rises k x xs up (suc i) zero d before within = absurd (omega (arith, before))
skip_rises k x xs up (suc i) (suc j) d before within = up (suc (suc i)) (suc (suc j)) d (omega (arith, before)) (omega (arith, within))

-- a key that is not less and differs is more
lt_of : (x k y : ℕ) → (x ≡ k → ⊥) → k ≤ x → x ≤ y → k < y
lt_of x k y ne le more = elim (cases_lt k y) [
  | inl less ↦ less
  | inr not_less ↦ absurd (ne (omega (arith, le, more, not_less)))
]

-- each key that is kept is above those kept before
dedup_from_rises : (k : LaidTile) (xs : List LaidTile) → IsNonDecreasingBy id_of (k ∷ xs) → AllPairs (λ p q. p.id < q.id) (dedup_from same_key k xs) × All (λ y. k.id ≤ y.id) (dedup_from same_key k xs)
dedup_from_rises k [] up = ((λ i j d before within. absurd (omega (arith, before, within))), All-cons (λ (y : LaidTile). k.id ≤ y.id) k [] (omega arith) (λ i d within. absurd (omega (arith, within))))
dedup_from_rises k (x ∷ xs) up = elim (cases_Bool (same_key x k)) [
  | inl same ↦ rw (cond-true _ (dedup_from same_key k xs) (k ∷ dedup_from same_key x xs) same) (dedup_from_rises k xs (skip_rises k x xs up))
  | inr differ ↦
      let later = dedup_from_rises x xs (rest_rises k (x ∷ xs) up) in
      let ne : x.id ≡ k.id → ⊥ = eqb-false x.id k.id differ in
      let le : k.id ≤ x.id = rises k (x ∷ xs) up zero x (omega arith) in
      let above : All (λ (y : LaidTile). k.id < y.id) (dedup_from same_key x xs) = All-weaker (λ (y : LaidTile). x.id ≤ y.id) (λ (y : LaidTile). k.id < y.id) (λ y more. lt_of x.id k.id y.id ne le more) (dedup_from same_key x xs) later.1 in
      rw (cond-false _ (dedup_from same_key k xs) (k ∷ dedup_from same_key x xs) differ)
      (AllPairs-cons (λ (p q : LaidTile). p.id < q.id) k (dedup_from same_key x xs) above later.0, All-cons (λ (y : LaidTile). k.id ≤ y.id) k (dedup_from same_key x xs) (omega arith) (All-weaker (λ (y : LaidTile). k.id < y.id) (λ (y : LaidTile). k.id ≤ y.id) (λ y more. omega (arith, more)) (dedup_from same_key x xs) above))
]

-- so no key is there twice
pub once-dedup : (xs : List LaidTile) → IsNonDecreasingBy id_of xs → AllPairs (λ p q. p.id ≢ q.id) (dedup same_key xs)
once-dedup [] up = λ i j d before within. absurd (omega (arith, within))
once-dedup (x ∷ xs) up = λ i j d before within. λ same. omega (arith, (dedup_from_rises x xs up).0 i j d before within, same)

-- and each key is still there
keys-dedup_from : (k : LaidTile) (xs : List LaidTile) (entry : LaidTile) → Contains (k ∷ xs) entry → Contains (keys_of (dedup_from same_key k xs)) entry.id
keys-dedup_from k [] entry found = elim (Contains-first_or_rest k entry [] found) [
  | inl same ↦ Contains-first k.id entry.id [] (ap id_of same)
  | inr rest ↦ absurd (nothing_in_nil entry rest)
]
keys-dedup_from k (x ∷ xs) entry found = elim (cases_Bool (same_key x k)) [
  | inl same ↦ rw (cond-true _ (dedup_from same_key k xs) (k ∷ dedup_from same_key x xs) same) (elim (Contains-first_or_rest k entry (x ∷ xs) found) [
    | inl first ↦ keys-dedup_from k xs entry (Contains-first k entry xs first)
    | inr later ↦ elim (Contains-first_or_rest x entry xs later) [
      | inl next ↦ subst (Contains (keys_of (dedup_from same_key k xs))) (sym (eqb-true x.id k.id same) ∙ ap id_of next) (keys-dedup_from k xs k (Contains-first k k xs refl))
      | inr last ↦ keys-dedup_from k xs entry (Contains-rest k entry xs last)
    ]
  ])
  | inr differ ↦ rw (cond-false _ (dedup_from same_key k xs) (k ∷ dedup_from same_key x xs) differ) (elim (Contains-first_or_rest k entry (x ∷ xs) found) [
    | inl first ↦ Contains-first k.id entry.id (keys_of (dedup_from same_key x xs)) (ap id_of first)
    | inr later ↦ Contains-rest k.id entry.id (keys_of (dedup_from same_key x xs)) (keys-dedup_from x xs entry later)
  ])
]

pub keys-dedup : (xs : List LaidTile) (entry : LaidTile) → Contains xs entry → Contains (keys_of (dedup same_key xs)) entry.id
keys-dedup [] entry found = absurd (nothing_in_nil entry found)
keys-dedup (x ∷ xs) entry found = keys-dedup_from x xs entry found

-- so a list that is sorted and loses its duplicates keeps its tiles and keys
pub KeepsKeys-sorted : (before sorted after : List LaidTile) → IsPermutation before sorted → after ≡ dedup same_key sorted → KeepsKeys before after
KeepsKeys-sorted before sorted after moved is = record {
  tiles = subst (All (Contains before)) (sym is) (λ k d within. Contains-permutation sorted before _ (IsPermutation-sym before sorted moved) (Contains-from_dedup same_key sorted _ (Contains-get_or (dedup same_key sorted) k d within)));
  keys = λ k d within. subst (λ l. Contains (keys_of l) (get_or before k d).id) (sym is) (keys-dedup sorted (get_or before k d) (Contains-permutation before sorted (get_or before k d) moved (Contains-get_or before k d within)));
}

pub KeepsKeys-refl : (list : List LaidTile) → KeepsKeys list list
KeepsKeys-refl list = record {
  tiles = λ k d within. Contains-get_or list k d within;
  keys = λ k d within. Contains-map id_of list (get_or list k d) (Contains-get_or list k d within);
}

-- in a list that rises the search fails for a number that isn't there
pub not_found : (keys : List ℕ) (key : ℕ) (r : Result ℕ ℕ) → IsNonDecreasing keys → IsBinarySearchResult (λ y. nat_cmp y key) keys r → is_err r ≡ not (list_any (λ k. k == key) keys)
not_found keys key (Ok i) up found =
    let (within, here) = searched keys key (Ok i) found (λ j k before less. up j k 0 before less) in
    ap not (sym (list_any-Contains keys key (i, within, get_or_default keys i key 0 within ∙ here)))
not_found keys key (Err i) up found =
    let (end, below, above) = searched keys key (Err i) found (λ j k before less. up j k 0 before less) in
    ap not (sym (list_any-absent keys key (λ (k, within, is).
    let at : get_or keys k 0 ≡ key = get_or_default keys k 0 key within ∙ is in
    elim (cases_lt k i) [
      | inl less ↦ omega (arith, below k less, at)
      | inr more ↦ omega (arith, above k more within, at)
    ])))
