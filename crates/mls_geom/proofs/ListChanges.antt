-- Lists of which one element is replaced, or to which one is added at the end.
use Rattle.mls_geom.proofs.Common.{◌≢◌, ℕ, zero, suc, ◌<◌, List, [], ◌∷◌, ◌++◌, length, get_or, set, All, slice_get, IsSomeAnd, inl, inr, suc-le-suc, le_of_suc-le-suc, arith, get_or-set_other, length-set, AllPairs, Any, HoldsAt, cases_eq, get_or-set_at, get_or_default, any-set}

-- what holds of the new element and of each other one
pub All-set_others :
    {X : Type 0} (P : X → Type 0) (xs : List X) (n : ℕ) (y d : X) → P y → ((k : ℕ) → k < length xs → k ≢ n → P (get_or xs k d)) → All P (set xs n y)
All-set_others P xs n y d here others k e within =
    let inside : k < length xs = rw length-set at within in
    elim (cases_eq k n) [
      | inl same ↦ rw (get_or-set_at xs n k y e same (omega arith)) here
      | inr other ↦ rw (get_or-set_other xs n k y e other, get_or_default xs k e d inside) (others k inside other)
    ]

-- what holds of the old element holds of the new one
pub Any-set_kept : {X : Type 0} (P : X → Type 0) (xs : List X) (n : ℕ) (y d : X) → (P (get_or xs n d) → P y) → Any P xs → Any P (set xs n y)
Any-set_kept P xs n y d kept (k, x, within, is, p) = elim (cases_eq k n) [
  | inl same ↦ any-set P xs n y (omega arith) (kept (rw (← same, get_or_default xs k d x within, is) p))
  | inr other ↦ (k, x, rw length-set within, rw (get_or-set_other xs n k y x other) is, p)
]

-- an element is replaced by one that stands in the same relations
pub AllPairs-set :
    {X : Type 0} (R : X → X → Type 0) (xs : List X) (n : ℕ) (y d : X) → ((x : X) → R (get_or xs n d) x → R y x) → ((x : X) → R x (get_or xs n d) → R x y)
    → AllPairs R xs → AllPairs R (set xs n y)
AllPairs-set R xs n y d before after pairs i j e up within =
    let inside : j < length xs = rw length-set at within in
    let pair = pairs i j e up inside in
    elim (cases_eq i n) [
      | inl first ↦
          let same = get_or_default xs n d e (omega arith) in
          rw (get_or-set_at xs n i y e first (omega arith), get_or-set_other xs n j y e (λ second. omega arith)) (before (get_or xs j e) (rw (same, ← first) pair))
      | inr not_first ↦ elim (cases_eq j n) [
        | inl second ↦
            let same = get_or_default xs n d e (omega arith) in
            rw (get_or-set_other xs n i y e not_first, get_or-set_at xs n j y e second (omega arith)) (after (get_or xs i e) (rw (same, ← second) pair))
        | inr not_second ↦ rw (get_or-set_other xs n i y e not_first, get_or-set_other xs n j y e not_second) pair
      ]
    ]

-- the same of the element at an index, if there is one
pub IsSomeAnd-set : {X : Type 0} (Q : X → Type 0) (xs : List X) (n k : ℕ) (y d : X) → (Q (get_or xs n d) → Q y) → IsSomeAnd (slice_get xs k) Q → IsSomeAnd (slice_get (set xs n y) k) Q
IsSomeAnd-set Q [] n k y d kept held = held
IsSomeAnd-set Q (x ∷ xs) zero zero y d kept held = kept held
IsSomeAnd-set Q (x ∷ xs) zero (suc k) y d kept held = held
IsSomeAnd-set Q (x ∷ xs) (suc n) zero y d kept held = held
IsSomeAnd-set Q (x ∷ xs) (suc n) (suc k) y d kept held = IsSomeAnd-set Q xs n k y d kept held

pub IsSomeAnd-set_same : {X : Type 0} (Q : X → Type 0) (xs : List X) (n : ℕ) (y : X) → n < length xs → Q y → IsSomeAnd (slice_get (set xs n y) n) Q
IsSomeAnd-set_same Q [] n y within held = absurd (omega arith)
IsSomeAnd-set_same Q (x ∷ xs) zero y within held = held
IsSomeAnd-set_same Q (x ∷ xs) (suc n) y within held = IsSomeAnd-set_same Q xs n y (le_of_suc-le-suc within) held

pub IsSomeAnd-append : {X : Type 0} (Q : X → Type 0) (xs ys : List X) (k : ℕ) → IsSomeAnd (slice_get xs k) Q → IsSomeAnd (slice_get (xs ++ ys) k) Q
IsSomeAnd-append Q [] ys k held = absurd held
IsSomeAnd-append Q (x ∷ xs) ys zero held = held
IsSomeAnd-append Q (x ∷ xs) ys (suc k) held = IsSomeAnd-append Q xs ys k held

pub IsSomeAnd-push : {X : Type 0} (Q : X → Type 0) (xs : List X) (y : X) → Q y → IsSomeAnd (slice_get (xs ++ y ∷ []) (length xs)) Q
IsSomeAnd-push Q [] y held = held
IsSomeAnd-push Q (x ∷ xs) y held = IsSomeAnd-push Q xs y held

-- there is an element at the index, with what holds of it
pub at_IsSomeAnd : {X : Type 0} (Q : X → Type 0) (xs : List X) (k : ℕ) → IsSomeAnd (slice_get xs k) Q → (k < length xs) × HoldsAt Q xs k
at_IsSomeAnd Q [] k held = absurd held
at_IsSomeAnd Q (x ∷ xs) zero held = (omega arith, λ _. held)
at_IsSomeAnd Q (x ∷ xs) (suc k) held =
    let (within, here) = at_IsSomeAnd Q xs k held in
    (suc-le-suc within, here)
