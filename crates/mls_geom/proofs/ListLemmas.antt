-- Lists and what an index in a list holds.
use Rattle.mls_geom.proofs.Common.{◌≡◌, ℕ, zero, suc, ◌+◌, ◌<◌, Bool, true, false, nat_eq, List, [], ◌∷◌, ◌++◌, length, slice_get, All, Option, None, Some, refl, sym, ap, subst, ◌∙◌, arith, inl, inr, AllByRecursion, Contains, IsDistinct, filter, range_with_len, IsNonDecreasingBy, IsPermutation, IsSomeAnd, option_map_or, ne_eqb, cond-true, cond_both, nat_tests, take_at, drop_at, get_or_append_left, length-append, map-id, All-drop, All-head, All-tail, All-take, Contains-append_cases, Contains-append_left, Contains-append_right, length-range_with_len, get_or-range_with_len, map-range_with_len_more, IsNonDecreasingBy-drop, apart_from_distinct, IsDistinct-IsPermutation, IsDistinct-from_apart, IsDistinct-head, IsDistinct-tail, IsDistinct-cons}

-- what follows from a fact, or two facts, of the value that is there
pub IsSomeAnd-weaker : {X : Type 0} (o : Option X) (P Q : X → Type 0) → ((x : X) → P x → Q x) → IsSomeAnd o P → IsSomeAnd o Q
IsSomeAnd-weaker None P Q weaker at = at
IsSomeAnd-weaker (Some x) P Q weaker at = weaker x at

pub IsSomeAnd-both : {X : Type 0} (o : Option X) (P Q R : X → Type 0) → ((x : X) → P x → Q x → R x) → IsSomeAnd o P → IsSomeAnd o Q → IsSomeAnd o R
IsSomeAnd-both None P Q R both p q = p
IsSomeAnd-both (Some x) P Q R both p q = both x p q

-- a fact that does not speak of the value
pub IsSomeAnd-const : {X : Type 0} (o : Option X) (P : Type 0) → IsSomeAnd o (λ _. P) → P
IsSomeAnd-const None P at = absurd at
IsSomeAnd-const (Some x) P at = at

-- an index that holds a value is within the list
pub within-from_IsSomeAnd : {X : Type 0} (xs : List X) (i : ℕ) (P : X → Type 0) → IsSomeAnd (slice_get xs i) P → i < length xs
within-from_IsSomeAnd [] i P at = absurd at
within-from_IsSomeAnd (x ∷ xs) zero P at = omega arith
within-from_IsSomeAnd (x ∷ xs) (suc i) P at = omega (arith, within-from_IsSomeAnd xs i P at)

-- a test of the value that is there, and what it says
pub option_map_or-true :
    {X : Type 0} (p : X → Bool) (o : Option X) (P : X → Type 0) → ((x : X) → P x → p x ≡ true) → IsSomeAnd o P → option_map_or p o false ≡ true
option_map_or-true p None P passes at = absurd at
option_map_or-true p (Some x) P passes at = passes x at

pub IsSomeAnd-from_option_map_or :
    {X : Type 0} (p : X → Bool) (o : Option X) (P : X → Type 0) → ((x : X) → p x ≡ true → P x) → option_map_or p o false ≡ true → IsSomeAnd o P
IsSomeAnd-from_option_map_or p None P says passed = cc
IsSomeAnd-from_option_map_or p (Some x) P says passed = says x passed

-- what holds of each element holds of the one at an index
pub IsSomeAnd-all : {X : Type 0} (xs : List X) (i : ℕ) (P Q : X → Type 0) → All P xs → IsSomeAnd (slice_get xs i) Q → IsSomeAnd (slice_get xs i) P
IsSomeAnd-all [] i P Q all at = at
IsSomeAnd-all (x ∷ xs) zero P Q all at = All-head P x xs all
IsSomeAnd-all (x ∷ xs) (suc i) P Q all at = IsSomeAnd-all xs i P Q (All-tail P x xs all) at

-- what holds of each element of joined lists holds of those of each
pub All-append_left : {X : Type 0} (P : X → Type 0) (xs ys : List X) → All P (xs ++ ys) → All P xs
All-append_left P xs ys all = subst (All P) (take_at xs ys (length xs) refl) (All-take P (length xs) (xs ++ ys) all)

pub All-append_right : {X : Type 0} (P : X → Type 0) (xs ys : List X) → All P (xs ++ ys) → All P ys
All-append_right P xs ys all = subst (All P) (drop_at xs ys (length xs) refl) (All-drop P (length xs) (xs ++ ys) all)

-- the last of joined lists is in order where both together are
pub IsNonDecreasingBy-append_right : {X : Type 0} (n : X → ℕ) (xs ys : List X) → IsNonDecreasingBy n (xs ++ ys) → IsNonDecreasingBy n ys
IsNonDecreasingBy-append_right n xs ys ordered =
    subst (IsNonDecreasingBy n) (drop_at xs ys (length xs) refl) (IsNonDecreasingBy-drop n (length xs) (xs ++ ys) ordered)

-- the first of joined lists has its elements apart where both together do
pub IsDistinct-append_left : (xs ys : List ℕ) → IsDistinct nat_eq (xs ++ ys) → IsDistinct nat_eq xs
IsDistinct-append_left xs ys apart = IsDistinct-from_apart nat_eq xs (λ i j d below within.
    rw (← get_or_append_left xs ys d i (omega arith), ← get_or_append_left xs ys d j within)
    (apart_from_distinct nat_eq (xs ++ ys) i j d apart below (omega (arith, length-append xs ys))))

-- numbers that differ still do when they change places
pub IsDistinct-moved : (xs ys : List ℕ) → IsPermutation xs ys → IsDistinct nat_eq xs → IsDistinct nat_eq ys
IsDistinct-moved xs ys moved apart = IsDistinct-IsPermutation nat_eq (λ x y. grind (arith, nat_tests)) xs ys moved apart

-- one index more
pub range_with_len_more : (n : ℕ) → range_with_len 0 (n + 1) ≡ range_with_len 0 n ++ n ∷ []
range_with_len_more n = sym (map-id _) ∙ map-range_with_len_more (λ k. k) 0 n n (omega arith) ∙ ap (λ l. l ++ n ∷ []) (map-id _)

-- the indices of a list differ
pub IsDistinct-range_with_len : (a n : ℕ) → IsDistinct nat_eq (range_with_len a n)
IsDistinct-range_with_len a n = IsDistinct-from_apart nat_eq (range_with_len a n) (λ i j d below within.
    let within_range : j < n = omega (arith, length-range_with_len a n) in
    let within_too : i < n = omega arith in
    ne_eqb _ _ (λ same. omega (arith, same, get_or-range_with_len a n i d within_too, get_or-range_with_len a n j d within_range)))

-- a filter of the front keeps what holds of each element
filtered_front : {X : Type 0} (P : X → Type 0) (p : X → Bool) (xs ys : List X) → AllByRecursion P (xs ++ ys) → AllByRecursion P (filter p xs ++ ys)
filtered_front P p [] ys each = each
filtered_front P p (x ∷ xs) ys each =
    let rest = filtered_front P p xs ys each.1 in
    cond_both (p x) (x ∷ filter p xs) (filter p xs) (λ l. AllByRecursion P (l ++ ys)) (λ _. (each.0, rest)) (λ _. rest)

-- a filter of the front keeps apart what was apart
pub IsDistinct-filter_append : (p : ℕ → Bool) (xs ys : List ℕ) → IsDistinct nat_eq (xs ++ ys) → IsDistinct nat_eq (filter p xs ++ ys)
IsDistinct-filter_append p [] ys apart = apart
IsDistinct-filter_append p (x ∷ xs) ys apart =
    let rest = IsDistinct-filter_append p xs ys (IsDistinct-tail nat_eq x (xs ++ ys) apart) in
    let first = filtered_front (λ y. nat_eq x y ≡ false) p xs ys (IsDistinct-head nat_eq x (xs ++ ys) apart) in
    cond_both (p x) (x ∷ filter p xs) (filter p xs) (λ l. IsDistinct nat_eq (l ++ ys)) (λ _. IsDistinct-cons nat_eq x (filter p xs ++ ys) first rest) (λ _. rest)

-- a filter, or a filter of the front, keeps what passes
Contains-filter : {X : Type 0} (p : X → Bool) (xs : List X) (x : X) → p x ≡ true → Contains xs x → Contains (filter p xs) x
Contains-filter p [] x passes (k, within, same) = absurd (omega arith)
Contains-filter p (y ∷ ys) x passes (zero, within, same) =
    rw (cond-true (p y) (y ∷ filter p ys) (filter p ys) (ap p same ∙ passes)) (0, omega arith, same)
Contains-filter p (y ∷ ys) x passes (suc k, within, same) =
    let rest = Contains-filter p ys x passes (k, omega arith, same) in
    cond_both (p y) (y ∷ filter p ys) (filter p ys) (λ l. Contains l x) (λ _. Contains-append_right (y ∷ []) (filter p ys) x rest) (λ _. rest)

pub Contains-filter_append : {X : Type 0} (p : X → Bool) (xs ys : List X) (x : X) → p x ≡ true → Contains (xs ++ ys) x → Contains (filter p xs ++ ys) x
Contains-filter_append p xs ys x passes held = elim (Contains-append_cases xs ys x held) [
  | inl front ↦ Contains-append_left (filter p xs) ys x (Contains-filter p xs x passes front)
  | inr back ↦ Contains-append_right (filter p xs) ys x back
]
