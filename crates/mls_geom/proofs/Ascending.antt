-- Lists in strict order, and the elements of lists made of others.
use Rattle.mls_geom.proofs.Common.{◌≡◌, zero, suc, ◌⊎◌, inl, inr, Bool, true, List, [], ◌∷◌, ◌++◌, map, flat_map, filter, All, AllPairs, Contains, refl, sym, ap, ◌∙◌, subst, suc-le-suc, le_of_suc-le-suc, arith, both_ways, cond_both, All-contains, All-map, All-append, All-head, All-tail, Contains-append_left, Contains-append_right, AllPairs-cons}

-- an element of a list is its first or one of the rest
Contains-cases : {X : Type 0} (x y : X) (xs : List X) → Contains (x ∷ xs) y → (x ≡ y) ⊎ Contains xs y
Contains-cases x y xs (zero, within, is) = inl is
Contains-cases x y xs (suc k, within, is) = inr (k, le_of_suc-le-suc within, is)

pub Contains-first : {X : Type 0} (x y : X) (xs : List X) → x ≡ y → Contains (x ∷ xs) y
Contains-first x y xs is = (0, omega arith, is)

pub Contains-rest : {X : Type 0} (x y : X) (xs : List X) → Contains xs y → Contains (x ∷ xs) y
Contains-rest x y xs (k, within, is) = (suc k, suc-le-suc within, is)

nothing_in_nil : {X : Type 0} (x : X) → Contains [] x → ⊥
nothing_in_nil x (k, within, is) = omega arith

pub Contains-map : {X Y : Type 0} (f : X → Y) (xs : List X) (x : X) → Contains xs x → Contains (map f xs) (f x)
Contains-map f [] x h = absurd (nothing_in_nil x h)
Contains-map f (y ∷ xs) x h = elim (Contains-cases y x xs h) [
  | inl is ↦ Contains-first (f y) (f x) (map f xs) (ap f is)
  | inr later ↦ Contains-rest (f y) (f x) (map f xs) (Contains-map f xs x later)
]

pub Contains-flat_map : {X Y : Type 0} (f : X → List Y) (xs : List X) (x : X) (y : Y) → Contains xs x → Contains (f x) y → Contains (flat_map f xs) y
Contains-flat_map f [] x y h part = absurd (nothing_in_nil x h)
Contains-flat_map f (z ∷ xs) x y h part = elim (Contains-cases z x xs h) [
  | inl is ↦ Contains-append_left (f z) (flat_map f xs) y (subst (λ z. Contains (f z) y) (sym is) part)
  | inr later ↦ Contains-append_right (f z) (flat_map f xs) y (Contains-flat_map f xs x y later part)
]

pub Contains-filter : {X : Type 0} (p : X → Bool) (xs : List X) (x : X) → Contains xs x → p x ≡ true → Contains (filter p xs) x
Contains-filter p [] x h passes = h
Contains-filter p (y ∷ xs) x h passes = elim (Contains-cases y x xs h) [
  | inl is ↦
      cond_both (p y) (y ∷ filter p xs) (filter p xs) (λ ys. Contains ys x) (λ kept. Contains-first y x (filter p xs) is)
      (λ fails. absurd (both_ways (p y) fails (ap p is ∙ passes)))
  | inr later ↦
      let there = Contains-filter p xs x later passes in
      cond_both (p y) (y ∷ filter p xs) (filter p xs) (λ ys. Contains ys x) (λ kept. Contains-rest y x (filter p xs) there) (λ fails. there)
]

-- the first of a list in order stands before each of the rest
pub AllPairs-first : {X : Type 0} (R : X → X → Type 0) (x : X) (xs : List X) → AllPairs R (x ∷ xs) → All (R x) xs
AllPairs-first R x xs up k d within = up 0 (suc k) d (omega arith) (suc-le-suc within)

pub AllPairs-rest : {X : Type 0} (R : X → X → Type 0) (x : X) (xs : List X) → AllPairs R (x ∷ xs) → AllPairs R xs
AllPairs-rest R x xs up i j d before within = up (suc i) (suc j) d (suc-le-suc before) (suc-le-suc within)

pub AllPairs-map : {X Y : Type 0} (R : Y → Y → Type 0) (f : X → Y) (xs : List X) → AllPairs (λ x y. R (f x) (f y)) xs → AllPairs R (map f xs)
AllPairs-map R f [] up = λ i j d before within. absurd (omega arith)
AllPairs-map R f (x ∷ xs) up =
    AllPairs-cons R (f x) (map f xs) (All-map (R (f x)) f xs (AllPairs-first (λ x y. R (f x) (f y)) x xs up))
    (AllPairs-map R f xs (AllPairs-rest (λ x y. R (f x) (f y)) x xs up))

-- two lists in order, one before the other
pub AllPairs-append : {X : Type 0} (R : X → X → Type 0) (xs ys : List X) → AllPairs R xs → AllPairs R ys → All (λ x. All (R x) ys) xs → AllPairs R (xs ++ ys)
AllPairs-append R [] ys up up' across = up'
AllPairs-append R (x ∷ xs) ys up up' across =
    AllPairs-cons R x (xs ++ ys) (All-append (R x) xs ys (AllPairs-first R x xs up) (All-head (λ x. All (R x) ys) x xs across))
    (AllPairs-append R xs ys (AllPairs-rest R x xs up) up' (All-tail (λ x. All (R x) ys) x xs across))

-- without its first, a list in strict order has its elements in whatever list has the whole's
rest_there :
    {X : Type 0} (R : X → X → Type 0) → ((x y : X) → R x y → R y x → ⊥) → (x : X) (xs ys : List X) → AllPairs R (x ∷ xs)
    → ((z : X) → Contains (x ∷ xs) z → Contains (x ∷ ys) z) → (z : X) → Contains xs z → Contains ys z
rest_there R one_way x xs ys up there z h = elim (Contains-cases x z ys (there z (Contains-rest x z xs h))) [
  | inl is ↦
      let after = All-contains (R x) xs z (AllPairs-first R x xs up) h in
      absurd (one_way x x (subst (R x) (sym is) after) (subst (R x) (sym is) after))
  | inr later ↦ later
]

-- two lists in strict order with the same elements are one
pub same_ascending :
    {X : Type 0} (R : X → X → Type 0) → ((x y : X) → R x y → R y x → ⊥) → (xs ys : List X) → AllPairs R xs → AllPairs R ys
    → ((x : X) → Contains xs x → Contains ys x) → ((x : X) → Contains ys x → Contains xs x) → xs ≡ ys
same_ascending R one_way [] [] up up' there back = refl
same_ascending R one_way [] (y ∷ ys) up up' there back = absurd (nothing_in_nil y (back y (Contains-first y y ys refl)))
same_ascending R one_way (x ∷ xs) [] up up' there back = absurd (nothing_in_nil x (there x (Contains-first x x xs refl)))
same_ascending R one_way (x ∷ xs) (y ∷ ys) up up' there back =
    let firsts : x ≡ y = elim (Contains-cases y x ys (there x (Contains-first x x xs refl))) [
      | inl is ↦ sym is
      | inr x_later ↦
          elim (Contains-cases x y xs (back y (Contains-first y y ys refl))) [
            | inl is ↦ is
            | inr y_later ↦ absurd (one_way x y (All-contains (R x) xs y (AllPairs-first R x xs up) y_later) (All-contains (R y) ys x (AllPairs-first R y ys up') x_later))
          ]
    ] in
    let rests : xs ≡ ys =
    same_ascending R one_way xs ys (AllPairs-rest R x xs up) (AllPairs-rest R y ys up')
    (rest_there R one_way x xs ys up (λ z h. subst (λ w. Contains (w ∷ ys) z) (sym firsts) (there z h)))
    (rest_there R one_way y ys xs up' (λ z h. subst (λ w. Contains (w ∷ xs) z) firsts (back z h))) in
    cc
