-- Lists whose elements are mapped.
use Rattle.mls_geom.proofs.Common.{◌≡◌, ◌≢◌, ℕ, ◌<◌, List, [], ◌∷◌, length, get_or, set, map, All, sym, ap, refl, ◌∙◌, inl, inr, arith, get_or-set_other, length-set, AllPairs, cases_eq, get_or-set_at, ext_get_or, get_or-map, length-map, map-set}

-- functions that agree on each element make one list of it
pub map_alike :
    {X Y : Type 0} (f g : X → Y) (xs : List X) (d : X) → ((k : ℕ) → k < length xs → f (get_or xs k d) ≡ g (get_or xs k d)) → map f xs ≡ map g xs
map_alike f g xs d alike = ext_get_or (f d) (map f xs) (map g xs) (length-map xs f ∙ sym (length-map xs g)) (λ k within.
    let inside : k < length xs = rw (length-map xs f) at within in
    get_or-map f xs k d (f d) inside ∙ alike k inside ∙ sym (get_or-map g xs k d (f d) inside))

-- the same where one element is replaced
pub map_alike_but_one :
    {X Y : Type 0} (f g : X → Y) (xs : List X) (n : ℕ) (y d : X) → ((k : ℕ) → k < length xs → k ≢ n → f (get_or xs k d) ≡ g (get_or xs k d))
    → map f (set xs n y) ≡ set (map g xs) n (f y)
map_alike_but_one f g xs n y d alike = ext_get_or (f d) (map f (set xs n y)) (set (map g xs) n (f y))
    (length-map (set xs n y) f ∙ length-set xs n y ∙ sym (length-map xs g) ∙ sym (length-set (map g xs) n (f y))) (λ k within.
    let inside : k < length xs = rw (length-map (set xs n y) f, length-set) at within in
    elim (cases_eq k n) [
      | inl same ↦ rw (map-set f xs n y, get_or-set_at (map f xs) n k (f y) (f d) same (rw (length-map xs f) (omega arith)))
          (sym (get_or-set_at (map g xs) n k (f y) (f d) same (rw (length-map xs g) (omega arith))))
      | inr other ↦ rw (map-set f xs n y, get_or-set_other (map f xs) n k (f y) (f d) other, get_or-set_other (map g xs) n k (f y) (f d) other)
          (get_or-map f xs k d (f d) inside ∙ alike k inside other ∙ sym (get_or-map g xs k d (f d) inside))
    ])

-- what holds of each element, or of each pair, of the list that f makes, in the words of the list that it is made from
pub All-from_map : {X Y : Type 0} (P : Y → Type 0) (f : X → Y) (xs : List X) → All P (map f xs) → All (λ x. P (f x)) xs
All-from_map P f xs each k d within = rw (get_or-map f xs k d (f d) within) at (each k (f d) (rw (length-map xs f) within))

pub AllPairs-from_map :
    {X Y : Type 0} (R : Y → Y → Type 0) (f : X → Y) (xs : List X) → AllPairs R (map f xs) → AllPairs (λ x y. R (f x) (f y)) xs
AllPairs-from_map R f xs pairs i j d up within =
    rw (get_or-map f xs i d (f d) (omega arith), get_or-map f xs j d (f d) within) at (pairs i j (f d) up (rw (length-map xs f) within))

-- only an empty list makes an empty one
pub map_none : {X Y : Type 0} (f : X → Y) (xs : List X) → map f xs ≡ [] → xs ≡ []
map_none f [] none = refl
map_none f (x ∷ xs) none = absurd (omega (arith, ap length none))
