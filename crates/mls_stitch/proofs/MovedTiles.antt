-- The same tiles listed in another order.
use Rattle.std.proofs.Common.{◌≢◌, ℕ, ◌<◌, List, [], ◌∷◌, length, get_or, nat_eq, sym, ◌∙◌, arith}
use Rattle.mls_stitch.proofs.Common.{AllPairs, Any, IsDistinct, IsPermutation, eqb-false, ne_eqb, get_or-map, length-map, Contains-permutation, IsPermutation-map, keys_of, LaidTile}
use Rattle.std.proofs.lemmas.Map.Keys.{apart_from_distinct, IsDistinct-from_apart}
use Rattle.mls_geom.proofs.ListLemmas.{IsDistinct-moved}

-- the keys differ as the entries' do
keys_apart :
    (xs : List LaidTile) → AllPairs (λ (p q : LaidTile). p.id ≢ q.id) xs → (i j e : ℕ) → i < j → j < length (keys_of xs) → get_or (keys_of xs) i e ≢ get_or (keys_of xs) j e
keys_apart [] once i j e below within same = absurd (omega (arith, within))
keys_apart (x ∷ rest) once i j e below within same =
    let inside : j < length (x ∷ rest) = omega (arith, within, length-map (x ∷ rest) (λ (entry : LaidTile). entry.id)) in
    let inside_too : i < length (x ∷ rest) = omega (arith, below, inside) in
    once i j x below inside (sym (get_or-map (λ (entry : LaidTile). entry.id) (x ∷ rest) i x e inside_too) ∙ same ∙ get_or-map (λ (entry : LaidTile). entry.id) (x ∷ rest) j x e inside)

-- the order of the entries is free
pub once_moved : (xs ys : List LaidTile) → IsPermutation xs ys → AllPairs (λ (p q : LaidTile). p.id ≢ q.id) xs → AllPairs (λ (p q : LaidTile). p.id ≢ q.id) ys
once_moved xs ys moved once =
    let distinct : IsDistinct nat_eq (keys_of xs) = IsDistinct-from_apart nat_eq (keys_of xs) (λ i j d below within. ne_eqb _ _ (keys_apart xs once i j d below within)) in
    let kept : IsDistinct nat_eq (keys_of ys) = IsDistinct-moved (keys_of xs) (keys_of ys) (IsPermutation-map (λ (entry : LaidTile). entry.id) xs ys moved) distinct in
    λ i j d below within same.
    let inside : j < length (keys_of ys) = omega (arith, within, length-map ys (λ (entry : LaidTile). entry.id)) in
    let inside_too : i < length ys = omega (arith, below, within) in
    eqb-false _ _ (apart_from_distinct nat_eq (keys_of ys) i j 0 kept below inside)
    (get_or-map (λ (entry : LaidTile). entry.id) ys i d 0 inside_too ∙ same ∙ sym (get_or-map (λ (entry : LaidTile). entry.id) ys j d 0 within))

pub any_moved : (P : LaidTile → Type 0) (xs ys : List LaidTile) → IsPermutation xs ys → Any P xs → Any P ys
any_moved P xs ys moved (k, x, within, is, held) =
    let (n, n_within, n_is) = Contains-permutation xs ys x moved (k, within, is) in
    (n, x, n_within, n_is, held)
