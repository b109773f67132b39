-- The tiles of a chain.
use Rattle.std.proofs.Common.{◌≡◌, ℕ, suc, eqb, List, [], ◌∷◌, length, get_or, Option, Some, None, refl, sym, ap, ◌∙◌, inl, inr, arith, Contains}
use Rattle.mls_tilepool.proofs.Common.{option_map_or, cases_eq, cond-true, cond-false, eq-eqb, ne_eqb, Contains-cons, Contains-cons_cases, owned, tile_in, IsChain, held_of, tiles_from, Place}

-- the first tile of a chain, and the others
tiles_from-first :
    (places : List (Option Place)) (owner own : ℕ) (previous link : Option ℕ) (rest : List ℕ) (chain : IsChain places owner previous link (own ∷ rest))
    → tiles_from places (length (own ∷ rest)) link ≡ (own, chain.2.tile) ∷ tiles_from places (length rest) chain.2.next
tiles_from-first places owner own previous link rest chain =
    ap (λ l. tiles_from places (suc (length rest)) l) chain.0
    ∙ ap (λ slot. option_map_or (λ place. (own, place.tile) ∷ tiles_from places (length rest) place.next) slot []) chain.3

-- there is one for each key
pub length-tiles_from :
    (places : List (Option Place)) (owner : ℕ) (previous link : Option ℕ) (keys : List ℕ)
    → IsChain places owner previous link keys → length (tiles_from places (length keys) link) ≡ length keys
length-tiles_from places owner previous link [] chain = refl
length-tiles_from places owner previous link (own ∷ rest) chain =
    ap length (tiles_from-first places owner own previous link rest chain)
    ∙ ap suc (length-tiles_from places owner (Some own) chain.2.next rest chain.6)

-- under each key of the chain stands the owner's tile, and under no other key anything
pub tile_in-tiles_from :
    (places : List (Option Place)) (owner : ℕ) (previous link : Option ℕ) (keys : List ℕ) (key : ℕ)
    → IsChain places owner previous link keys → Contains keys key
    → tile_in (tiles_from places (length keys) link) key ≡ owned owner (held_of (get_or places key None))
tile_in-tiles_from places owner previous link [] key chain inside = absurd (omega (arith, inside.1))
tile_in-tiles_from places owner previous link (own ∷ rest) key chain inside =
    let place = chain.2 in
    let others = tiles_from places (length rest) place.next in
    ap (λ list. tile_in list key) (tiles_from-first places owner own previous link rest chain)
    ∙ elim (cases_eq own key) [
      | inl same ↦
          let there : get_or places key None ≡ Some place = ap (λ k. get_or places k None) (sym same) ∙ chain.3 in
          cond-true (eqb own key) (Some place.tile) (tile_in others key) (eq-eqb own key same)
          ∙ sym (cond-true (eqb place.owner owner) (Some place.tile) None (eq-eqb place.owner owner chain.4))
          ∙ sym (ap (λ slot. owned owner (held_of slot)) there)
      | inr differs ↦
          elim (Contains-cons_cases own key rest inside) [
            | inl same ↦ absurd (differs same)
            | inr later ↦
                cond-false (eqb own key) (Some place.tile) (tile_in others key) (ne_eqb own key differs)
                ∙ tile_in-tiles_from places owner (Some own) place.next rest key chain.6 later
          ]
    ]

pub tile_in-tiles_from_none :
    (places : List (Option Place)) (owner : ℕ) (previous link : Option ℕ) (keys : List ℕ) (key : ℕ)
    → IsChain places owner previous link keys → ¬ Contains keys key → tile_in (tiles_from places (length keys) link) key ≡ None
tile_in-tiles_from_none places owner previous link [] key chain outside = refl
tile_in-tiles_from_none places owner previous link (own ∷ rest) key chain outside =
    let place = chain.2 in
    let others = tiles_from places (length rest) place.next in
    ap (λ list. tile_in list key) (tiles_from-first places owner own previous link rest chain)
    ∙ cond-false (eqb own key) (Some place.tile) (tile_in others key) (ne_eqb own key (λ same. outside (0, omega arith, same)))
    ∙ tile_in-tiles_from_none places owner (Some own) place.next rest key chain.6 (λ inside. outside (Contains-cons own key rest inside))
