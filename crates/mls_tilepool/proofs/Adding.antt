-- A tile that comes in at the head of its owner's chain.
use Rattle.std.proofs.Common.{◌≡◌, ◌≢◌, ℕ, ◌+◌, ◌<◌, Bool, true, false, eqb, cond, List, ◌∷◌, get_or, Option, Some, None, refl, sym, ap, ◌∙◌, inl, inr, arith, Contains}
use Rattle.mls_tilepool.proofs.Common.{option_map, cases_eq, cases_Bool, cond-true, cond-false, eq-eqb, ne_eqb, false_from_ne_true, Contains-cons, owned, IsRow, held_of, links_to, Place, Row, Tile}
use Rattle.mls_tilepool.proofs.Chains.{IsChain-head, IsChain-owner, links_to-true, option_map-some}
use Rattle.mls_tilepool.proofs.Relinking.{IsChain-relinked, linked, linked-false, with_previous}
use Rattle.mls_tilepool.proofs.PoolChanges.{owned_count-change, owned-own, tile_count}
use Rattle.mls_tilepool.proofs.Rows.{IsOwn, IsOwn-held, OthersStay}

-- links say nothing of owner and tile
pub held_of-linked :
    (change : Place → Place) (leads : Bool) (slot : Option Place) → ((place : Place) → held_of (Some (change place)) ≡ held_of (Some place))
    → held_of (cond leads (option_map change slot) slot) ≡ held_of slot
held_of-linked change true None same = refl
held_of-linked change true (Some place) same = same place
held_of-linked change false slot same = refl

-- the new tile's place, before the one that was first
abbrev pub fresh_place : ℕ → Tile → Option ℕ → Place
fresh_place owner tile link = record { owner = owner; tile = tile; previous = None; next = link }

-- the new place stands under its key, and the one that was first leads back to it
abbrev pub AddsPlace : List (Option Place) → List (Option Place) → ℕ → Option ℕ → Place → Type 0
AddsPlace old new key link fresh = (k : ℕ) → get_or new k None ≡ linked (with_previous (Some key)) link k (cond (eqb k key) (Some fresh) (get_or old k None))

-- a vacant key is not of the chain, and the chain's link leads elsewhere
pub vacant_apart : (places : List (Option Place)) (owner : ℕ) (row : Row) (is : IsRow places owner row) (key : ℕ) → get_or places key None ≡ None → ¬ Contains is.keys key
vacant_apart places owner row is key vacant inside =
    let there = IsChain-owner places owner None row.first is.keys key is.chain inside in
    let found = there.1 in
    cc

vacant_unlinked : (places : List (Option Place)) (owner : ℕ) (row : Row) → IsRow places owner row → (key : ℕ) → get_or places key None ≡ None → links_to row.first key ≡ false
vacant_unlinked places owner row is key vacant =
    false_from_ne_true (links_to row.first key) (λ leads.
    vacant_apart places owner row is key vacant
    (IsChain-head places owner None row.first is.keys key is.chain (links_to-true row.first key leads)))

module _ (old new : List (Option Place)) (owner : ℕ) (row : Row) (key : ℕ) (tile : Tile) where
  -- what stands under the new key
  pub added_here :
      IsRow old owner row → get_or old key None ≡ None → AddsPlace old new key row.first (fresh_place owner tile row.first)
      → get_or new key None ≡ Some (fresh_place owner tile row.first)
  added_here is vacant adds =
      adds key
      ∙ linked-false (with_previous (Some key)) row.first key _ (vacant_unlinked old owner row is key vacant)
      ∙ cond-true (eqb key key) (Some (fresh_place owner tile row.first)) (get_or old key None) (eq-eqb key key refl)

  -- every other key has the owner and the tile that it had
  pub added_held :
      AddsPlace old new key row.first (fresh_place owner tile row.first)
      → (k : ℕ) → k ≢ key → held_of (get_or new k None) ≡ held_of (get_or old k None)
  added_held adds k differs =
      ap held_of (adds k)
      ∙ held_of-linked (with_previous (Some key)) (links_to row.first k) _ (λ place. refl)
      ∙ ap held_of (cond-false (eqb k key) (Some (fresh_place owner tile row.first)) (get_or old k None) (ne_eqb k key differs))

  -- places of other owners stay
  pub added_stay :
      IsRow old owner row → get_or old key None ≡ None → AddsPlace old new key row.first (fresh_place owner tile row.first) → OthersStay owner old new
  added_stay is vacant adds k =
      elim (cases_eq k key) [
        | inl same ↦
            let before : get_or old k None ≡ None = ap (λ x. get_or old x None) same ∙ vacant in
            let after : get_or new k None ≡ Some (fresh_place owner tile row.first) = ap (λ x. get_or new x None) same ∙ added_here is vacant adds in
            inr (
              λ place found. absurd (cc),
              λ place found.
                  let both : Some (fresh_place owner tile row.first) ≡ Some place = sym after ∙ found in
                  let there : fresh_place owner tile row.first ≡ place = cc in
                  ap (λ p. p.owner) (sym there),
            )
        | inr differs ↦
            let slot = get_or old k None in
            let kept = cond-false (eqb k key) (Some (fresh_place owner tile row.first)) slot (ne_eqb k key differs) in
            elim (cases_Bool (links_to row.first k)) [
              | inl leads ↦
                  let there = IsChain-owner old owner None row.first is.keys k is.chain
                  (IsChain-head old owner None row.first is.keys k is.chain (links_to-true row.first k leads)) in
                  let own : IsOwn owner slot = λ place found.
                  let both : Some there.0 ≡ Some place = sym there.1 ∙ found in
                  let same : there.0 ≡ place = cc in
                  ap (λ p. p.owner) (sym same) ∙ there.2 in
                  inr (own, IsOwn-held owner slot (get_or new k None) (added_held adds k differs) own)
              | inr away ↦ inl (adds k ∙ linked-false (with_previous (Some key)) row.first k _ away ∙ kept)
            ]
      ]

  -- the owner's row with one tile more
  pub added_row :
      IsRow old owner row → row.count < row.room → get_or old key None ≡ None → AddsPlace old new key row.first (fresh_place owner tile row.first)
      → IsRow new owner (record { room = row.room; count = row.count + 1; first = Some key })
  added_row is fits vacant adds =
      let apart = vacant_apart old owner row is key vacant in
      let here = added_here is vacant adds in
      let change = owned_count-change old new owner key (added_held adds) in
      record {
        some = is.some;
        within = omega (arith, fits);
        count = omega (
          arith,
          is.count,
          change,
          ap (λ slot. tile_count (owned owner (held_of slot))) vacant,
          ap (λ slot. tile_count (owned owner (held_of slot))) here,
          ap tile_count (owned-own owner tile),
        );
        keys = key ∷ is.keys;
        chain = (
          refl,
          apart,
          fresh_place owner tile row.first,
          here,
          refl,
          refl,
          IsChain-relinked old new owner None (Some key) row.first is.keys (λ k inside.
              adds k
              ∙ ap (linked (with_previous (Some key)) row.first k)
              (cond-false (eqb k key) (Some (fresh_place owner tile row.first)) (get_or old k None) (ne_eqb k key (λ same. apart (rw same at inside))))) is.chain,
        );
        each = omega (arith, is.each);
        all = λ k place found owns.
            elim (cases_eq k key) [
              | inl same ↦ (0, omega arith, sym same)
              | inr differs ↦
                  let moved : held_of (get_or old k None) ≡ held_of (Some place) = sym (added_held adds k differs) ∙ ap held_of found in
                  let there = option_map-some (λ (p : Place). record { owner = p.owner; tile = p.tile }) (get_or old k None) (record { owner = place.owner; tile = place.tile }) moved in
                  Contains-cons key k is.keys (is.all k there.0 there.1 (ap (λ h. h.owner) there.2 ∙ owns))
            ];
      }
