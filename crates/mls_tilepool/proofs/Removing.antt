-- A tile that goes out of its owner's chain.
use Rattle.std.proofs.Common.{◌≡◌, ◌≢◌, ℕ, ◌-◌, ◌≤◌, Bool, true, false, eqb, cond, List, [], ◌∷◌, get_or, Option, Some, None, refl, sym, ap, ◌∙◌, ◌⊎◌, inl, inr, arith, Contains}
use Rattle.mls_tilepool.proofs.Common.{option_map, cases_eq, cases_Bool, cond-true, cond-false, eq-eqb, ne_eqb, Contains-cons_cases, owned, IsChain, IsRow, held_of, links_to, Place, Row}
use Rattle.mls_tilepool.proofs.Chains.{IsChain-next, IsChain-owner, IsChain-previous, links_to-other, links_to-same, links_to-true, option_map-some}
use Rattle.mls_tilepool.proofs.Relinking.{Contains-without, IsChain-unlinked, length-without, linked, linked-false, unlinked, with_next, with_previous, without}
use Rattle.mls_tilepool.proofs.PoolChanges.{owned_count-change, owned-own, tile_count}
use Rattle.mls_tilepool.proofs.Rows.{IsOwn, IsOwn-held, OthersStay}
use Rattle.mls_tilepool.proofs.Adding.{held_of-linked}

-- the place is gone, and those before and after it are linked with one another
abbrev pub RemovesPlace : List (Option Place) → List (Option Place) → ℕ → Place → Type 0
RemovesPlace old new gone place = (k : ℕ) → get_or new k None ≡ unlinked gone place k (get_or old k None)

-- an empty slot stays empty
linked-none : (change : Place → Place) (leads : Bool) → cond leads (option_map change None) None ≡ None
linked-none change true = refl
linked-none change false = refl

-- the link to the first place of the chain, once the place with these links is gone
abbrev pub first_after : Option ℕ → Option ℕ → Option ℕ → Option ℕ
first_after None next link = next
first_after (Some before) next link = link

pub first_after-some : (previous next link : Option ℕ) (before : ℕ) → previous ≡ Some before → first_after previous next link ≡ link
first_after-some None next link before some = cc
first_after-some (Some own) next link before some = refl

pub first_after-none : (previous next link : Option ℕ) → previous ≡ None → first_after previous next link ≡ next
first_after-none None next link none = refl
first_after-none (Some own) next link none = cc

-- a place with none before it is the one to which the chain's link leads
first_leads :
    (places : List (Option Place)) (owner : ℕ) (link : Option ℕ) (keys : List ℕ) (gone : ℕ) (place : Place)
    → IsChain places owner None link keys → Contains keys gone → get_or places gone None ≡ Some place
    → cond (links_to link gone) place.next link ≡ first_after place.previous place.next link
first_leads places owner link [] gone place chain inside found = absurd (omega (arith, inside.1))
first_leads places owner link (own ∷ rest) gone place chain inside found =
    elim (cases_eq own gone) [
      | inl same ↦
          let found' = ap (λ k. get_or places k None) same ∙ found in
          let there = chain.3 in
          let both : chain.2 ≡ place = cc in
          cond-true (links_to link gone) place.next link (links_to-same link gone (chain.0 ∙ ap Some same))
          ∙ sym (first_after-none place.previous place.next link (ap (λ p. p.previous) (sym both) ∙ chain.5))
      | inr other ↦
          cond-false (links_to link gone) place.next link (links_to-other link own gone chain.0 other)
          ∙ elim (Contains-cons_cases own gone rest inside) [
            | inl here ↦ absurd (other here)
            | inr later ↦
                elim (IsChain-previous places owner (Some own) chain.2.next rest gone place chain.6 later found) [
                  | inl back ↦ sym (first_after-some place.previous place.next link own back)
                  | inr back ↦ sym (first_after-some place.previous place.next link back.0 back.2)
                ]
          ]
    ]

module _ (old new : List (Option Place)) (owner : ℕ) (row : Row) (gone : ℕ) (place : Place) where
  -- nothing stands under the key
  pub removed_here : RemovesPlace old new gone place → get_or new gone None ≡ None
  removed_here removes =
      removes gone
      ∙ ap (λ s. linked (with_previous place.previous) place.next gone (linked (with_next place.next) place.previous gone s))
      (cond-true (eqb gone gone) None (get_or old gone None) (eq-eqb gone gone refl))
      ∙ ap (linked (with_previous place.previous) place.next gone) (linked-none (with_next place.next) (links_to place.previous gone))
      ∙ linked-none (with_previous place.previous) (links_to place.next gone)

  -- every other key has the owner and the tile that it had
  pub removed_held : RemovesPlace old new gone place → (k : ℕ) → k ≢ gone → held_of (get_or new k None) ≡ held_of (get_or old k None)
  removed_held removes k differs =
      ap held_of (removes k)
      ∙ held_of-linked (with_previous place.previous) (links_to place.next k) _ (λ p. refl)
      ∙ held_of-linked (with_next place.next) (links_to place.previous k) _ (λ p. refl)
      ∙ ap held_of (cond-false (eqb k gone) None (get_or old k None) (ne_eqb k gone differs))

  -- a link of the place's leads to a place of its owner's
  previous_own : (is : IsRow old owner row) → Contains is.keys gone → get_or old gone None ≡ Some place → (k : ℕ) → links_to place.previous k ≡ true → Contains is.keys k
  previous_own is inside found k leads =
      let link = links_to-true place.previous k leads in
      elim (IsChain-previous old owner None row.first is.keys gone place is.chain inside found) [
        | inl none ↦ absurd (cc)
        | inr back ↦ let links = back.2 in let same : back.0 ≡ k = cc in rw same at back.1
      ]

  -- a slot of the chain is the owner's
  chain_own : (is : IsRow old owner row) (k : ℕ) → Contains is.keys k → IsOwn owner (get_or old k None)
  chain_own is k inside other found =
      let there = IsChain-owner old owner None row.first is.keys k is.chain inside in
      let both : Some there.0 ≡ Some other = sym there.1 ∙ found in
      let same : there.0 ≡ other = cc in
      ap (λ p. p.owner) (sym same) ∙ there.2

  -- places of other owners stay
  pub removed_stay :
      IsRow old owner row → get_or old gone None ≡ Some place → place.owner ≡ owner → RemovesPlace old new gone place → OthersStay owner old new
  removed_stay is found owns removes k =
      let inside = is.all gone place found owns in
      let own_there : Contains is.keys k → k ≢ gone → (get_or new k None ≡ get_or old k None) ⊎ (IsOwn owner (get_or old k None) × IsOwn owner (get_or new k None)) =
      λ within differs. inr (chain_own is k within, IsOwn-held owner (get_or old k None) (get_or new k None) (removed_held removes k differs) (chain_own is k within)) in
      elim (cases_eq k gone) [
        | inl same ↦
            let after : get_or new k None ≡ None = ap (λ x. get_or new x None) same ∙ removed_here removes in
            inr (chain_own is k (rw same inside), λ p there. absurd (cc))
        | inr differs ↦
            elim (cases_Bool (links_to place.next k)) [
              | inl leads ↦ own_there (IsChain-next old owner None row.first is.keys gone k place is.chain inside found (links_to-true place.next k leads)) differs
              | inr no_next ↦
                  elim (cases_Bool (links_to place.previous k)) [
                    | inl leads ↦ own_there (previous_own is inside found k leads) differs
                    | inr no_previous ↦
                        inl (removes k
                        ∙ linked-false (with_previous place.previous) place.next k _ no_next
                        ∙ linked-false (with_next place.next) place.previous k _ no_previous
                        ∙ cond-false (eqb k gone) None (get_or old k None) (ne_eqb k gone differs))
                  ]
            ]
      ]

  -- the owner had a tile
  pub removed_counted : IsRow old owner row → get_or old gone None ≡ Some place → place.owner ≡ owner → 1 ≤ row.count
  removed_counted is found owns = omega (arith, length-without gone is.keys (is.all gone place found owns), is.each)

  -- the owner's row with one tile less
  pub removed_row :
      IsRow old owner row → get_or old gone None ≡ Some place → place.owner ≡ owner → RemovesPlace old new gone place
      → IsRow new owner (record { room = row.room; count = row.count - 1; first = first_after place.previous place.next row.first })
  removed_row is found owns removes =
      let inside = is.all gone place found owns in
      let change = owned_count-change old new owner gone (removed_held removes) in
      let held : held_of (get_or old gone None) ≡ Some (record { owner = owner; tile = place.tile }) =
      ap held_of found ∙ ap (λ o. Some (record { owner = o; tile = place.tile })) owns in
      record {
        some = is.some;
        within = omega (arith, is.within);
        count = omega (
          arith,
          is.count,
          change,
          ap (λ slot. tile_count (owned owner slot)) held,
          ap tile_count (owned-own owner place.tile),
          ap (λ slot. tile_count (owned owner (held_of slot))) (removed_here removes),
        );
        keys = without gone is.keys;
        chain = rw (first_leads old owner row.first is.keys gone place is.chain inside found)
            at (IsChain-unlinked old new owner None row.first is.keys gone place removes (λ k within. refl) inside found is.chain);
        each = omega (arith, length-without gone is.keys inside, is.each);
        all = λ k p there owned_by.
            elim (cases_eq k gone) [
              | inl same ↦ let none : get_or new k None ≡ None = ap (λ x. get_or new x None) same ∙ removed_here removes in absurd (cc)
              | inr differs ↦
                  let moved : held_of (get_or old k None) ≡ held_of (Some p) = sym (removed_held removes k differs) ∙ ap held_of there in
                  let was = option_map-some (λ (q : Place). record { owner = q.owner; tile = q.tile }) (get_or old k None) (record { owner = p.owner; tile = p.tile }) moved in
                  Contains-without gone k is.keys (is.all k was.0 was.1 (ap (λ h. h.owner) was.2 ∙ owned_by)) differs
            ];
      }
