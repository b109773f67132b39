-- Chains of places while a tile comes in at the head or goes out anywhere.
use Rattle.std.proofs.Common.{◌≡◌, ◌≢◌, ℕ, ◌+◌, Bool, true, false, eqb, cond, List, [], ◌∷◌, length, get_or, Option, Some, None, refl, sym, ap, ◌∙◌, inl, inr, arith, Contains}
use Rattle.mls_tilepool.proofs.Common.{option_map, cases_eq, cond-true, cond-false, eq-eqb, ne_eqb, false_from_ne_true, Contains-cons, Contains-cons_cases, IsChain, links_to, Place}
use Rattle.mls_tilepool.proofs.Chains.{Contains-head, links_of, links_to-same, links_to-other, links_to-true, IsChain-same, IsChain-next, IsChain-previous}

-- a place with another link back, or another link onward
abbrev pub with_previous : Option ℕ → Place → Place
with_previous previous place = record place { previous = previous }

abbrev pub with_next : Option ℕ → Place → Place
with_next next place = record place { next = next }

-- a slot whose place is changed so, if this link leads to its key
abbrev pub linked : (Place → Place) → Option ℕ → ℕ → Option Place → Option Place
linked change link key slot = cond (links_to link key) (option_map change slot) slot

-- a slot once the place under `gone` is empty and the places before and after it are linked with one another
abbrev pub unlinked : ℕ → Place → ℕ → Option Place → Option Place
unlinked gone place key slot =
    linked (with_previous place.previous) place.next key (linked (with_next place.next) place.previous key (cond (eqb key gone) None slot))

-- the keys but this one
abbrev pub without : ℕ → List ℕ → List ℕ
without gone [] = []
without gone (key ∷ rest) = cond (eqb key gone) rest (key ∷ without gone rest)

pub linked-true : (change : Place → Place) (link : Option ℕ) (key : ℕ) (slot : Option Place) → links_to link key ≡ true → linked change link key slot ≡ option_map change slot
linked-true change link key slot leads = cond-true (links_to link key) _ _ leads

pub linked-false : (change : Place → Place) (link : Option ℕ) (key : ℕ) (slot : Option Place) → links_to link key ≡ false → linked change link key slot ≡ slot
linked-false change link key slot leads = cond-false (links_to link key) _ _ leads

-- a chain whose head has another link back
pub IsChain-relinked :
    (old new : List (Option Place)) (owner : ℕ) (previous other link : Option ℕ) (keys : List ℕ)
    → ((key : ℕ) → Contains keys key → get_or new key None ≡ linked (with_previous other) link key (get_or old key None))
    → IsChain old owner previous link keys → IsChain new owner other link keys
IsChain-relinked old new owner previous other link [] relinks chain = chain
IsChain-relinked old new owner previous other link (key ∷ rest) relinks chain =
    let place = chain.2 in
    let here : get_or new key None ≡ Some (with_previous other place) =
    relinks key (Contains-head key rest) ∙ linked-true (with_previous other) link key (get_or old key None) (links_to-same link key chain.0)
    ∙ ap (option_map (with_previous other)) chain.3 in
    let kept : (k : ℕ) → Contains rest k → get_or new k None ≡ get_or old k None = λ k inside.
    relinks k (Contains-cons key k rest inside)
    ∙ linked-false (with_previous other) link k (get_or old k None) (links_to-other link key k chain.0 (λ same. chain.1 (rw same inside))) in (
      chain.0,
      chain.1,
      with_previous other place,
      here,
      chain.4,
      refl,
      IsChain-same old new owner (Some key) place.next rest (λ k inside. ap (option_map links_of) (kept k inside)) chain.6,
    )

pub without-later : (gone key : ℕ) (rest : List ℕ) → key ≢ gone → without gone (key ∷ rest) ≡ key ∷ without gone rest
without-later gone key rest differs = cond-false _ _ _ (ne_eqb key gone differs)

pub Contains-without : (gone key : ℕ) (keys : List ℕ) → Contains keys key → key ≢ gone → Contains (without gone keys) key
Contains-without gone key [] inside differs = absurd (omega (arith, inside.1))
Contains-without gone key (own ∷ rest) inside differs =
    elim (cases_eq own gone) [
      | inl same ↦
          elim (Contains-cons_cases own key rest inside) [
            | inl here ↦ absurd (differs (sym here ∙ same))
            | inr later ↦ rw (cond-true _ rest (own ∷ without gone rest) (eq-eqb own gone same)) later
          ]
      | inr other ↦
          elim (Contains-cons_cases own key rest inside) [
            | inl here ↦ rw (without-later gone own rest other) (0, omega arith, here)
            | inr later ↦ rw (without-later gone own rest other) (Contains-cons own key (without gone rest) (Contains-without gone key rest later differs))
          ]
    ]

pub Contains-from_without : (gone key : ℕ) (keys : List ℕ) → Contains (without gone keys) key → Contains keys key
Contains-from_without gone key [] inside = inside
Contains-from_without gone key (own ∷ rest) inside =
    elim (cases_eq own gone) [
      | inl same ↦ Contains-cons own key rest (rw (cond-true _ rest (own ∷ without gone rest) (eq-eqb own gone same)) at inside)
      | inr other ↦
          elim (Contains-cons_cases own key (without gone rest) (rw (without-later gone own rest other) at inside)) [
            | inl here ↦ (0, omega arith, here)
            | inr later ↦ Contains-cons own key rest (Contains-from_without gone key rest later)
          ]
    ]

pub length-without : (gone : ℕ) (keys : List ℕ) → Contains keys gone → length (without gone keys) + 1 ≡ length keys
length-without gone [] inside = absurd (omega (arith, inside.1))
length-without gone (own ∷ rest) inside =
    elim (cases_eq own gone) [
      | inl same ↦ rw (cond-true _ rest (own ∷ without gone rest) (eq-eqb own gone same)) (omega arith)
      | inr other ↦
          elim (Contains-cons_cases own gone rest inside) [
            | inl here ↦ absurd (other here)
            | inr later ↦ rw (without-later gone own rest other) (omega (arith, length-without gone rest later))
          ]
    ]

-- the place before the gone one is the chain's first of these exactly where the chain's link leads to the gone one
previous_leads :
    (places : List (Option Place)) (owner first : ℕ) (link : Option ℕ) (keys : List ℕ) (gone : ℕ) (place : Place)
    → IsChain places owner (Some first) link keys → ¬ Contains keys first → Contains keys gone → get_or places gone None ≡ Some place
    → links_to place.previous first ≡ links_to link gone
previous_leads places owner first link [] gone place chain apart inside found = absurd (omega (arith, inside.1))
previous_leads places owner first link (own ∷ rest) gone place chain apart inside found =
    elim (cases_eq own gone) [
      | inl same ↦
          let found' = ap (λ k. get_or places k None) same ∙ found in
          let there = chain.3 in
          let both : chain.2 ≡ place = cc in
          let back : place.previous ≡ Some first = ap (λ p. p.previous) (sym both) ∙ chain.5 in
          links_to-same place.previous first back ∙ sym (links_to-same link gone (chain.0 ∙ ap Some same))
      | inr other ↦
          elim (Contains-cons_cases own gone rest inside) [
            | inl here ↦ absurd (other here)
            | inr later ↦
                elim (IsChain-previous places owner (Some own) chain.2.next rest gone place chain.6 later found) [
                  | inl back ↦
                      links_to-other place.previous own first back (λ same. apart (0, omega arith, same)) ∙ sym (links_to-other link own gone chain.0 other)
                  | inr back ↦
                      links_to-other place.previous back.0 first back.2 (λ same. apart (Contains-cons own first rest (rw same at back.1)))
                      ∙ sym (links_to-other link own gone chain.0 other)
                ]
          ]
    ]

-- the chain's first is the gone place, so the head of the rest is linked with what was before
unlinked_first :
    (old new : List (Option Place)) (owner own : ℕ) (previous : Option ℕ) (rest : List ℕ) (place : Place)
    → ((key : ℕ) → get_or new key None ≡ unlinked own place key (get_or old key None))
    → ((key : ℕ) → Contains rest key → links_to previous key ≡ false)
    → ¬ Contains rest own → place.previous ≡ previous
    → IsChain old owner (Some own) place.next rest → IsChain new owner previous place.next rest
unlinked_first old new owner own previous rest place unlinks outside apart back chain =
    IsChain-relinked old new owner (Some own) previous place.next rest (λ k inside.
    let slot = get_or old k None in
    let kept : cond (eqb k own) None slot ≡ slot = cond-false _ None slot (ne_eqb k own (λ same. apart (rw same at inside))) in
    let front : linked (with_next place.next) place.previous k slot ≡ slot =
    linked-false (with_next place.next) place.previous k slot (ap (λ l. links_to l k) back ∙ outside k inside) in
    unlinks k
    ∙ ap (λ s. linked (with_previous place.previous) place.next k (linked (with_next place.next) place.previous k s)) kept
    ∙ ap (λ s. linked (with_previous place.previous) place.next k s) front
    ∙ ap (λ l. linked (with_previous l) place.next k slot) back) chain

-- a first place whose link onward may have changed, before a chain
chain_from :
    (places : List (Option Place)) (owner own : ℕ) (previous link next : Option ℕ) (keys : List ℕ) (place : Place) (leads : Bool)
    → get_or places own None ≡ cond leads (Some (with_next next place)) (Some place)
    → link ≡ Some own → ¬ Contains keys own → place.owner ≡ owner → place.previous ≡ previous
    → IsChain places owner (Some own) (cond leads next place.next) keys → IsChain places owner previous link (own ∷ keys)
chain_from places owner own previous link next keys place true here leads apart owners back chain =
    (leads, apart, with_next next place, here, owners, back, chain)
chain_from places owner own previous link next keys place false here leads apart owners back chain =
    (leads, apart, place, here, owners, back, chain)

-- the gone place is later, so the chain's first stays, and may be the one before it
unlinked_later :
    (old new : List (Option Place)) (owner own gone : ℕ) (link : Option ℕ) (rest : List ℕ) (place kept : Place)
    → ((key : ℕ) → get_or new key None ≡ unlinked gone place key (get_or old key None))
    → own ≢ gone → ¬ Contains rest own → Contains rest gone → get_or old gone None ≡ Some place → get_or old own None ≡ Some kept
    → IsChain old owner (Some own) link rest
    → get_or new own None ≡ cond (links_to link gone) (Some (with_next place.next kept)) (Some kept)
unlinked_later old new owner own gone link rest place kept unlinks other apart inside found here chain =
    let slot = get_or old own None in
    let stays : cond (eqb own gone) None slot ≡ Some kept = cond-false _ None slot (ne_eqb own gone other) ∙ here in
    let front : linked (with_next place.next) place.previous own (Some kept) ≡ cond (links_to link gone) (Some (with_next place.next kept)) (Some kept) =
    ap (λ b. cond b (Some (with_next place.next kept)) (Some kept)) (previous_leads old owner own link rest gone place chain apart inside found) in
    let not_next : links_to place.next own ≡ false =
    false_from_ne_true (links_to place.next own) (λ leads. apart (IsChain-next old owner (Some own) link rest gone own place chain inside found (links_to-true place.next own leads))) in
    unlinks own
    ∙ linked-false (with_previous place.previous) place.next own _ not_next
    ∙ ap (λ s. linked (with_next place.next) place.previous own s) stays
    ∙ front

-- a chain without one of its places
pub IsChain-unlinked :
    (old new : List (Option Place)) (owner : ℕ) (previous link : Option ℕ) (keys : List ℕ) (gone : ℕ) (place : Place)
    → ((key : ℕ) → get_or new key None ≡ unlinked gone place key (get_or old key None))
    → ((key : ℕ) → Contains keys key → links_to previous key ≡ false)
    → Contains keys gone → get_or old gone None ≡ Some place
    → IsChain old owner previous link keys
    → IsChain new owner previous (cond (links_to link gone) place.next link) (without gone keys)
IsChain-unlinked old new owner previous link [] gone place unlinks outside inside found chain = absurd (omega (arith, inside.1))
IsChain-unlinked old new owner previous link (own ∷ rest) gone place unlinks outside inside found chain =
    elim (cases_eq own gone) [
      | inl same ↦
          let found' = ap (λ k. get_or old k None) same ∙ found in
          let there = chain.3 in
          let both : chain.2 ≡ place = cc in
          let leads : links_to link gone ≡ true = links_to-same link gone (chain.0 ∙ ap Some same) in
          rw (cond-true (links_to link gone) place.next link leads, cond-true (eqb own gone) rest (own ∷ without gone rest) (eq-eqb own gone same))
          (unlinked_first old new owner own previous rest place
          (λ k. rw same (unlinks k))
          (λ k inner. outside k (Contains-cons own k rest inner))
          chain.1 (ap (λ p. p.previous) (sym both) ∙ chain.5)
          (rw both at chain.6))
      | inr other ↦
          elim (Contains-cons_cases own gone rest inside) [
            | inl here ↦ absurd (other here)
            | inr later ↦
                let kept = chain.2 in
                let inner = IsChain-unlinked old new owner (Some own) kept.next rest gone place unlinks
                (λ k within. ne_eqb own k (λ same. chain.1 (rw same within))) later found chain.6 in
                let here = unlinked_later old new owner own gone kept.next rest place kept unlinks other chain.1 later found chain.3 chain.6 in
                rw (cond-false (links_to link gone) place.next link (links_to-other link own gone chain.0 other), without-later gone own rest other)
                (chain_from new owner own previous link place.next (without gone rest) kept (links_to kept.next gone) here chain.0
                (λ within. chain.1 (Contains-from_without gone own rest within)) chain.4 chain.5 inner)
          ]
    ]
