-- Chains of places: what a change of links, tiles or owners leaves of them.
use Rattle.std.proofs.Common.{◌≡◌, ◌≢◌, ℕ, true, false, List, [], ◌∷◌, get_or, Option, Some, None, refl, sym, ap, ◌∙◌, ◌⊎◌, inl, inr, arith, Contains}
use Rattle.mls_tilepool.proofs.Common.{option_map, eq-eqb, eqb-true, ne_eqb, false≢true, Contains-cons, Contains-cons_cases, IsChain, links_to, Place}

-- a place without its tile
abbrev pub links_of : Place → ℕ × Option ℕ × Option ℕ
links_of place = (place.owner, place.previous, place.next)

pub Contains-head : (key : ℕ) (rest : List ℕ) → Contains (key ∷ rest) key
Contains-head key rest = (0, omega arith, refl)

pub option_map-some : {X Y : Type 0} (f : X → Y) (o : Option X) (y : Y) → option_map f o ≡ Some y → (x : X) × (o ≡ Some x) × (f x ≡ y)
option_map-some f None y found = cc
option_map-some f (Some x) y found = (x, refl, cc)

-- a link leads to no other key than its own
pub links_to-same : (link : Option ℕ) (key : ℕ) → link ≡ Some key → links_to link key ≡ true
links_to-same link key same = ap (λ l. links_to l key) same ∙ eq-eqb key key refl

pub links_to-other : (link : Option ℕ) (own key : ℕ) → link ≡ Some own → own ≢ key → links_to link key ≡ false
links_to-other link own key same differs = ap (λ l. links_to l key) same ∙ ne_eqb own key differs

pub links_to-true : (link : Option ℕ) (key : ℕ) → links_to link key ≡ true → link ≡ Some key
links_to-true None key leads = absurd (false≢true leads)
links_to-true (Some own) key leads = ap Some (eqb-true own key leads)

-- a chain stays where the places under its keys keep their owners and links
pub IsChain-same :
    (old new : List (Option Place)) (owner : ℕ) (previous link : Option ℕ) (keys : List ℕ)
    → ((key : ℕ) → Contains keys key → option_map links_of (get_or new key None) ≡ option_map links_of (get_or old key None))
    → IsChain old owner previous link keys → IsChain new owner previous link keys
IsChain-same old new owner previous link [] same chain = chain
IsChain-same old new owner previous link (key ∷ rest) same chain =
    let place = chain.2 in
    let moved = same key (Contains-head key rest) ∙ ap (option_map links_of) chain.3 in
    let found = option_map-some links_of (get_or new key None) (links_of place) moved in
    let there = found.0 in
    let owners : there.owner ≡ place.owner = ap (λ l. l.0) found.2 in
    let before : there.previous ≡ place.previous = ap (λ l. l.1) found.2 in
    let after : there.next ≡ place.next = ap (λ l. l.2) found.2 in
    let later = IsChain-same old new owner (Some key) place.next rest (λ k inside. same k (Contains-cons key k rest inside)) chain.6 in
    (chain.0, chain.1, there, found.1, owners ∙ chain.4, before ∙ chain.5, rw after later)

-- each key of a chain names a place of its owner's, whose links lead to keys of the chain
pub IsChain-owner :
    (places : List (Option Place)) (owner : ℕ) (previous link : Option ℕ) (keys : List ℕ) (key : ℕ)
    → IsChain places owner previous link keys → Contains keys key
    → (place : Place) × (get_or places key None ≡ Some place) × (place.owner ≡ owner)
IsChain-owner places owner previous link [] key chain inside = absurd (omega (arith, inside.1))
IsChain-owner places owner previous link (own ∷ rest) key chain inside =
    elim (Contains-cons_cases own key rest inside) [
      | inl same ↦ (chain.2, ap (λ k. get_or places k None) (sym same) ∙ chain.3, chain.4)
      | inr later ↦ IsChain-owner places owner (Some own) chain.2.next rest key chain.6 later
    ]

-- where the links lead, a key of the chain is
pub IsChain-head :
    (places : List (Option Place)) (owner : ℕ) (previous link : Option ℕ) (keys : List ℕ) (key : ℕ)
    → IsChain places owner previous link keys → link ≡ Some key → Contains keys key
IsChain-head places owner previous link [] key chain leads = let none : link ≡ None = chain in cc
IsChain-head places owner previous link (own ∷ rest) key chain leads =
    let named = chain.0 in
    let same : own ≡ key = cc in
    (0, omega arith, same)

pub IsChain-next :
    (places : List (Option Place)) (owner : ℕ) (previous link : Option ℕ) (keys : List ℕ) (key next : ℕ) (place : Place)
    → IsChain places owner previous link keys → Contains keys key → get_or places key None ≡ Some place → place.next ≡ Some next → Contains keys next
IsChain-next places owner previous link [] key next place chain inside found leads = absurd (omega (arith, inside.1))
IsChain-next places owner previous link (own ∷ rest) key next place chain inside found leads =
    elim (Contains-cons_cases own key rest inside) [
      | inl same ↦
          let found' = ap (λ k. get_or places k None) same ∙ found in
          let there = chain.3 in
          let both : chain.2 ≡ place = cc in
          Contains-cons own next rest (IsChain-head places owner (Some own) chain.2.next rest next chain.6 (ap (λ p. p.next) both ∙ leads))
      | inr later ↦ Contains-cons own next rest (IsChain-next places owner (Some own) chain.2.next rest key next place chain.6 later found leads)
    ]

pub IsChain-previous :
    (places : List (Option Place)) (owner : ℕ) (previous link : Option ℕ) (keys : List ℕ) (key : ℕ) (place : Place)
    → IsChain places owner previous link keys → Contains keys key → get_or places key None ≡ Some place
    → (place.previous ≡ previous) ⊎ ((before : ℕ) × Contains keys before × (place.previous ≡ Some before))
IsChain-previous places owner previous link [] key place chain inside found = absurd (omega (arith, inside.1))
IsChain-previous places owner previous link (own ∷ rest) key place chain inside found =
    elim (Contains-cons_cases own key rest inside) [
      | inl same ↦
          let found' = ap (λ k. get_or places k None) same ∙ found in
          let there = chain.3 in
          let both : chain.2 ≡ place = cc in
          inl (ap (λ p. p.previous) (sym both) ∙ chain.5)
      | inr later ↦
          elim (IsChain-previous places owner (Some own) chain.2.next rest key place chain.6 later found) [
            | inl first ↦ inr (own, Contains-head own rest, first)
            | inr inner ↦ inr (inner.0, Contains-cons own inner.0 rest inner.1, inner.2)
          ]
    ]
