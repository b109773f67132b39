-- The open sessions in a list, and their seats: one of them, that of an id, and what the list is where one is replaced or removed.
use Rattle.std.proofs.Common.{◌≡◌, ◌≢◌, ℕ, zero, suc, ◌+◌, ◌<◌, ◌≤◌, ◌==◌, Bool, true, false, not, cond, filter, List, [], ◌∷◌, length, map, get_or, nat_lt, slice_get, position, Some, None, All, AllPairs, inl, inr, refl, sym, ap, subst, subst₂, ◌∙◌, arith}
use Rattle.std.specs.List.{position_or_len, remove}
use Rattle.std.specs.Option.{option_map, unwrap_or}
use Rattle.std.proofs.lemmas.Bool.{cases_lt, eq-eqb, eqb-true, ne_eqb}
use Rattle.std.proofs.lemmas.Bool.Decides.{nat_tests}
use Rattle.std.proofs.lemmas.List.{length-map}
use Rattle.std.proofs.lemmas.List.Edits.{get_or-remove_above, get_or-remove_below, length-remove}
use Rattle.std.proofs.lemmas.List.Sums.{fails_before_first, passes_at_first}
use Rattle.std.proofs.lemmas.Simd.{map-map}
use Rattle.indexmap.specs.Layout.{length-set_value_at, set_value_at}
use Rattle.mls_session.specs.Sessions.{kept_of, owners_of}
use Rattle.mls_tilepool.specs.Pools.{Pool}
use Rattle.mls_server.specs.Servers.{owners_in, place_in, seat_for}
use Rattle.mls_server.specs.declared.server.OpenSession.{OpenSession}
use Rattle.mls_server.specs.Worlds.{Seat, keeping, seat_in}

-- a session's name, and the session with its id
abbrev pub Entry : Type 0
Entry = List ℕ × OpenSession

-- all entries but that under an index
abbrev pub AllBut : (Entry → Type 0) → List Entry → ℕ → Type 0
AllBut P entries i = (k : ℕ) (d : Entry) → k < length entries → k ≢ i → P (get_or entries k d)

-- the session under an index
abbrev pub IsAt : List Entry → ℕ → OpenSession → Type 0
IsAt [] i member = ⊥
IsAt (entry ∷ entries) zero member = entry.1 ≡ member
IsAt (entry ∷ entries) (suc i) member = IsAt entries i member

pub IsAt-values : (entries : List Entry) (i : ℕ) (member : OpenSession) → slice_get (map (λ entry. entry.1) entries) i ≡ Some member → IsAt entries i member
IsAt-values [] i member found = absurd cc
IsAt-values (entry ∷ entries) zero member found = ap (λ value. unwrap_or value member) found
IsAt-values (entry ∷ entries) (suc i) member found = IsAt-values entries i member found

pub at-within : (entries : List Entry) (i : ℕ) (member : OpenSession) → IsAt entries i member → i < length entries
at-within [] i member at = absurd at
at-within (entry ∷ entries) zero member at = omega arith
at-within (entry ∷ entries) (suc i) member at = let rest = at-within entries i member at in omega (arith, rest)

pub at-get_or : (entries : List Entry) (i : ℕ) (member : OpenSession) (d : Entry) → IsAt entries i member → (get_or entries i d).1 ≡ member
at-get_or [] i member d at = absurd at
at-get_or (entry ∷ entries) zero member d at = at
at-get_or (entry ∷ entries) (suc i) member d at = at-get_or entries i member d at

pub All-at :
    (P : OpenSession → Type 0) (entries : List Entry) (i : ℕ) (member : OpenSession) → All (λ entry. P entry.1) entries → IsAt entries i member → P member
All-at P entries i member all at = subst P (at-get_or entries i member ([], member) at) (all i ([], member) (at-within entries i member at))

but-tail : (P : Entry → Type 0) (entry : Entry) (entries : List Entry) (i : ℕ) → AllBut P (entry ∷ entries) (suc i) → AllBut P entries i
but-tail P entry entries i all k d within differ = all (suc k) d (omega (arith, within)) (omega (arith, differ))

but-rest : (P : Entry → Type 0) (entry : Entry) (entries : List Entry) → AllBut P (entry ∷ entries) 0 → All P entries
but-rest P entry entries all k d within = all (suc k) d (omega (arith, within)) (omega arith)

-- functions that agree on each element agree on the list
pub map_same : {X Y : Type 0} (f g : X → Y) (xs : List X) → All (λ x. f x ≡ g x) xs → map f xs ≡ map g xs
map_same f g [] same = refl
map_same f g (x ∷ xs) same =
    ap (λ y. y ∷ map f xs) (same 0 x (omega arith)) ∙ ap (λ ys. g x ∷ ys) (map_same f g xs (λ k d within. same (suc k) d (omega (arith, within))))

-- ---- one value of a list of entries is replaced
module _ (P : Entry → Type 0) (after : OpenSession) where
  pub All-replaced : (entries : List Entry) (i : ℕ) → AllBut P entries i → ((name : List ℕ) → P (name, after)) → All P (set_value_at entries i after)
  All-replaced [] i others here k d within = absurd (omega (arith, within))
  All-replaced (entry ∷ entries) zero others here zero d within = here entry.0
  All-replaced (entry ∷ entries) zero others here (suc k) d within = but-rest P entry entries others k d (omega (arith, within))
  All-replaced (entry ∷ entries) (suc i) others here zero d within = others 0 d (omega arith) (omega arith)
  All-replaced (entry ∷ entries) (suc i) others here (suc k) d within =
      All-replaced entries i (but-tail P entry entries i others) here k d (omega (arith, within))

module _ {X : Type 0} (part : Entry → X) (before after : OpenSession) (same : (name : List ℕ) → part (name, after) ≡ part (name, before)) where
  -- what it has of the entries where the value is no other in this
  pub part-replaced : (entries : List Entry) (i k : ℕ) (d : Entry) → IsAt entries i before → part (get_or (set_value_at entries i after) k d) ≡ part (get_or entries k d)
  part-replaced [] i k d at = absurd at
  part-replaced (entry ∷ entries) zero zero d at = same entry.0 ∙ ap (λ member. part (entry.0, member)) (sym at)
  part-replaced (entry ∷ entries) zero (suc k) d at = refl
  part-replaced (entry ∷ entries) (suc i) zero d at = refl
  part-replaced (entry ∷ entries) (suc i) (suc k) d at = part-replaced entries i k d at

  pub AllPairs-replaced :
      (R : X → X → Type 0) (entries : List Entry) (i : ℕ) → IsAt entries i before → AllPairs (λ a b. R (part a) (part b)) entries
      → AllPairs (λ a b. R (part a) (part b)) (set_value_at entries i after)
  AllPairs-replaced R entries i at pairs a b d less within =
      subst₂ R (sym (part-replaced entries i a d at)) (sym (part-replaced entries i b d at))
      (pairs a b d less (subst (λ (count : ℕ). b < count) (length-set_value_at entries i after) within))

module _ {X : Type 0} (f g : Entry → X) (before after : OpenSession) (here : (name : List ℕ) → f (name, after) ≡ g (name, before)) where
  pub map-replaced :
      (entries : List Entry) (i : ℕ) → IsAt entries i before → AllBut (λ entry. f entry ≡ g entry) entries i → map f (set_value_at entries i after) ≡ map g entries
  map-replaced [] i at others = absurd at
  map-replaced (entry ∷ entries) zero at others =
      ap (λ x. x ∷ map f entries) (here entry.0 ∙ ap (λ (member : OpenSession). g (entry.0, member)) (sym at))
      ∙ ap (λ xs. g entry ∷ xs) (map_same f g entries (but-rest (λ entry. f entry ≡ g entry) entry entries others))
  map-replaced (entry ∷ entries) (suc i) at others =
      ap (λ x. x ∷ map f (set_value_at entries i after)) (others 0 entry (omega arith) (omega arith))
      ∙ ap (λ xs. g entry ∷ xs) (map-replaced entries i at (but-tail (λ entry. f entry ≡ g entry) entry entries i others))

pub same-replaced : (entries : List Entry) (i : ℕ) (before after : OpenSession) → IsAt entries i before → after ≡ before → set_value_at entries i after ≡ entries
same-replaced [] i before after at same = absurd at
same-replaced (entry ∷ entries) zero before after at same = ap (λ member. (entry.0, member) ∷ entries) (same ∙ sym at)
same-replaced (entry ∷ entries) (suc i) before after at same = ap (λ rest. entry ∷ rest) (same-replaced entries i before after at same)

-- ---- one of them is removed
-- what holds of all entries but one holds where that one is removed
pub All-removed : (P : Entry → Type 0) (entries : List Entry) (i : ℕ) → i < length entries → AllBut P entries i → All P (remove entries i)
All-removed P entries i within others k d below =
    let shorter = length-remove entries i within in
    elim (cases_lt k i) [
      | inl less ↦ subst P (sym (get_or-remove_below entries i d k less within)) (others k d (omega (arith, below, shorter)) (omega (arith, less)))
      | inr more ↦ subst P (sym (get_or-remove_above entries i d k more within)) (others (k + 1) d (omega (arith, below, shorter)) (omega (arith, more)))
    ]

-- ---- the entry of an id
abbrev pub HasOtherId : ℕ → Entry → Type 0
HasOtherId id entry = entry.1.id ≢ id

-- the place is the same among the sessions alone
pub place-values : (entries : List Entry) (id : ℕ) → position_or_len (λ member. member.id == id) (map (λ entry. entry.1) entries) ≡ place_in entries id
place-values [] id = refl
place-values (entry ∷ entries) id = ap (λ n. cond (not (entry.1.id == id)) (1 + n) 0) (place-values entries id)

pub found-id : (entries : List Entry) (id : ℕ) (member : OpenSession) → IsAt entries (place_in entries id) member → member.id ≡ id
found-id entries id member at =
    let d : Entry = ([], member) in
    sym (ap (λ (found : OpenSession). found.id) (at-get_or entries _ member d at))
    ∙ eqb-true _ id (passes_at_first (λ entry. entry.1.id == id) entries d (at-within entries _ member at))

pub missing-id : (entries : List Entry) (id : ℕ) → length entries ≤ place_in entries id → All (HasOtherId id) entries
missing-id entries id past k d within same =
    let fails = fails_before_first (λ entry. entry.1.id == id) entries k d (omega (arith, within, past)) in
    let passes = eq-eqb (get_or entries k d).1.id id same in
    absurd cc

-- ids rise, so no other has it
pub others-differ :
    (entries : List Entry) (i id : ℕ) (member : OpenSession) → AllPairs (λ a b. a.1.id < b.1.id) entries → IsAt entries i member → member.id ≡ id
    → AllBut (HasOtherId id) entries i
others-differ entries i id member rising at is k d within differ same =
    let here : (get_or entries i d).1.id ≡ id = ap (λ (found : OpenSession). found.id) (at-get_or entries i member d at) ∙ is in
    elim (cases_lt k i) [
      | inl less ↦ let rises = rising k i d less (at-within entries i member at) in omega (arith, rises, here, same)
      | inr more ↦ let rises = rising i k d (omega (arith, more, differ)) within in omega (arith, rises, here, same)
    ]

module _ (id : ℕ) (pool : Pool) where
  pub seat_in-at :
      (entries : List Entry) (i : ℕ) (member : OpenSession) → IsAt entries i member → member.id ≡ id → AllBut (HasOtherId id) entries i
      → option_map (λ seat. seat.kept) (seat_in (map (seat_for pool) entries) id) ≡ Some (kept_of pool member.session)
  seat_in-at [] i member at is others = absurd at
  seat_in-at (entry ∷ entries) zero member at is others =
      rw (eq-eqb entry.1.id id (ap (λ (found : OpenSession). found.id) at ∙ is)) (ap (λ (found : OpenSession). Some (kept_of pool found.session)) at)
  seat_in-at (entry ∷ entries) (suc i) member at is others =
      rw (ne_eqb entry.1.id id (others 0 entry (omega arith) (omega arith))) (seat_in-at entries i member at is (but-tail (HasOtherId id) entry entries i others))

  pub owners_in-at :
      (entries : List Entry) (i : ℕ) (member : OpenSession) → IsAt entries i member → member.id ≡ id → AllBut (HasOtherId id) entries i
      → owners_in entries id ≡ owners_of member.session
  owners_in-at [] i member at is others = absurd at
  owners_in-at (entry ∷ entries) zero member at is others =
      rw (eq-eqb entry.1.id id (ap (λ (found : OpenSession). found.id) at ∙ is)) (ap (λ (found : OpenSession). owners_of found.session) at)
  owners_in-at (entry ∷ entries) (suc i) member at is others =
      rw (ne_eqb entry.1.id id (others 0 entry (omega arith) (omega arith))) (owners_in-at entries i member at is (but-tail (HasOtherId id) entry entries i others))

  pub seat_in-none : (entries : List Entry) → All (HasOtherId id) entries → seat_in (map (seat_for pool) entries) id ≡ None
  seat_in-none [] others = refl
  seat_in-none (entry ∷ entries) others =
      rw (ne_eqb entry.1.id id (others 0 entry (omega arith))) (seat_in-none entries (λ k d within. others (suc k) d (omega (arith, within))))

-- ---- seats
-- it has another id, and the seat that it had
abbrev pub StaysApart : ℕ → Pool → Pool → Entry → Type 0
StaysApart id old new entry = (entry.1.id ≢ id) × (seat_for new entry ≡ seat_for old entry)

module _ (id : ℕ) (old new : Pool) (entries : List Entry) (i : ℕ) (before : OpenSession) (at : IsAt entries i before) (is : before.id ≡ id)
    (others : AllBut (StaysApart id old new) entries i) where
  -- one is replaced
  pub seats-replaced :
      (after : OpenSession) → after.id ≡ before.id
      → map (seat_for new) (set_value_at entries i after) ≡ map (keeping id (kept_of new after.session)) (map (seat_for old) entries)
  seats-replaced after same =
      map-replaced (seat_for new) (λ entry. keeping id (kept_of new after.session) (seat_for old entry)) before after here entries i at
      (λ k d within differ. there (get_or entries k d) (others k d within differ))
      ∙ sym (map-map (keeping id (kept_of new after.session)) (seat_for old) entries)
    where
      here : (name : List ℕ) → seat_for new (name, after) ≡ keeping id (kept_of new after.session) (seat_for old (name, before))
      here name = rw (eq-eqb before.id id is) (ap (λ (number : ℕ). record { id = number; name = name; kept = kept_of new after.session }) same)

      there : (entry : Entry) → StaysApart id old new entry → seat_for new entry ≡ keeping id (kept_of new after.session) (seat_for old entry)
      there entry stays = rw (ne_eqb entry.1.id id stays.0) stays.1

  -- one is removed
  abbrev others_in : List Entry → List Seat
  others_in list = filter (λ seat. not (seat.id == id)) (map (seat_for old) list)

  all_others : (list : List Entry) → All (HasOtherId id) list → map (seat_for old) list ≡ others_in list
  all_others [] differ = refl
  all_others (entry ∷ list) differ =
      rw (ne_eqb entry.1.id id (differ 0 entry (omega arith)))
      (ap (λ (seats : List Seat). seat_for old entry ∷ seats) (all_others list (λ k d within. differ (suc k) d (omega (arith, within)))))

  others_left : (list : List Entry) (n : ℕ) → IsAt list n before → AllBut (HasOtherId id) list n → map (seat_for old) (remove list n) ≡ others_in list
  others_left [] n here differ = absurd here
  others_left (entry ∷ list) zero here differ =
      rw (eq-eqb entry.1.id id (ap (λ (found : OpenSession). found.id) here ∙ is)) (all_others list (but-rest (HasOtherId id) entry list differ))
  others_left (entry ∷ list) (suc n) here differ =
      rw (ne_eqb entry.1.id id (differ 0 entry (omega arith) (omega arith)))
      (ap (λ (seats : List Seat). seat_for old entry ∷ seats) (others_left list n here (but-tail (HasOtherId id) entry list n differ)))

  pub seats-removed : map (seat_for new) (remove entries i) ≡ others_in entries
  seats-removed =
      map_same (seat_for new) (seat_for old) (remove entries i)
      (All-removed (λ entry. seat_for new entry ≡ seat_for old entry) entries i (at-within entries i before at) (λ k d within differ. (others k d within differ).1))
      ∙ others_left entries i at (λ k d within differ. (others k d within differ).0)

-- ---- where a scan of the sessions ends
scan-found : (within : Bool) (n place : ℕ) → cond within (Some n) None ≡ Some place → (within ≡ true) × (n ≡ place)
scan-found true n place found = (refl, ap (λ end. unwrap_or end n) found)
scan-found false n place found = absurd cc

scan-missing : (within : Bool) (n : ℕ) → cond within (Some n) None ≡ None → within ≡ false
scan-missing true n none = absurd cc
scan-missing false n none = refl

module _ (entries : List Entry) (id : ℕ) where
  abbrev members : List OpenSession
  members = map (λ entry. entry.1) entries

  abbrev first : ℕ
  first = position_or_len (λ member. member.id == id) members

  pub place-found : (place : ℕ) → position (λ member. member.id == id) members ≡ Some place → (place ≡ place_in entries id) × (place < length entries)
  place-found place found =
      let (passes, is) = scan-found (nat_lt first (length members)) first place found in
      let below : first < length members = grind (arith, nat_tests) in
      (sym is ∙ place-values entries id, omega (arith, below, is, length-map entries (λ entry. entry.1)))

  pub place-missing : position (λ member. member.id == id) members ≡ None → All (HasOtherId id) entries
  place-missing none =
      let fails : nat_lt first (length members) ≡ false = scan-missing (nat_lt first (length members)) first none in
      let past : length members ≤ first = grind (arith, nat_tests) in
      missing-id entries id (subst₂ (λ (count place : ℕ). count ≤ place) (length-map entries (λ entry. entry.1)) (place-values entries id) past)
