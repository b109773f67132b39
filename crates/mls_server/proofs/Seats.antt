-- What changes of a world's open sessions leave: each session's own record, and how they are numbered.
use Rattle.std.proofs.Common.{◌≡◌, ◌≢◌, ℕ, ◌+◌, ◌<◌, ◌≤◌, ◌==◌, ◌++◌, Bool, true, false, not, cond, inl, inr, map, filter, get_or, All, Option, Some, None, List, [], ◌∷◌, refl, sym, ap, ◌∙◌, subst, subst₂, arith}
use Rattle.std.specs.Option.{option_map}
use Rattle.std.proofs.lemmas.Bool.{cases_eq, eq-eqb, ne_eqb}
use Rattle.std.proofs.lemmas.List.Elements.{All-filter, All-head, All-map, All-push, All-tail, All-weaker}
use Rattle.std.proofs.lemmas.List.Kept.{AllPairs-filter}
use Rattle.std.proofs.lemmas.List.Quantifiers.{all_pairs_push}
use Rattle.mls_geom.proofs.Ascending.{AllPairs-map}
use Rattle.mls_session.specs.Journals.{Kept, kept_at_opening}
use Rattle.mls_server.specs.Worlds.{IsNumbered, Seat, World, keeping, kept_in, seat_in, with_kept, with_session, without_session}

-- what the session of this id keeps, if it is among the seats: the first that has the id
abbrev kept_at : List Seat → ℕ → Option Kept
kept_at seats id = option_map (λ seat. seat.kept) (seat_in seats id)

kept_at-here : (seat : Seat) (seats : List Seat) (id : ℕ) → seat.id ≡ id → kept_at (seat ∷ seats) id ≡ Some seat.kept
kept_at-here seat seats id is = rw (eq-eqb seat.id id is) refl

kept_at-past : (seat : Seat) (seats : List Seat) (id : ℕ) → seat.id ≢ id → kept_at (seat ∷ seats) id ≡ kept_at seats id
kept_at-past seat seats id differ = rw (ne_eqb seat.id id differ) refl

-- it is the same of two lists whose first seats have one id, and the same where it is this
kept_at-each :
    (a b : Seat) (left right : List Seat) (id : ℕ) → a.id ≡ b.id → (b.id ≡ id → a.kept ≡ b.kept) → kept_at left id ≡ kept_at right id
    → kept_at (a ∷ left) id ≡ kept_at (b ∷ right) id
kept_at-each a b left right id same kept rest = elim (cases_eq b.id id) [
  | inl is ↦ kept_at-here a left id (same ∙ is) ∙ ap Some (kept is) ∙ sym (kept_at-here b right id is)
  | inr differ ↦ kept_at-past a left id (λ is. differ (sym same ∙ is)) ∙ rest ∙ sym (kept_at-past b right id differ)
]

-- ---- a session keeps something else
-- no id changes
keeping_by : (same : Bool) (kept : Kept) (seat : Seat) → (cond same (record seat { kept = kept }) seat).id ≡ seat.id
keeping_by true kept seat = refl
keeping_by false kept seat = refl

pub keeping-id : (id : ℕ) (kept : Kept) (seat : Seat) → (keeping id kept seat).id ≡ seat.id
keeping-id id kept seat = keeping_by (seat.id == id) kept seat

module _ (id : ℕ) (kept : Kept) where
  abbrev all_keeping : List Seat → List Seat
  all_keeping seats = map (keeping id kept) seats

  keeping-here : (seat : Seat) → seat.id ≡ id → (keeping id kept seat).kept ≡ kept
  keeping-here seat is = rw (eq-eqb seat.id id is) refl

  keeping-past : (seat : Seat) → seat.id ≢ id → (keeping id kept seat).kept ≡ seat.kept
  keeping-past seat differ = rw (ne_eqb seat.id id differ) refl

  -- it keeps this, if it is open
  kept_at-keeping : (seats : List Seat) → kept_at (all_keeping seats) id ≡ option_map (λ (before : Kept). kept) (kept_at seats id)
  kept_at-keeping [] = refl
  kept_at-keeping (seat ∷ seats) = elim (cases_eq seat.id id) [
    | inl is ↦
        kept_at-here (keeping id kept seat) (all_keeping seats) id (keeping-id id kept seat ∙ is) ∙ ap Some (keeping-here seat is)
        ∙ ap (option_map (λ (before : Kept). kept)) (sym (kept_at-here seat seats id is))
    | inr differ ↦
        kept_at-past (keeping id kept seat) (all_keeping seats) id (λ is. differ (sym (keeping-id id kept seat) ∙ is)) ∙ kept_at-keeping seats
        ∙ ap (option_map (λ (before : Kept). kept)) (sym (kept_at-past seat seats id differ))
  ]

  -- and all others what they kept
  kept_at-other : (other : ℕ) → other ≢ id → (seats : List Seat) → kept_at (all_keeping seats) other ≡ kept_at seats other
  kept_at-other other apart [] = refl
  kept_at-other other apart (seat ∷ seats) =
      kept_at-each (keeping id kept seat) seat (all_keeping seats) seats other (keeping-id id kept seat) (λ is. keeping-past seat (λ here. apart (sym is ∙ here)))
      (kept_at-other other apart seats)

module _ (on : World) (id : ℕ) (kept : Kept) where
  -- it keeps this
  pub with_kept-same : (before : Kept) → kept_in on id ≡ Some before → kept_in (with_kept on id kept) id ≡ Some kept
  with_kept-same before is = kept_at-keeping id kept on.seats ∙ ap (option_map (λ (before : Kept). kept)) is

  -- if it is open
  pub with_kept-none : kept_in on id ≡ None → kept_in (with_kept on id kept) id ≡ None
  with_kept-none none = kept_at-keeping id kept on.seats ∙ ap (option_map (λ (before : Kept). kept)) none

  -- and all others what they kept
  pub with_kept-other : (other : ℕ) → other ≢ id → kept_in (with_kept on id kept) other ≡ kept_in on other
  with_kept-other other apart = kept_at-other id kept other apart on.seats

  pub with_kept-numbered : IsNumbered on → IsNumbered (with_kept on id kept)
  with_kept-numbered numbered =
      record {
        rising = AllPairs-map (λ (a b : Seat). a.id < b.id) (keeping id kept) on.seats
            (λ i j d before within.
            subst₂ (λ (a b : ℕ). a < b) (sym (keeping-id id kept (get_or on.seats i d))) (sym (keeping-id id kept (get_or on.seats j d)))
            (numbered.rising i j d before within));
        given = All-map (λ (seat : Seat). (1 ≤ seat.id) × (seat.id ≤ on.given)) (keeping id kept) on.seats
            (All-weaker (λ (seat : Seat). (1 ≤ seat.id) × (seat.id ≤ on.given)) _
            (λ seat given. subst (λ (number : ℕ). (1 ≤ number) × (number ≤ on.given)) (sym (keeping-id id kept seat)) given) on.seats numbered.given);
      }

-- ---- a session is closed
module _ (id : ℕ) where
  abbrev others_in : List Seat → List Seat
  others_in seats = filter (λ seat. not (seat.id == id)) seats

  closed_here : (seat : Seat) (seats : List Seat) → seat.id ≡ id → others_in (seat ∷ seats) ≡ others_in seats
  closed_here seat seats is = rw (eq-eqb seat.id id is) refl

  left_open : (seat : Seat) (seats : List Seat) → seat.id ≢ id → others_in (seat ∷ seats) ≡ seat ∷ others_in seats
  left_open seat seats differ = rw (ne_eqb seat.id id differ) refl

  kept_at-closed : (seats : List Seat) → kept_at (others_in seats) id ≡ None
  kept_at-closed [] = refl
  kept_at-closed (seat ∷ seats) = elim (cases_eq seat.id id) [
    | inl is ↦ ap (λ (list : List Seat). kept_at list id) (closed_here seat seats is) ∙ kept_at-closed seats
    | inr differ ↦
        ap (λ (list : List Seat). kept_at list id) (left_open seat seats differ) ∙ kept_at-past seat (others_in seats) id differ ∙ kept_at-closed seats
  ]

  kept_at-left : (other : ℕ) → other ≢ id → (seats : List Seat) → kept_at (others_in seats) other ≡ kept_at seats other
  kept_at-left other apart [] = refl
  kept_at-left other apart (seat ∷ seats) = elim (cases_eq seat.id id) [
    | inl here ↦
        ap (λ (list : List Seat). kept_at list other) (closed_here seat seats here) ∙ kept_at-left other apart seats
        ∙ sym (kept_at-past seat seats other (λ is. apart (sym is ∙ here)))
    | inr differ ↦
        ap (λ (list : List Seat). kept_at list other) (left_open seat seats differ)
        ∙ kept_at-each seat seat (others_in seats) seats other refl (λ is. refl) (kept_at-left other apart seats)
  ]

module _ (on : World) (id : ℕ) where
  pub without_session-same : kept_in (without_session on id) id ≡ None
  without_session-same = kept_at-closed id on.seats

  pub without_session-other : (other : ℕ) → other ≢ id → kept_in (without_session on id) other ≡ kept_in on other
  without_session-other other apart = kept_at-left id other apart on.seats

  pub without_session-numbered : IsNumbered on → IsNumbered (without_session on id)
  without_session-numbered numbered = record {
    rising = AllPairs-filter (λ (a b : Seat). a.id < b.id) (λ seat. not (seat.id == id)) on.seats numbered.rising;
    given = All-filter (λ seat. not (seat.id == id)) (λ (seat : Seat). (1 ≤ seat.id) × (seat.id ≤ on.given)) on.seats numbered.given;
  }

-- ---- a session is opened
-- no id is open that wasn't given
kept_at-none : (given : ℕ) (seats : List Seat) (id : ℕ) → All (λ seat. (1 ≤ seat.id) × (seat.id ≤ given)) seats → given < id → kept_at seats id ≡ None
kept_at-none given [] id within beyond = refl
kept_at-none given (seat ∷ seats) id within beyond =
    let here : (1 ≤ seat.id) × (seat.id ≤ given) = All-head (λ (each : Seat). (1 ≤ each.id) × (each.id ≤ given)) seat seats within in
    let no : seat.id ≢ id = omega arith in
    rw (ne_eqb seat.id id no) (kept_at-none given seats id (All-tail (λ (each : Seat). (1 ≤ each.id) × (each.id ≤ given)) seat seats within) beyond)

pub not_open-beyond : (on : World) (id : ℕ) → IsNumbered on → on.given < id → kept_in on id ≡ None
not_open-beyond on id numbered beyond = kept_at-none on.given on.seats id numbered.given beyond

-- a seat at the end is found where no other is
kept_at-last : (seats : List Seat) (last : Seat) (id : ℕ) → kept_at seats id ≡ None → kept_at (seats ++ last ∷ []) id ≡ kept_at (last ∷ []) id
kept_at-last [] last id none = refl
kept_at-last (seat ∷ seats) last id none = elim (cases_eq seat.id id) [
  | inl is ↦ let never = sym (kept_at-here seat seats id is) ∙ none in absurd cc
  | inr differ ↦ kept_at-past seat (seats ++ last ∷ []) id differ ∙ kept_at-last seats last id (sym (kept_at-past seat seats id differ) ∙ none)
]

kept_at-first : (seats : List Seat) (last : Seat) (id : ℕ) → last.id ≢ id → kept_at (seats ++ last ∷ []) id ≡ kept_at seats id
kept_at-first [] last id apart = kept_at-past last [] id apart
kept_at-first (seat ∷ seats) last id apart = kept_at-each seat seat (seats ++ last ∷ []) seats id refl (λ is. refl) (kept_at-first seats last id apart)

module _ (on : World) (name : List ℕ) where
  pub with_session-same : IsNumbered on → kept_in (with_session on name) (on.given + 1) ≡ Some (kept_at_opening on.setting.rules)
  with_session-same numbered =
      let beyond : on.given < on.given + 1 = omega arith in
      kept_at-last on.seats _ (on.given + 1) (not_open-beyond on (on.given + 1) numbered beyond) ∙ rw (eq-eqb (on.given + 1) (on.given + 1) refl) refl

  pub with_session-other : (other : ℕ) → other ≢ on.given + 1 → kept_in (with_session on name) other ≡ kept_in on other
  with_session-other other apart = kept_at-first on.seats _ other (λ same. apart (sym same))

  pub with_session-numbered : IsNumbered on → IsNumbered (with_session on name)
  with_session-numbered numbered =
      let last : Seat = record { id = on.given + 1; name = name; kept = kept_at_opening on.setting.rules } in
      record {
        rising = all_pairs_push (λ (a b : Seat). a.id < b.id) on.seats last numbered.rising
            (λ k d within. let below : (1 ≤ (get_or on.seats k d).id) × ((get_or on.seats k d).id ≤ on.given) = numbered.given k d within in omega arith);
        given = All-push (λ (seat : Seat). (1 ≤ seat.id) × (seat.id ≤ on.given + 1)) on.seats last
            (All-weaker (λ (seat : Seat). (1 ≤ seat.id) × (seat.id ≤ on.given)) (λ (seat : Seat). (1 ≤ seat.id) × (seat.id ≤ on.given + 1)) (λ seat given. (given.0, omega (arith, given.1))) on.seats numbered.given)
            (omega arith, omega arith);
      }
