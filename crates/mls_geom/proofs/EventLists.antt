-- Events in order.
use Rattle.mls_geom.proofs.Common.{◌≡◌, ◌==◌, ◌&&◌, ◌||◌, nat_lt, Bool, true, ℕ, zero, suc, ◌+◌, ◌<◌, ◌≤◌, List, [], ◌∷◌, ◌++◌, get_or, length, refl, sym, arith, inl, inr, add-one, All, AllPairs, Contains, IsAllAdjacentAnswer, IsPermutation, cases_lt, nat_tests, map_push, All-push, Contains-append_left, Contains-push, All-permutation, Contains-permutation, IsPermutation-map, slice_get_read}
use Rattle.mls_geom.proofs.Definitions.{HasPiece, AreEvents, IsBefore, Event, Piece}
use Rattle.mls_geom.specs.Sweep.Events.{pieces_of}
use Rattle.mls_geom.proofs.ListLemmas.{within-from_IsSomeAnd}

-- an event that stands before another stands before those after it
IsBefore-trans : (a b c : Event) → IsBefore a b → IsBefore b c → IsBefore a c
IsBefore-trans a b c first second = elim first [
  | inl lower ↦ elim second [
    | inl lower' ↦ inl (omega arith)
    | inr same ↦ inl (omega (arith, same.0))
  ]
  | inr same ↦ elim second [
    | inl lower' ↦ inl (omega (arith, same.0))
    | inr same' ↦ inr (omega (arith, same.0, same'.0), omega (arith, same.1, same'.1))
  ]
]

-- where each stands before the next, it stands before all later ones
before_later :
    (events : List Event) (d : Event) → ((k : ℕ) → k + 1 < length events → IsBefore (get_or events k d) (get_or events (k + 1) d)) → (i j : ℕ) → i < j
    → j < length events → IsBefore (get_or events i d) (get_or events j d)
before_later events d next i zero before within = absurd (omega arith)
before_later events d next i (suc j) before within =
    let last : IsBefore (get_or events j d) (get_or events (suc j) d) = rw add-one at (next j (omega arith)) in
    elim (cases_lt i j) [
      | inl earlier ↦ IsBefore-trans (get_or events i d) (get_or events j d) (get_or events (suc j) d) (before_later events d next i j earlier (omega arith)) last
      | inr not_earlier ↦ (let same : i ≡ j = omega arith in rw same last)
    ]

-- the test of two events
abbrev pub is_before : Event → Event → Bool
is_before event next = nat_lt event.line next.line || (event.line == next.line && nat_lt event.piece next.piece)

passed : (event next : Event) → is_before event next ≡ true → IsBefore event next
passed event next test = elim (cases_lt event.line next.line) [
  | inl lower ↦ inl lower
  | inr from ↦ inr (grind (arith, nat_tests), grind (arith, nat_tests))
]

-- events of which each passes it with the next are in order
pub AllPairs-before : (events : List Event) → IsAllAdjacentAnswer (λ event next b. b ≡ is_before event next) events true → AllPairs IsBefore events
AllPairs-before events next i j d before within = before_later events d (λ k inside. passed (get_or events k d) (get_or events (k + 1) d) (sym (next k d inside))) i j before within

-- events at which the first n pieces have their lines, from the line y on, in any order
pub record AreListed (line_of : Piece → ℕ) (y : ℕ) (pieces : List Piece) (n : ℕ) (events : List Event) : Type 0 where
  pub named : All (λ event. (y ≤ event.line) × HasPiece pieces (λ piece. line_of piece ≡ event.line) event.piece) events
  pub whole : (i : ℕ) → i < n → Contains (pieces_of events) i

module _ (line_of : Piece → ℕ) (y : ℕ) (pieces : List Piece) where
  -- one event more
  pub AreListed-push :
      (i line : ℕ) (piece : Piece) (events : List Event) → i < length pieces → piece ≡ get_or pieces i piece → line ≡ line_of piece → y ≤ line
      → AreListed line_of y pieces i events → AreListed line_of y pieces (i + 1) (events ++ record { line = line; piece = i } ∷ [])
  AreListed-push i line piece events within at is from so_far = record {
    named = All-push (λ event. (y ≤ event.line) × HasPiece pieces (λ piece. line_of piece ≡ event.line) event.piece) events _ so_far.named
        (from, rw (slice_get_read pieces (length pieces) i piece refl within at) (sym is));
    whole = λ k below.
        rw (map_push (λ (event : Event). event.piece) events (record { line = line; piece = i }))
        (elim (cases_lt k i) [
          | inl earlier ↦ Contains-append_left (pieces_of events) (i ∷ []) k (so_far.whole k earlier)
          | inr not_earlier ↦ (let same : i ≡ k = omega arith in rw same (Contains-push (pieces_of events) k))
        ]);
  }

  -- in order they are the events of the pieces
  pub AreEvents-sorted :
      (listed events : List Event) → AreListed line_of y pieces (length pieces) listed → IsPermutation listed events → AllPairs IsBefore events
      → AreEvents line_of y pieces events
  AreEvents-sorted listed events are moved ordered =
      let moved_pieces = IsPermutation-map (λ (event : Event). event.piece) listed events moved in
      record {
        ordered = ordered;
        named = All-permutation (λ event. (y ≤ event.line) × HasPiece pieces (λ piece. line_of piece ≡ event.line) event.piece) listed events moved are.named;
        whole = λ i at.
            Contains-permutation (pieces_of listed) (pieces_of events) i moved_pieces
            (are.whole i (within-from_IsSomeAnd pieces i (λ piece. y ≤ line_of piece) at));
      }
