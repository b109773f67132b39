-- The events that a sweep upward reaches at a line, one after another.
use Rattle.mls_geom.proofs.Common.{◌≡◌, ◌≢◌, ℕ, zero, suc, ◌+◌, ◌-◌, ◌<◌, ◌≤◌, ◌==◌, ◌&&◌, ◌||◌, not, leb, nat_le, nat_lt, Bool, true, false, List, [], ◌∷◌, Option, Some, None, get_or, length, drop, slice_get, slice_index_or, refl, sym, ap, ◌∙◌, arith, inl, inr, add-one, All, AllPairs, Contains, IsNonDecreasingBy, IsPartitionPoint, option_map_or, fun_ext, cases_Bool, cases_eq, cases_lt, eq-eqb, eqb-true, false_from_ne_true, both_ways, leb-true, leb-false, nat_tests, get_or-drop, get_or-map, get_or_default, length-drop, length-map, All-head, All-tail}
use Rattle.mls_geom.proofs.Definitions.{HasPiece, AreEvents, IsBefore, bottom_of, is_above, is_below, line_of, present_after, present_before, top_of, none, AreLegal, Step, Begins, Ends, Event, Piece}
use Rattle.mls_geom.specs.Sweep.Events.{moved, pieces_of}
use Rattle.mls_geom.proofs.BandRows.{EndsOutside, IsBand}
use Rattle.mls_geom.proofs.ListLemmas.{IsSomeAnd-all, IsSomeAnd-both, IsSomeAnd-const, IsSomeAnd-weaker, option_map_or-true, IsSomeAnd-from_option_map_or, within-from_IsSomeAnd}

-- an event of the list
abbrev pub event_at : List Event → ℕ → Event
event_at events k = slice_index_or events k (record { line = 0; piece = 0 })

-- one of the first k events has the piece
abbrev pub is_named : List Event → ℕ → ℕ → Bool
is_named events zero i = false
is_named events (suc k) i = is_named events k i || i == (event_at events k).piece

-- the present pieces once the first k events are over, at each of which a piece begins, or at each of which one ends
abbrev pub after_events : Step → (ℕ → Bool) → List Event → ℕ → ℕ → Bool
after_events Begins present events k i = present i || is_named events k i
after_events Ends present events k i = present i && not (is_named events k i)

-- laws of tests
or_assoc : (a b c : Bool) → ((a || b) || c) ≡ (a || (b || c))
or_assoc true b c = refl
or_assoc false b c = refl

and_not_or : (a b c : Bool) → ((a && not b) && not c) ≡ (a && not (b || c))
and_not_or true true c = refl
and_not_or true false c = refl
and_not_or false b c = refl

-- one event more
pub after_events-more : (step : Step) (present : ℕ → Bool) (events : List Event) (k : ℕ)
    → moved step (after_events step present events k) (event_at events k).piece ≡ after_events step present events (k + 1)
after_events-more Begins present events k = rw add-one (fun_ext (λ i. or_assoc (present i) (is_named events k i) (i == (event_at events k).piece)))
after_events-more Ends present events k = rw add-one (fun_ext (λ i. and_not_or (present i) (is_named events k i) (i == (event_at events k).piece)))

or_false : (a : Bool) → a ≡ (a || false)
or_false true = refl
or_false false = refl

and_true : (a : Bool) → a ≡ (a && not false)
and_true true = refl
and_true false = refl

pub after_events-none : (step : Step) (present : ℕ → Bool) (events : List Event) → present ≡ after_events step present events 0
after_events-none Begins present events = fun_ext (λ i. or_false (present i))
after_events-none Ends present events = fun_ext (λ i. and_true (present i))

-- events in order rise
pub IsNonDecreasingBy-before : (events : List Event) → AllPairs IsBefore events → IsNonDecreasingBy (λ event. event.line) events
IsNonDecreasingBy-before events ordered i j d before within = elim (cases_eq i j) [
  | inl same ↦ rw same (omega arith)
  | inr apart ↦ elim (ordered i j d (omega (arith, apart)) within) [
    | inl lower ↦ omega (arith, lower)
    | inr level ↦ omega (arith, level.0)
  ]
]

-- which event has the piece
named_by : (events : List Event) (k i : ℕ) → is_named events k i ≡ true → (j : ℕ) × (j < k) × ((event_at events j).piece ≡ i)
named_by events zero i named = absurd (both_ways false refl named)
named_by events (suc k) i named = elim (cases_Bool (is_named events k i)) [
  | inl earlier ↦ (let (j, before, is) = named_by events k i earlier in (j, omega arith, is))
  | inr not_earlier ↦ (let same : (i == (event_at events k).piece) ≡ true = rw not_earlier at named in (k, omega arith, sym (eqb-true i _ same)))
]

or_true : (a : Bool) → (a || true) ≡ true
or_true true = refl
or_true false = refl

names : (events : List Event) (k i j : ℕ) → j < k → (event_at events j).piece ≡ i → is_named events k i ≡ true
names events zero i j before is = absurd (omega arith)
names events (suc k) i j before is = elim (cases_lt j k) [
  | inl earlier ↦ rw (names events k i j earlier is) refl
  | inr not_earlier ↦ (let same : j ≡ k = omega arith in rw (eq-eqb i (event_at events k).piece (rw same at (sym is))) (or_true _))
]

-- an event that isn't among the first ones is one of the others
contains_dropped :
    (events : List Event) (reached j i : ℕ) → reached ≤ j → j < length events → (event_at events j).piece ≡ i → Contains (pieces_of (drop reached events)) i
contains_dropped events reached j i later inside is =
    let rest = drop reached events in
    let next : reached + (j - reached) ≡ j = omega arith in
    let within : j - reached < length rest = omega (arith, length-drop reached events) in (
      j - reached,
      omega (arith, length-map rest (λ (event : Event). event.piece)),
      get_or-map (λ (event : Event). event.piece) rest (j - reached) (record { line = 0; piece = 0 }) i within
          ∙ ap (λ (event : Event). event.piece) (get_or-drop reached events (j - reached) (record { line = 0; piece = 0 })) ∙ ap (λ m. (event_at events m).piece) next ∙ is,
    )

-- the piece's line is this
abbrev pub has_line : (Piece → ℕ) → List Piece → ℕ → ℕ → Bool
has_line line_of pieces line i = option_map_or (λ piece. line_of piece == line) (slice_get pieces i) false

-- the events are those from the line on, and the first ones those at the line
module _
    (line_of : Piece → ℕ) (line : ℕ) (pieces : List Piece) (events : List Event) (reached : ℕ) (are : AreEvents line_of line pieces events)
    (within : reached ≤ length events) (front : (j : ℕ) → j < reached → (event_at events j).line ≤ line)
    (back : (j : ℕ) → reached ≤ j → j < length events → line < (event_at events j).line) where
  named_at : (j : ℕ) → j < length events → HasPiece pieces (λ piece. line_of piece ≡ (event_at events j).line) (event_at events j).piece
  named_at j inside = (are.named j _ inside).1

  line_at : (j : ℕ) → j < reached → (event_at events j).line ≡ line
  line_at j before = omega (arith, front j before, (are.named j (record { line = 0; piece = 0 }) (omega arith)).0)

  -- the pieces of two events with one piece have one line
  same_line : (j k : ℕ) → j < length events → k < length events → (event_at events j).piece ≡ (event_at events k).piece → (event_at events j).line ≡ (event_at events k).line
  same_line j k inside inside' is =
      IsSomeAnd-const (slice_get pieces (event_at events k).piece) _
      (IsSomeAnd-both (slice_get pieces (event_at events k).piece) (λ piece. line_of piece ≡ (event_at events j).line)
      (λ piece. line_of piece ≡ (event_at events k).line) (λ _. (event_at events j).line ≡ (event_at events k).line) (λ piece first second. sym first ∙ second)
      (rw is at (named_at j inside)) (named_at k inside'))

  -- so each piece has one event
  pub not_named : (k : ℕ) → k < length events → is_named events k (event_at events k).piece ≡ false
  not_named k inside = false_from_ne_true _ (λ named.
      let (j, before, is) = named_by events k (event_at events k).piece named in
      let line = same_line j k (omega arith) inside is in
      elim (are.ordered j k (record { line = 0; piece = 0 }) before inside) [
        | inl lower ↦ omega (arith, line)
        | inr same ↦ omega (arith, is, same.1)
      ])

  -- and its piece is one of the list
  pub piece_known : (k : ℕ) → k < length events → (event_at events k).piece < length pieces
  piece_known k inside = within-from_IsSomeAnd pieces (event_at events k).piece (λ piece. line_of piece ≡ (event_at events k).line) (named_at k inside)

  -- whose line is this, for a first event
  pub line_has : (k : ℕ) → k < reached → HasPiece pieces (λ piece. line_of piece ≡ line) (event_at events k).piece
  line_has k before = rw (line_at k before) at (named_at k (omega arith))

  -- the event of a piece
  event_of : (i : ℕ) → HasPiece pieces (λ piece. line ≤ line_of piece) i → (j : ℕ) × (j < length events) × ((event_at events j).piece ≡ i)
  event_of i at =
      let (j, inside, is) = are.whole i at in
      let inside' : j < length events = omega (arith, length-map events (λ (event : Event). event.piece)) in
      (j, inside', sym (get_or-map (λ (event : Event). event.piece) events j (record { line = 0; piece = 0 }) i inside') ∙ is)

  -- the first events are those of the pieces whose line this is
  named_has : (i : ℕ) → is_named events reached i ≡ true → HasPiece pieces (λ piece. line_of piece ≡ line) i
  named_has i named =
      let (j, before, is) = named_by events reached i named in
      rw is at (rw (line_at j before) at (named_at j (omega arith)))

  has_named : (i : ℕ) → HasPiece pieces (λ piece. line_of piece ≡ line) i → is_named events reached i ≡ true
  has_named i at =
      let (j, inside, is) = event_of i (IsSomeAnd-weaker _ (λ piece. line_of piece ≡ line) (λ piece. line ≤ line_of piece) (λ piece same. omega arith) at) in
      let here : (event_at events j).line ≡ line = IsSomeAnd-const (slice_get pieces i) _
      (IsSomeAnd-both (slice_get pieces i) (λ piece. line_of piece ≡ (event_at events j).line) (λ piece. line_of piece ≡ line)
      (λ _. (event_at events j).line ≡ line) (λ piece first second. sym first ∙ second) (rw is at (named_at j inside)) at) in
      elim (cases_lt j reached) [
        | inl before ↦ names events reached i j before is
        | inr after ↦ absurd (omega (arith, back j after inside, here))
      ]

  named_is : (i : ℕ) → is_named events reached i ≡ has_line line_of pieces line i
  named_is i = elim (cases_Bool (is_named events reached i)) [
    | inl named ↦ named ∙ sym (option_map_or-true (λ piece. line_of piece == line) (slice_get pieces i) (λ piece. line_of piece ≡ line)
        (λ piece same. eq-eqb (line_of piece) line same) (named_has i named))
    | inr bare ↦ bare ∙ sym (false_from_ne_true _ (λ has.
        both_ways (is_named events reached i) bare (has_named i
        (IsSomeAnd-from_option_map_or (λ piece. line_of piece == line) (slice_get pieces i) (λ piece. line_of piece ≡ line) (λ piece passed. eqb-true (line_of piece) line passed) has))))
  ]

  -- of the pieces of which the line is this, those whose events come later have the greater indices
  pub comes_later :
      (k i : ℕ) → k < reached → is_named events k i ≡ false → i ≢ (event_at events k).piece → HasPiece pieces (λ piece. line_of piece ≡ line) i
      → (event_at events k).piece < i
  comes_later k i before not_yet other at =
      let (j, j_in, is) = named_by events reached i (has_named i at) in
      elim (cases_lt j k) [
        | inl earlier ↦ absurd (both_ways (is_named events k i) not_yet (names events k i j earlier is))
        | inr not_earlier ↦ elim (cases_eq j k) [
          | inl same ↦ absurd (other (sym is ∙ ap (λ m. (event_at events m).piece) same))
          | inr apart ↦ elim (are.ordered k j (record { line = 0; piece = 0 }) (omega (arith, apart)) (omega arith)) [
            | inl lower ↦ absurd (omega (arith, line_at k before, line_at j j_in))
            | inr under ↦ omega (arith, under.1, is)
          ]
        ]
      ]

  -- those left are the events further up
  pub AreEvents-rest : AreEvents line_of (line + 1) pieces (drop reached events)
  AreEvents-rest = record {
    ordered = λ i j d before inside.
        rw (get_or-drop reached events i d, get_or-drop reached events j d) (are.ordered (reached + i) (reached + j) d (omega arith) (omega (arith, length-drop reached events)));
    named = λ k d inside.
        let at : reached + k < length events = omega (arith, length-drop reached events) in
        let same = get_or_default events (reached + k) d (record { line = 0; piece = 0 }) at in
        rw (get_or-drop reached events k d) (omega (arith, rw (← same) at (back (reached + k) (omega arith) at)), (are.named (reached + k) d at).1);
    whole = λ i at.
        let (j, inside, is) = event_of i (IsSomeAnd-weaker _ (λ piece. line + 1 ≤ line_of piece) (λ piece. line ≤ line_of piece) (λ piece from. omega arith) at) in
        let later : reached ≤ j = elim (cases_lt j reached) [
          | inl before ↦ absurd (IsSomeAnd-const (slice_get pieces i) ⊥
              (IsSomeAnd-both (slice_get pieces i) (λ piece. line_of piece ≡ (event_at events j).line) (λ piece. line + 1 ≤ line_of piece) (λ _. ⊥)
              (λ piece first second. omega (arith, line_at j before)) (rw is at (named_at j inside)) at))
          | inr after ↦ after
        ] in
        contains_dropped events reached j i later inside is;
  }

-- what holds of the piece, if there is one
abbrev IsSomeOr : (Piece → Type 0) → Option Piece → Type 0
IsSomeOr P None = ℕ
IsSomeOr P (Some piece) = P piece

IsSomeOr-all : (pieces : List Piece) (i : ℕ) (P : Piece → Type 0) → All P pieces → IsSomeOr P (slice_get pieces i)
IsSomeOr-all [] i P all = 0
IsSomeOr-all (piece ∷ pieces) zero P all = All-head P piece pieces all
IsSomeOr-all (piece ∷ pieces) (suc i) P all = IsSomeOr-all pieces i P (All-tail P piece pieces all)

-- the tests of a piece at an index, where there is one
met_below : (o : Option Piece) (line : ℕ) → IsSomeOr (λ piece. piece.rect.bottom < piece.rect.top) o
    → (option_map_or (λ piece. nat_lt piece.rect.bottom line && nat_le line piece.rect.top) o false || option_map_or (λ piece. bottom_of piece == line) o false)
    ≡ option_map_or (λ piece. nat_le piece.rect.bottom line && nat_le line piece.rect.top) o false
met_below None line tall = refl
met_below (Some piece) line tall = grind (arith, nat_tests)

met_above : (o : Option Piece) (line : ℕ)
    → (option_map_or (λ piece. nat_le piece.rect.bottom line && nat_le line piece.rect.top) o false && not (option_map_or (λ piece. top_of piece == line) o false))
    ≡ option_map_or (λ piece. nat_le piece.rect.bottom line && nat_lt line piece.rect.top) o false
met_above None line = refl
met_above (Some piece) line = grind (arith, nat_tests)

-- events from the line above a band's bottom line on are those from its top line on
pub AreEvents-band :
    (line_of : Piece → ℕ) (bottom top : ℕ) (pieces : List Piece) (events : List Event) → bottom < top → All (λ piece. bottom < line_of piece → top ≤ line_of piece) pieces
    → AreEvents line_of (bottom + 1) pieces events → AreEvents line_of top pieces events
AreEvents-band line_of bottom top pieces events tall outside are = record {
  ordered = are.ordered;
  named = λ k d inside.
      let at = (are.named k d inside).1 in (
        IsSomeAnd-const (slice_get pieces (get_or events k d).piece) _
            (IsSomeAnd-both (slice_get pieces (get_or events k d).piece) (λ piece. bottom < line_of piece → top ≤ line_of piece) (λ piece. line_of piece ≡ (get_or events k d).line)
            (λ _. top ≤ (get_or events k d).line) (λ piece far is. rw is at (far (omega (arith, is, (are.named k d inside).0))))
            (IsSomeAnd-all pieces (get_or events k d).piece (λ piece. bottom < line_of piece → top ≤ line_of piece) (λ piece. line_of piece ≡ (get_or events k d).line) outside at) at),
        at,
      );
  whole = λ i at. are.whole i (IsSomeAnd-weaker _ (λ piece. top ≤ line_of piece) (λ piece. bottom + 1 ≤ line_of piece) (λ piece from. omega arith) at);
}

-- a piece that neither begins nor ends inside a band
same_band : (o : Option Piece) (bottom top : ℕ) → bottom < top → IsSomeOr (EndsOutside bottom top) o
    → option_map_or (λ piece. nat_lt piece.rect.bottom top && nat_le top piece.rect.top) o false
    ≡ option_map_or (λ piece. nat_le piece.rect.bottom bottom && nat_lt bottom piece.rect.top) o false
same_band None bottom top tall outside = refl
same_band (Some piece) bottom top tall outside = elim (cases_lt bottom piece.rect.bottom) [
  | inl late ↦ (let far = outside.begin late in grind (arith, nat_tests))
  | inr begun ↦ elim (cases_lt bottom piece.rect.top) [
    | inl on ↦ (let far = outside.end on in grind (arith, nat_tests))
    | inr ended ↦ grind (arith, nat_tests)
  ]
]

-- the pieces with squares in the row below a band's top line are those with squares in the row above its bottom line
pub is_below-band : (pieces : List Piece) (bottom top : ℕ) → IsBand pieces bottom top → is_below pieces top ≡ is_above pieces bottom
is_below-band pieces bottom top band = fun_ext (λ i. same_band (slice_get pieces i) bottom top band.tall (IsSomeOr-all pieces i (EndsOutside bottom top) band.outside))

-- a piece that begins further up has no square below
none_below : (o : Option Piece) (line : ℕ) → IsSomeOr (λ piece. line ≤ piece.rect.bottom) o
    → option_map_or (λ piece. nat_lt piece.rect.bottom line && nat_le line piece.rect.top) o false ≡ false
none_below None line from = refl
none_below (Some piece) line from = grind (arith, nat_tests)

-- no piece has squares in the row below the world
pub is_below-bottom : (pieces : List Piece) (line : ℕ) → All (λ piece. line ≤ piece.rect.bottom) pieces → is_below pieces line ≡ none
is_below-bottom pieces line from = fun_ext (λ i. none_below (slice_get pieces i) line (IsSomeOr-all pieces i (λ piece. line ≤ piece.rect.bottom) from))

-- a line's row above is the next line's row below
next_below : (o : Option Piece) (line : ℕ)
    → option_map_or (λ piece. nat_lt piece.rect.bottom (line + 1) && nat_le (line + 1) piece.rect.top) o false
    ≡ option_map_or (λ piece. nat_le piece.rect.bottom line && nat_lt line piece.rect.top) o false
next_below None line = refl
next_below (Some piece) line = grind (arith, nat_tests)

-- the row above a line is the one below the next
pub is_below-next : (pieces : List Piece) (line : ℕ) → is_below pieces (line + 1) ≡ is_above pieces line
is_below-next pieces line = fun_ext (λ i. next_below (slice_get pieces i) line)

-- the line parts the events
pub record IsPartedAt (line : ℕ) (events : List Event) (reached : ℕ) : Type 0 where
  pub within : reached ≤ length events
  pub front : (j : ℕ) → j < reached → (event_at events j).line ≤ line
  pub back : (j : ℕ) → reached ≤ j → j < length events → line < (event_at events j).line

pub IsPartedAt-point :
    (line : ℕ) (events : List Event) (reached : ℕ) → reached ≤ length events
    → IsPartitionPoint (λ event. leb event.line line ≡ true) (λ event. leb event.line line ≡ false) events reached → IsPartedAt line events reached
IsPartedAt-point line events reached within parts =
    let d : Event = record { line = 0; piece = 0 } in
    record {
      within = within;
      front = λ j before. leb-true _ line (parts.0 j d (omega arith) before);
      back = λ j after inside. leb-false _ line (parts.1 j d after inside);
    }

-- where pieces begin, those join that have squares in the row below, and these are the pieces that the line meets. Where they end, they leave these
pub after_events-all : (step : Step) (pieces : List Piece) (line : ℕ) (events : List Event) (reached : ℕ)
    → AreLegal pieces → AreEvents (line_of step) line pieces events → IsPartedAt line events reached
    → after_events step (present_before step pieces line) events reached ≡ present_after step pieces line
after_events-all Begins pieces line events reached legal are parted = fun_ext (λ i.
    rw (named_is bottom_of line pieces events reached are parted.within parted.front parted.back i)
    (met_below (slice_get pieces i) line (IsSomeOr-all pieces i (λ piece. piece.rect.bottom < piece.rect.top) (λ k d inside. (legal k d inside).tall))))
after_events-all Ends pieces line events reached legal are parted = fun_ext (λ i.
    rw (named_is top_of line pieces events reached are parted.within parted.front parted.back i) (met_above (slice_get pieces i) line))

-- a piece that begins at the line isn't present before its event
pub begins_later :
    (pieces : List Piece) (line : ℕ) (events : List Event) (reached k : ℕ) → AreEvents bottom_of line pieces events → IsPartedAt line events reached → k < reached
    → after_events Begins (is_below pieces line) events k (event_at events k).piece ≡ false
begins_later pieces line events reached k are parted before =
    let i = (event_at events k).piece in
    let here = line_has bottom_of line pieces events reached are parted.within parted.front parted.back k before in
    let away : is_below pieces line i ≡ false = false_from_ne_true _ (λ held.
    IsSomeAnd-const (slice_get pieces i) ⊥
    (IsSomeAnd-both (slice_get pieces i) (λ piece. piece.rect.bottom < line) (λ piece. bottom_of piece ≡ line) (λ _. ⊥) (λ piece below at. omega (arith, below, at))
    (IsSomeAnd-from_option_map_or (λ piece. nat_lt piece.rect.bottom line && nat_le line piece.rect.top) (slice_get pieces i) (λ piece. piece.rect.bottom < line)
    (λ piece passed. grind (arith, nat_tests)) held) here)) in
    rw (away, not_named bottom_of line pieces events reached are parted.within parted.front parted.back k (omega (arith, parted.within))) refl
