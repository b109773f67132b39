-- Pieces planted in a tree, and what they show.
use Rattle.mls_geom.proofs.Common.{◌≡◌, ℕ, zero, suc, ◌+◌, ◌-◌, ◌<◌, ◌≤◌, ◌==◌, ◌&&◌, nat_le, nat_lt, if◌then◌else◌, true, false, List, [], ◌∷◌, ◌++◌, Option, Some, None, get_or, length, slice_get, slice_index, refl, sym, ap, ◌∙◌, subst, arith, inl, inr, IsStrictlyIncreasing, IfNone, IsSome, and_from, both_ways, cases_Bool, cases_eq, cases_lt, false_from_ne_true, ne_eqb, not-true, nat_tests, get_or_append_left, get_or_push, length-append, slice_get-get_or, slice_get_cases, slice_get_read}
use Rattle.mls_geom.proofs.Definitions.{holds, HaveKinds, laid, uncovered, HasPiece, AreEvents, ArePlanted, HaveChangedTops, IsNext, IsPlanted, is_above, is_below, is_met, line_of, present_before, top_of, HaveChanges, ShowsRow, kind_if_covered, EndsFirst, end_of, IsTop, has_slot, kind_of, kind_shown, none, segment_at, span_of, AreLegal, world, Step, Begins, Ends, Event, Span, Piece, Segment}
use Rattle.mls_geom.proofs.CutLines.{holds-indices}
use Rattle.mls_geom.proofs.EventSteps.{IsPartedAt, after_events, begins_later, comes_later, event_at, is_below-bottom, is_below-next, is_named, line_has, piece_known}
use Rattle.mls_geom.proofs.ListLemmas.{IsSomeAnd-const, IsSomeAnd-from_option_map_or, IsSomeAnd-weaker, within-from_IsSomeAnd}
use Rattle.mls_geom.proofs.Overlays.{overlaid_last, overlaid_outside}
use Rattle.mls_geom.proofs.TopPieces.{and_first, and_second, one_less, some_top}

-- the segment of a piece
piece_at : (lines : List ℕ) (pieces : List Piece) (segments : List Segment) → ArePlanted lines pieces segments → (i : ℕ) (d : Piece) → i < length pieces
    → IsPlanted lines (get_or pieces i d) (segment_at segments i)
piece_at lines pieces segments planted i d within = rw (slice_get-get_or pieces i d within) at (planted.each i within)

-- a planted piece's slots end between the lines
pub planted_end : (lines : List ℕ) (pieces : List Piece) (segments : List Segment) → ArePlanted lines pieces segments → (i : ℕ) → i < length pieces
    → (span_of segments i).end < length lines
planted_end lines pieces segments planted i within =
    IsSomeAnd-const (slice_get pieces i) _
    (IsSomeAnd-weaker (slice_get pieces i) (λ piece. IsPlanted lines piece (segment_at segments i)) (λ _. (span_of segments i).end < length lines) (λ piece is. is.right_in) (planted.each i within))

-- the kind that the squares of a slot show
abbrev kind_under : List Segment → ℕ → ℕ
kind_under segments rank = if rank == 0 then uncovered else kind_of segments (rank - 1)

-- a slot that shows a piece has its kind
under_some : (segments : List Segment) (r : ℕ) → kind_under segments (suc r) ≡ kind_of segments r
under_some segments r = rw (ne_eqb (suc r) 0 (λ same. omega (arith, same)), one_less r) refl

shown_some : (segments : List Segment) (r : ℕ) → kind_shown segments (suc r) ≡ Some (kind_of segments r)
shown_some segments r = rw (ne_eqb (suc r) 0 (λ same. omega (arith, same)), one_less r) refl

-- which pieces have squares in the row above a line
above_within : (pieces : List Piece) (y i : ℕ) → is_above pieces y i ≡ true → i < length pieces
above_within pieces y i held = elim (slice_get_cases pieces i).1 [
  | inl (piece, within, is, at) ↦ within
  | inr (past, is) ↦ absurd (both_ways (is_above pieces y i) (rw is refl) held)
]

above_test : (pieces : List Piece) (y i : ℕ) (d : Piece) → i < length pieces
    → is_above pieces y i ≡ (nat_le (get_or pieces i d).rect.bottom y && nat_lt y (get_or pieces i d).rect.top)
above_test pieces y i d within = rw (slice_get-get_or pieces i d within) refl

module _
    (lines : List ℕ) (pieces : List Piece) (segments : List Segment) (planted : ArePlanted lines pieces segments) (ascending : IsStrictlyIncreasing lines)
    (s x y : ℕ) (in_row : s + 1 < length lines) (from : slice_index lines s ≤ x) (to : x < slice_index lines (s + 1)) where
  planted_at : (i : ℕ) (d : Piece) → i < length pieces → IsPlanted lines (get_or pieces i d) (segment_at segments i)
  planted_at = piece_at lines pieces segments planted

  -- a piece has the square if it has the row and the slot
  holds_test : (i : ℕ) (d : Piece) → i < length pieces → holds (get_or pieces i d).rect x y ≡ (is_above pieces y i && has_slot (span_of segments i) s)
  holds_test i d within =
      let is = planted_at i d within in
      elim (cases_Bool (is_above pieces y i)) [
        | inl above ↦
            let rows : (nat_le (get_or pieces i d).rect.bottom y && nat_lt y (get_or pieces i d).rect.top) ≡ true = sym (above_test pieces y i d within) ∙ above in
            rw above (holds-indices lines (get_or pieces i d).rect (span_of segments i).first (span_of segments i).end s x y ascending is.left_in is.right_in in_row
            is.left is.right (grind (arith, nat_tests)) (grind (arith, nat_tests)) from to)
        | inr not_above ↦
            let rows : (nat_le (get_or pieces i d).rect.bottom y && nat_lt y (get_or pieces i d).rect.top) ≡ false = sym (above_test pieces y i d within) ∙ not_above in
            rw not_above (grind (arith, nat_tests))
      ]

  over_holds : (rank i : ℕ) (d : Piece) → IsTop segments (is_above pieces y) s rank → rank ≤ i → i < length pieces → holds (get_or pieces i d).rect x y ≡ false
  over_holds rank i d top over within = holds_test i d within ∙ false_from_ne_true _ (λ held.
      omega (arith, top.over i (and_first (is_above pieces y i) _ held, and_second (is_above pieces y i) _ held)))

  -- so it shows the kind of the topmost of the slot's pieces
  pub laid_top : (rank : ℕ) → IsTop segments (is_above pieces y) s rank → laid pieces x y ≡ kind_under segments rank
  laid_top zero top = overlaid_outside (λ x y. uncovered) pieces x y (λ i d within. over_holds zero i d top (omega arith) within)
  laid_top (suc r) top = elim top.some [
    | inl empty ↦ absurd (omega arith)
    | inr held' ↦
        let held = rw (one_less r) at held' in
        let d : Piece = record { rect = record { left = 0; bottom = 0; right = 0; top = 0 }; kind = 0 } in
        let within = above_within pieces y r held.0 in
        overlaid_last (λ x y. uncovered) pieces x y r d within (holds_test r d within ∙ and_from (is_above pieces y r) _ held.0 held.1)
        (λ j later inside. over_holds (suc r) j d top (omega arith) inside) ∙ sym (planted_at r d within).kind ∙ sym (under_some segments r)
  ]

  pub shown_top : HaveKinds pieces → (rank : ℕ) → IsTop segments (is_above pieces y) s rank → kind_shown segments rank ≡ kind_if_covered (laid pieces x y)
  shown_top kinds zero top = rw (laid_top zero top) refl
  shown_top kinds (suc r) top = elim top.some [
    | inl empty ↦ absurd (omega arith)
    | inr held' ↦
        let held = rw (one_less r) at held' in
        let d : Piece = record { rect = record { left = 0; bottom = 0; right = 0; top = 0 }; kind = 0 } in
        let within = above_within pieces y r held.0 in
        let few = kinds r d within in
        let kind = (planted_at r d within).kind in
        let covered : (kind_of segments r == uncovered) ≡ false = ne_eqb (kind_of segments r) uncovered (λ same. omega (arith, same, few, kind)) in
        rw (shown_some segments r, laid_top (suc r) top, under_some segments r, covered) refl
  ]

-- the tree's pieces show the row above the line
pub ShowsRow-planted :
    (lines : List ℕ) (pieces : List Piece) (segments : List Segment) (y : ℕ) → ArePlanted lines pieces segments → IsStrictlyIncreasing lines → HaveKinds pieces
    → ShowsRow segments (is_above pieces y) lines (laid pieces) y
ShowsRow-planted lines pieces segments y planted ascending kinds s x rank in_row from to top =
    shown_top lines pieces segments planted ascending s x y in_row from to kinds rank top

-- a piece with squares in the row below is one of the list
below_within : (pieces : List Piece) (y i : ℕ) → is_below pieces y i ≡ true → i < length pieces
below_within pieces y i held = elim (slice_get_cases pieces i).1 [
  | inl (piece, within, is, at) ↦ within
  | inr (past, is) ↦ absurd (both_ways (is_below pieces y i) (rw is refl) held)
]

-- where no piece is present none lies on top
rank_none : (segments : List Segment) (s rank : ℕ) → IsTop segments none s rank → rank ≡ 0
rank_none segments s rank top = elim top.some [
  | inl empty ↦ empty
  | inr held ↦ absurd (both_ways false refl held.0)
]

nat_lt_same : (y z : ℕ) → y ≡ z → nat_lt z y ≡ false
nat_lt_same y z same = grind (arith, nat_tests)

-- and the marks have the slots whose squares differ from those below
pub HaveChanges-planted :
    (lines : List ℕ) (marks : List Span) (pieces : List Piece) (segments : List Segment) (y : ℕ) → ArePlanted lines pieces segments → IsStrictlyIncreasing lines
    → AreLegal pieces → world.bottom ≤ y → HaveChangedTops marks segments (is_below pieces y) (is_above pieces y) → HaveChanges lines marks (laid pieces) y
HaveChanges-planted lines marks pieces segments y planted ascending legal from changed s x in_row after before bare =
    let (rank, top) = some_top segments (is_below pieces y) s (length pieces) (below_within pieces y) in
    laid_top lines pieces segments planted ascending s x y in_row after before rank (changed s rank bare top)
    ∙ elim (cases_eq y world.bottom) [
      | inl lowest ↦
          let nothing : IsTop segments none s rank = subst (λ present. IsTop segments present s rank) (ap (is_below pieces) lowest ∙ is_below-bottom pieces world.bottom (λ k d within. (legal k d within).bottom_in)) top in
          rw (rank_none segments s rank nothing, nat_lt_same y world.bottom lowest) refl
      | inr higher ↦
          let next : y ≡ y - 1 + 1 = omega (arith, from, higher) in
          let above : IsTop segments (is_above pieces (y - 1)) s rank = subst (λ present. IsTop segments present s rank) (ap (is_below pieces) next ∙ is_below-next pieces (y - 1)) top in
          let higher' : nat_lt world.bottom y ≡ true = grind (arith, nat_tests, higher, from) in
          rw higher' (sym (laid_top lines pieces segments planted ascending s x (y - 1) in_row after before rank above))
    ]

-- the segments are the first n pieces, in order
pub record AreFirstPlanted (lines : List ℕ) (pieces : List Piece) (n : ℕ) (segments : List Segment) : Type 0 where
  pub count : length segments ≡ n
  pub each : (i : ℕ) → i < n → HasPiece pieces (λ piece. IsPlanted lines piece (segment_at segments i)) i

-- one piece more
pub AreFirstPlanted-push :
    (lines : List ℕ) (pieces : List Piece) (n : ℕ) (segments : List Segment) (piece : Piece) (segment : Segment) → n < length pieces → piece ≡ get_or pieces n piece
    → IsPlanted lines piece segment → AreFirstPlanted lines pieces n segments → AreFirstPlanted lines pieces (n + 1) (segments ++ segment ∷ [])
AreFirstPlanted-push lines pieces n segments piece segment within at is so_far =
    let d : Segment = record { span = record { first = 0; end = 0 }; end = 0; kind = 0 } in
    record {
      count = omega (arith, length-append segments (segment ∷ []), so_far.count);
      each = λ i below. elim (cases_lt i n) [
        | inl earlier ↦
            let same : segment_at (segments ++ segment ∷ []) i ≡ segment_at segments i = get_or_append_left segments (segment ∷ []) d i (omega (arith, so_far.count)) in
            rw same (so_far.each i earlier)
        | inr not_earlier ↦
            let last : i ≡ length segments = omega (arith, so_far.count) in
            let same : segment_at (segments ++ segment ∷ []) i ≡ segment = ap (segment_at (segments ++ segment ∷ [])) last ∙ get_or_push segments segment d (length segments) refl in
            let here : slice_get pieces i ≡ Some piece = ap (slice_get pieces) (last ∙ so_far.count) ∙ slice_get_read pieces (length pieces) n piece refl within at in
            rw (same, here) is
      ];
    }

-- of the pieces that the line meets, and that aren't gone, the next to end ends first
EndsFirst-event :
    (lines : List ℕ) (pieces : List Piece) (segments : List Segment) (line : ℕ) (events : List Event) (reached k : ℕ) → ArePlanted lines pieces segments
    → AreEvents top_of line pieces events → IsPartedAt line events reached → k < reached
    → EndsFirst segments (after_events Ends (is_met pieces line) events k) (event_at events k).piece
EndsFirst-event lines pieces segments line events reached k planted are parted before i held other =
    let d : Piece = record { rect = record { left = 0; bottom = 0; right = 0; top = 0 }; kind = 0 } in
    let piece = (event_at events k).piece in
    let has = line_has top_of line pieces events reached are parted.within parted.front parted.back k before in
    let piece_in = piece_known top_of line pieces events reached are parted.within parted.front parted.back k (omega (arith, parted.within)) in
    let ends : end_of segments piece ≡ line = (piece_at lines pieces segments planted piece d piece_in).end ∙ rw (slice_get-get_or pieces piece d piece_in) at has in
    let meets = IsSomeAnd-from_option_map_or (λ piece. nat_le piece.rect.bottom line && nat_le line piece.rect.top) (slice_get pieces i) (λ piece. line ≤ piece.rect.top)
    (λ piece passed. grind (arith, nat_tests)) (and_first (is_met pieces line i) _ held) in
    let i_in = within-from_IsSomeAnd pieces i (λ piece. line ≤ piece.rect.top) meets in
    let from : line ≤ (get_or pieces i d).rect.top = rw (slice_get-get_or pieces i d i_in) at meets in
    let end' : end_of segments i ≡ (get_or pieces i d).rect.top = (piece_at lines pieces segments planted i d i_in).end in
    elim (cases_eq (get_or pieces i d).rect.top line) [
      | inl same ↦
          let at : HasPiece pieces (λ piece. top_of piece ≡ line) i = rw (slice_get-get_or pieces i d i_in) same in
          let waits = not-true (is_named events k i) (and_second (is_met pieces line i) _ held) in
          inr (omega (arith, ends, end', same), comes_later top_of line pieces events reached are parted.within parted.front parted.back k i before waits other at)
      | inr later ↦ inl (omega (arith, ends, end', from, later))
    ]

-- so the piece of each event is the next to begin or end
pub IsNext-event : (step : Step) (lines : List ℕ) (pieces : List Piece) (segments : List Segment) (line : ℕ) (events : List Event) (reached k : ℕ)
    → ArePlanted lines pieces segments → AreEvents (line_of step) line pieces events → IsPartedAt line events reached → k < reached
    → IsNext step segments (after_events step (present_before step pieces line) events k) (event_at events k).piece
IsNext-event Begins lines pieces segments line events reached k planted are parted before = begins_later pieces line events reached k are parted before
IsNext-event Ends lines pieces segments line events reached k planted are parted before = EndsFirst-event lines pieces segments line events reached k planted are parted before

-- a line that is listed is found
pub some_found : (found : Option ℕ) (P : Type 0) → IfNone found (¬ P) → P → IsSome found
some_found None P none held = absurd (none held)
some_found (Some index) P none held = refl
