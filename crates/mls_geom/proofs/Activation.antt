-- How the active pieces change at a line.
use Rattle.mls_geom.proofs.Common.{◌≡◌, ℕ, ◌+◌, ◌<◌, ◌≤◌, true, nat_eq, nat_lt, List, [], ◌++◌, slice_get, All, subst, arith, inl, inr, Contains, IsDistinct, filter, IsNonDecreasing, IsNonDecreasingBy, IsPermutation, lt-ltb, ltb-true, All-append, All-contains, All-filter, All-nil, All-weaker, Contains-append_cases, filter_passes, All-permutation, Contains-permutation, IsPermutation-append_left, IsStrictlyIncreasing-from_distinct}
use Rattle.mls_geom.proofs.Definitions.{ArePartedAt, AreStarts, StartsBelow, EndsFrom, HasPiece, AddsStarted, NamesPiece, ends_above, Rect, IsRectangleIn, AreActive, Start, Piece}
use Rattle.mls_geom.specs.Sweep.ActivePieces.{pieces_of}
use Rattle.mls_geom.proofs.ListLemmas.{All-append_left, All-append_right, Contains-filter_append, IsDistinct-append_left, IsDistinct-filter_append, IsDistinct-moved, IsNonDecreasingBy-append_right, IsSomeAnd-both, IsSomeAnd-const, IsSomeAnd-from_option_map_or, IsSomeAnd-weaker, option_map_or-true, within-from_IsSomeAnd}
use Rattle.mls_geom.proofs.Starts.{StartsFrom, HasPiece-all, HasPiece-weaker, AddsStarted-all, started_below, start_from_piece, waiting_ahead}

-- what passes the test ends above the line, and what ends above it passes
EndsFrom-passed : (pieces : List Piece) (line i : ℕ) → ends_above pieces line i ≡ true → HasPiece pieces (EndsFrom (line + 1)) i
EndsFrom-passed pieces line i =
    IsSomeAnd-from_option_map_or (λ (piece : Piece). nat_lt line piece.rect.top) (slice_get pieces i) (EndsFrom (line + 1))
    (λ piece passed. omega (arith, ltb-true line piece.rect.top passed))

passed-EndsFrom : (pieces : List Piece) (line i : ℕ) → HasPiece pieces (EndsFrom (line + 1)) i → ends_above pieces line i ≡ true
passed-EndsFrom pieces line i =
    option_map_or-true (λ (piece : Piece). nat_lt line piece.rect.top) (slice_get pieces i) (EndsFrom (line + 1))
    (λ piece ends. lt-ltb line piece.rect.top (omega arith))

-- the piece has squares in the row above the line
abbrev HasSquares : ℕ → Piece → Type 0
HasSquares line piece = (piece.rect.bottom ≤ line) × (line < piece.rect.top)

-- where the line above the row parts the pieces, and the active ones end above the row
module _
    (line : ℕ) (pieces : List Piece) (active : List ℕ) (waiting : List Start) (parted : ArePartedAt (line + 1) pieces active waiting)
    (ends : All (HasPiece pieces (EndsFrom (line + 1))) active) where
  squares_from_active : (i : ℕ) → Contains active i → HasPiece pieces (HasSquares line) i
  squares_from_active i held =
      let started = All-contains (HasPiece pieces (StartsBelow (line + 1))) active i parted.started held in
      let ended = All-contains (HasPiece pieces (EndsFrom (line + 1))) active i ends held in
      IsSomeAnd-both _ (StartsBelow (line + 1)) (EndsFrom (line + 1)) (HasSquares line) (λ piece below above. (omega arith, omega arith)) started ended

  not_waiting : (i : ℕ) → HasPiece pieces (HasSquares line) i → Contains (pieces_of waiting) i → ⊥
  not_waiting i at waits =
      let ahead = All-contains (HasPiece pieces (StartsFrom (line + 1))) (pieces_of waiting) i (waiting_ahead (line + 1) pieces waiting parted.named parted.ahead) waits in
      IsSomeAnd-const _ ⊥ (IsSomeAnd-both _ (HasSquares line) (StartsFrom (line + 1)) (λ _. ⊥) (λ piece squares from. omega (arith, squares.0)) at ahead)

  active_from_squares : (i : ℕ) → HasPiece pieces (HasSquares line) i → Contains active i
  active_from_squares i at =
      let ended = IsSomeAnd-weaker _ (HasSquares line) (EndsFrom (line + 1)) (λ piece squares. omega (arith, squares.1)) at in
      elim (Contains-append_cases active (pieces_of waiting) i (parted.whole i ended)) [
        | inl held ↦ held
        | inr waits ↦ absurd (not_waiting i at waits)
      ]

  pub AreActive-parted : IsNonDecreasing active → AreActive pieces line active
  AreActive-parted ordered = record {
    ascending = IsStrictlyIncreasing-from_distinct active ordered (IsDistinct-append_left active (pieces_of waiting) parted.once);
    members = λ i. (squares_from_active i, active_from_squares i);
  }

-- at a line those that ended leave, those that begin join, and all are put in order
module _
    (line : ℕ) (pieces : List Piece) (active joined new : List ℕ) (waiting rest : List Start) (parted : ArePartedAt line pieces active waiting)
    (join : AddsStarted line waiting rest (filter (ends_above pieces line) active) joined) (moved : IsPermutation joined new) where
  abbrev kept : List ℕ
  kept = filter (ends_above pieces line) active

  named_parts : All (NamesPiece pieces) (join.started ++ rest)
  named_parts = subst (All (NamesPiece pieces)) join.parted parted.named

  moved_parts : IsPermutation (joined ++ pieces_of rest) (new ++ pieces_of rest)
  moved_parts = IsPermutation-append_left (pieces_of rest) joined new moved

  same_parts : kept ++ pieces_of waiting ≡ joined ++ pieces_of rest
  same_parts = AddsStarted-all line waiting rest kept joined join

  -- what holds of those that stay and of those that begin
  All-new : (P : ℕ → Type 0) → All P kept → All P (pieces_of join.started) → All P new
  All-new P stay begin = All-permutation P joined new moved (rw join.joined (All-append P kept (pieces_of join.started) stay begin))

  pub ArePartedAt-activate : ArePartedAt (line + 1) pieces new rest
  ArePartedAt-activate =
      let below = HasPiece-weaker pieces (StartsBelow line) (StartsBelow (line + 1)) active (λ piece at. omega arith) parted.started in
      let reached = started_below line pieces join.started (All-append_left (NamesPiece pieces) join.started rest named_parts) join.reached in
      record {
        started = All-new (HasPiece pieces (StartsBelow (line + 1))) (All-filter (ends_above pieces line) (HasPiece pieces (StartsBelow (line + 1))) active below) reached;
        named = All-append_right (NamesPiece pieces) join.started rest named_parts;
        ahead = λ k d within. omega (arith, join.ahead k d within);
        ordered = IsNonDecreasingBy-append_right (λ start. start.bottom) join.started rest (subst (IsNonDecreasingBy (λ start. start.bottom)) join.parted parted.ordered);
        once =
            IsDistinct-moved (joined ++ pieces_of rest) (new ++ pieces_of rest) moved_parts
            (subst (IsDistinct nat_eq) same_parts (IsDistinct-filter_append (ends_above pieces line) active (pieces_of waiting) parted.once));
        whole = λ i at.
            let listed = parted.whole i (IsSomeAnd-weaker _ (EndsFrom (line + 1)) (EndsFrom line) (λ piece ends. omega arith) at) in
            let stays = Contains-filter_append (ends_above pieces line) active (pieces_of waiting) i (passed-EndsFrom pieces line i at) listed in
            Contains-permutation (joined ++ pieces_of rest) (new ++ pieces_of rest) i moved_parts (subst (λ l. Contains l i) same_parts stays);
      }

  -- those that are left end above the line
  pub EndsFrom-activate : (extent : Rect) → All (λ piece. IsRectangleIn extent piece.rect) pieces → All (HasPiece pieces (EndsFrom (line + 1))) new
  EndsFrom-activate extent legal =
      let Ends : ℕ → Type 0 = HasPiece pieces (EndsFrom (line + 1)) in
      let stay = All-weaker (λ i. ends_above pieces line i ≡ true) Ends (EndsFrom-passed pieces line) kept (filter_passes (ends_above pieces line) active) in
      let started_ahead = All-append_left (λ (start : Start). line ≤ start.bottom) join.started rest (subst (All (λ start. line ≤ start.bottom)) join.parted parted.ahead) in
      let ahead = waiting_ahead line pieces join.started (All-append_left (NamesPiece pieces) join.started rest named_parts) started_ahead in
      let begin = All-weaker (HasPiece pieces (StartsFrom line)) Ends
      (λ i. HasPiece-all pieces (λ piece. IsRectangleIn extent piece.rect) (StartsFrom line) (EndsFrom (line + 1)) i legal (λ piece rectangle from. omega (arith, rectangle.tall)))
      (pieces_of join.started) ahead in
      All-new Ends stay begin

-- up to the next line at which a piece begins nothing changes
pub ArePartedAt-up :
    (line next : ℕ) (pieces : List Piece) (active : List ℕ) (waiting : List Start) → ArePartedAt (line + 1) pieces active waiting → line < next
    → All (λ piece. line < piece.rect.bottom → next ≤ piece.rect.bottom) pieces → ArePartedAt next pieces active waiting
ArePartedAt-up line next pieces active waiting parted above between =
    let Rises : Piece → Type 0 = λ piece. line < piece.rect.bottom → next ≤ piece.rect.bottom in
    record {
      started = HasPiece-weaker pieces (StartsBelow (line + 1)) (StartsBelow next) active (λ piece below. omega arith) parted.started;
      named = parted.named;
      ahead = λ k d within. start_from_piece pieces _ Rises _ between (λ piece rises is. omega (arith, is, rises, parted.ahead k d within)) (parted.named k d within);
      ordered = parted.ordered;
      once = parted.once;
      whole = λ i at. parted.whole i (IsSomeAnd-weaker _ (EndsFrom next) (EndsFrom (line + 1)) (λ piece ends. omega arith) at);
    }

-- at a line below which no piece begins all are waiting
pub ArePartedAt-starts :
    (line : ℕ) (pieces : List Piece) (starts : List Start) → AreStarts pieces starts → All (StartsFrom line) pieces → ArePartedAt line pieces [] starts
ArePartedAt-starts line pieces starts all from = record {
  started = All-nil (HasPiece pieces (StartsBelow line));
  named = all.named;
  ahead = λ k d within. start_from_piece pieces _ (StartsFrom line) _ from (λ piece at is. omega arith) (all.named k d within);
  ordered = all.ordered;
  once = all.once;
  whole = λ i at. all.whole i (within-from_IsSomeAnd pieces i (EndsFrom line) at);
}
