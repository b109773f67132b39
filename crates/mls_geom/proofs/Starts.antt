-- Where pieces begin.
use Rattle.mls_geom.proofs.Common.{◌≡◌, ℕ, ◌+◌, ◌<◌, ◌≤◌, true, false, leb, List, ◌∷◌, [], ◌++◌, get_or, length, take, drop, slice_get, All, refl, sym, ap, ◌∙◌, arith, range_with_len, IsNonDecreasingBy, IsPartitionPoint, IsPermutation, leb-true, leb-false, append_assoc, map-append, map_push, take-append-drop, get_or-take, get_or-drop, length-take, length-drop, length-map, All-map, All-push, All-weaker, length-range_with_len, get_or-range_with_len, All-permutation, Contains-permutation, IsPermutation-map, length_permutation, slice_get_read}
use Rattle.mls_geom.proofs.Definitions.{AreStarts, StartsBelow, HasPiece, AddsStarted, NamesPiece, Start, Piece}
use Rattle.mls_geom.specs.Sweep.ActivePieces.{pieces_of}
use Rattle.mls_geom.proofs.ListLemmas.{IsDistinct-moved, IsDistinct-range_with_len, IsSomeAnd-all, IsSomeAnd-both, IsSomeAnd-const, IsSomeAnd-weaker, range_with_len_more}

-- the piece begins at the line or above it
abbrev pub StartsFrom : ℕ → Piece → Type 0
StartsFrom line piece = line ≤ piece.rect.bottom

-- what follows for the pieces at some indices
pub HasPiece-weaker :
    (pieces : List Piece) (P Q : Piece → Type 0) (indices : List ℕ) → ((piece : Piece) → P piece → Q piece) → All (HasPiece pieces P) indices
    → All (HasPiece pieces Q) indices
HasPiece-weaker pieces P Q indices weaker = All-weaker (HasPiece pieces P) (HasPiece pieces Q) (λ i. IsSomeAnd-weaker (slice_get pieces i) P Q weaker) indices

-- what follows for the piece at an index from what holds of all
pub HasPiece-all :
    (pieces : List Piece) (P Q R : Piece → Type 0) (i : ℕ) → All P pieces → ((piece : Piece) → P piece → Q piece → R piece) → HasPiece pieces Q i
    → HasPiece pieces R i
HasPiece-all pieces P Q R i all both at = IsSomeAnd-both (slice_get pieces i) P Q R both (IsSomeAnd-all pieces i P Q all at) at

-- the start of the piece at an index
NamesPiece-at :
    (pieces : List Piece) (i bottom : ℕ) (piece : Piece) → i < length pieces → piece ≡ get_or pieces i piece → bottom ≡ piece.rect.bottom
    → NamesPiece pieces (record { bottom = bottom; piece = i })
NamesPiece-at pieces i bottom piece within at is = rw (slice_get_read pieces (length pieces) i piece refl within at) (sym is)

-- one start more
pub NamesPiece-more :
    (pieces : List Piece) (i bottom : ℕ) (piece : Piece) (starts : List Start) → i < length pieces → piece ≡ get_or pieces i piece → bottom ≡ piece.rect.bottom
    → All (NamesPiece pieces) starts → All (NamesPiece pieces) (starts ++ record { bottom = bottom; piece = i } ∷ [])
NamesPiece-more pieces i bottom piece starts within at is named =
    All-push (NamesPiece pieces) starts _ named (NamesPiece-at pieces i bottom piece within at is)

pub pieces_of-more :
    (starts : List Start) (i bottom : ℕ) → pieces_of starts ≡ range_with_len 0 i
    → pieces_of (starts ++ record { bottom = bottom; piece = i } ∷ []) ≡ range_with_len 0 (i + 1)
pieces_of-more starts i bottom each = map_push (λ (start : Start). start.piece) starts _ ∙ ap (λ l. l ++ i ∷ []) each ∙ sym (range_with_len_more i)

-- sorting keeps what the starts name
pub AreStarts-sorted :
    (pieces : List Piece) (listed starts : List Start) → All (NamesPiece pieces) listed → pieces_of listed ≡ range_with_len 0 (length pieces)
    → IsPermutation listed starts → IsNonDecreasingBy (λ start. start.bottom) starts → AreStarts pieces starts
AreStarts-sorted pieces listed starts named each moved ordered =
    let n = length pieces in
    let moved_pieces = IsPermutation-map (λ (start : Start). start.piece) listed starts moved in
    let long = length-map listed (λ (start : Start). start.piece) in
    record {
      named = All-permutation (NamesPiece pieces) listed starts moved named;
      ordered = ordered;
      len = omega (arith, length_permutation listed starts moved, long, ap length each, length-range_with_len 0 n);
      once = IsDistinct-moved (pieces_of listed) (pieces_of starts) moved_pieces (rw each (IsDistinct-range_with_len 0 n));
      whole = λ i within.
          let there = get_or-range_with_len 0 n i i within in
          Contains-permutation (pieces_of listed) (pieces_of starts) i moved_pieces (rw each (i, omega (arith, length-range_with_len 0 n), omega (arith, there)));
    }

-- what the bottom line of its piece says of a start
pub start_from_piece :
    (pieces : List Piece) (start : Start) (P : Piece → Type 0) (Q : Type 0) → All P pieces → ((piece : Piece) → P piece → piece.rect.bottom ≡ start.bottom → Q)
    → NamesPiece pieces start → Q
start_from_piece pieces start P Q all then named =
    IsSomeAnd-const (slice_get pieces start.piece) Q (HasPiece-all pieces P (λ piece. piece.rect.bottom ≡ start.bottom) (λ _. Q) start.piece all then named)

-- what a start says of its piece
pieces_from_starts :
    (pieces : List Piece) (starts : List Start) (P : ℕ → Type 0) → All (NamesPiece pieces) starts → All (λ start. P start.bottom) starts
    → All (HasPiece pieces (λ piece. P piece.rect.bottom)) (pieces_of starts)
pieces_from_starts pieces starts P named says =
    All-map (HasPiece pieces (λ piece. P piece.rect.bottom)) (λ (start : Start). start.piece) starts
    (λ k d within.
    IsSomeAnd-weaker _ (λ piece. piece.rect.bottom ≡ (get_or starts k d).bottom) (λ piece. P piece.rect.bottom) (λ piece is. rw is (says k d within)) (named k d within))

pub waiting_ahead :
    (line : ℕ) (pieces : List Piece) (waiting : List Start) → All (NamesPiece pieces) waiting → All (λ start. line ≤ start.bottom) waiting
    → All (HasPiece pieces (StartsFrom line)) (pieces_of waiting)
waiting_ahead line pieces waiting = pieces_from_starts pieces waiting (λ bottom. line ≤ bottom)

pub started_below :
    (line : ℕ) (pieces : List Piece) (started : List Start) → All (NamesPiece pieces) started → All (λ start. start.bottom ≤ line) started
    → All (HasPiece pieces (StartsBelow (line + 1))) (pieces_of started)
started_below line pieces started named reached =
    HasPiece-weaker pieces (λ piece. piece.rect.bottom ≤ line) (StartsBelow (line + 1)) (pieces_of started) (λ piece at. omega arith)
    (pieces_from_starts pieces started (λ bottom. bottom ≤ line) named reached)

-- what a search for the line in the starts parts
pub AddsStarted-partition :
    (line : ℕ) (waiting : List Start) (reached : ℕ) (old new : List ℕ) → reached ≤ length waiting
    → IsPartitionPoint (λ start. leb start.bottom line ≡ true) (λ start. leb start.bottom line ≡ false) waiting reached
    → new ≡ old ++ pieces_of (take reached waiting) → AddsStarted line waiting (drop reached waiting) old new
AddsStarted-partition line waiting reached old new within parts joined = record {
  started = take reached waiting;
  parted = sym (take-append-drop reached waiting);
  joined = joined;
  reached = λ k d in_front.
      let below : k < reached = omega (arith, length-take reached waiting) in
      rw (get_or-take reached waiting k d) (leb-true _ line (parts.0 k d (omega arith) below));
  ahead = λ k d behind.
      rw (get_or-drop reached waiting k d) (leb-false _ line (parts.1 (reached + k) d (omega arith) (omega (arith, length-drop reached waiting))));
}

-- those that joined and those that wait are those that waited
pub AddsStarted-all :
    (line : ℕ) (waiting rest : List Start) (old new : List ℕ) → AddsStarted line waiting rest old new → old ++ pieces_of waiting ≡ new ++ pieces_of rest
AddsStarted-all line waiting rest old new join =
    rw (join.parted, join.joined, map-append (λ (start : Start). start.piece) join.started rest) (sym (append_assoc old (pieces_of join.started) (pieces_of rest)))
