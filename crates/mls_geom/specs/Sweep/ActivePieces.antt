-- The pieces that a sweep upward meets.
use Rattle.std.specs.Prelude.{◌≡◌, ℕ, ◌<◌, ◌≤◌, nat_eq, nat_lt, Bool, false, List, ◌++◌, map, length, slice_get, IsSomeAnd}
use Rattle.std.specs.List.{All, Contains, IsDistinct}
use Rattle.std.specs.List.Sorted.{IsNonDecreasingBy}
use Rattle.std.specs.Option.{option_map_or}
use Rattle.mls_geom.specs.declared.active.Start.{Start}
use Rattle.mls_geom.specs.declared.piece.Piece.{Piece}

-- the list has a piece at this index, and P holds of it
abbrev pub HasPiece : List Piece → (Piece → Type 0) → ℕ → Type 0
HasPiece pieces P i = IsSomeAnd (slice_get pieces i) P

-- the piece starts below the line
abbrev pub StartsBelow : ℕ → Piece → Type 0
StartsBelow line piece = piece.rect.bottom < line

-- the piece ends at the line or above it
abbrev pub EndsFrom : ℕ → Piece → Type 0
EndsFrom line piece = line ≤ piece.rect.top

-- the piece at this index ends above the line
abbrev pub ends_above : List Piece → ℕ → ℕ → Bool
ends_above pieces line i = option_map_or (λ piece. nat_lt line piece.rect.top) (slice_get pieces i) false

-- the indices of the pieces
abbrev pub pieces_of : List Start → List ℕ
pieces_of starts = map (λ start. start.piece) starts

-- the start names a piece and its bottom line
abbrev pub NamesPiece : List Piece → Start → Type 0
NamesPiece pieces start = HasPiece pieces (λ piece. piece.rect.bottom ≡ start.bottom) start.piece

-- where the pieces begin, from the bottom up, each once
pub record AreStarts (pieces : List Piece) (starts : List Start) : Type 0 where
  pub named : All (NamesPiece pieces) starts
  pub ordered : IsNonDecreasingBy (λ start. start.bottom) starts
  pub len : length starts ≡ length pieces
  pub once : IsDistinct nat_eq (pieces_of starts)
  pub whole : (i : ℕ) → i < length pieces → Contains (pieces_of starts) i

-- the line parts the starts, and the pieces that begin there or below have joined the others
pub record AddsStarted (line : ℕ) (waiting rest : List Start) (old new : List ℕ) : Type 0 where
  pub started : List Start
  pub parted : waiting ≡ started ++ rest
  pub joined : new ≡ old ++ pieces_of started
  pub reached : All (λ start. start.bottom ≤ line) started
  pub ahead : All (λ start. line < start.bottom) rest

-- the line parts the pieces: the active ones begin below it, and the others are waiting. Those that end below it may be left out
pub record ArePartedAt (line : ℕ) (pieces : List Piece) (active : List ℕ) (waiting : List Start) : Type 0 where
  pub started : All (HasPiece pieces (StartsBelow line)) active
  pub named : All (NamesPiece pieces) waiting
  pub ahead : All (λ start. line ≤ start.bottom) waiting
  pub ordered : IsNonDecreasingBy (λ start. start.bottom) waiting
  pub once : IsDistinct nat_eq (active ++ pieces_of waiting)
  pub whole : (i : ℕ) → HasPiece pieces (EndsFrom line) i → Contains (active ++ pieces_of waiting) i
