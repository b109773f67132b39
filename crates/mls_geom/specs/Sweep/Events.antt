-- Where pieces begin and end, as a sweep upward meets them.
use Rattle.std.specs.Prelude.{◌≡◌, ℕ, ◌<◌, ◌≤◌, ◌⊎◌, nat_lt, nat_le, ◌&&◌, Bool, false, List, slice_get, slice_index, length, map}
use Rattle.std.specs.List.{All, AllPairs, Contains}
use Rattle.std.specs.Option.{option_map_or}
use Rattle.mls_geom.specs.Sweep.ActivePieces.{HasPiece}
use Rattle.mls_geom.specs.Sweep.KeptRows.{IsMarked}
use Rattle.mls_geom.specs.Sweep.Trees.{EndsFirst, IsTop, IsTree, segment_at, with_piece, without_piece}
use Rattle.mls_geom.specs.World.{AreLegal}
use Rattle.mls_geom.specs.declared.chain.Step.{Step}
use Rattle.mls_geom.specs.declared.chain.Step.TheVariants.{Begins, Ends}
use Rattle.mls_geom.specs.declared.events.Event.{Event}
use Rattle.mls_geom.specs.declared.piece.Piece.{Piece}
use Rattle.mls_geom.specs.declared.part.Span.{Span}
use Rattle.mls_geom.specs.declared.segment.Segment.{Segment}
use Rattle.mls_geom.specs.declared.tree.Tree.{Tree}

-- the event stands before another: at a lower line, or at the same one with an earlier piece
abbrev pub IsBefore : Event → Event → Type 0
IsBefore event other = (event.line < other.line) ⊎ ((event.line ≡ other.line) × (event.piece < other.piece))

-- the pieces of the events
abbrev pub pieces_of : List Event → List ℕ
pieces_of events = map (λ event. event.piece) events

-- the events are those at which the pieces have this line, from the line y on, in order
pub record AreEvents (line_of : Piece → ℕ) (y : ℕ) (pieces : List Piece) (events : List Event) : Type 0 where
  pub ordered : AllPairs IsBefore events
  pub named : All (λ event. (y ≤ event.line) × HasPiece pieces (λ piece. line_of piece ≡ event.line) event.piece) events
  pub whole : (i : ℕ) → HasPiece pieces (λ piece. y ≤ line_of piece) i → Contains (pieces_of events) i

-- the lines at which a piece begins and ends
abbrev pub bottom_of : Piece → ℕ
bottom_of piece = piece.rect.bottom

abbrev pub top_of : Piece → ℕ
top_of piece = piece.rect.top

abbrev pub line_of : Step → Piece → ℕ
line_of Begins = bottom_of
line_of Ends = top_of

-- the piece has squares in the row below the line
abbrev pub is_below : List Piece → ℕ → ℕ → Bool
is_below pieces y i = option_map_or (λ piece. nat_lt piece.rect.bottom y && nat_le y piece.rect.top) (slice_get pieces i) false

-- the piece has squares in the row above the line
abbrev pub is_above : List Piece → ℕ → ℕ → Bool
is_above pieces y i = option_map_or (λ piece. nat_le piece.rect.bottom y && nat_lt y piece.rect.top) (slice_get pieces i) false

-- the line meets the piece: its bottom line, its top line or one between them
abbrev pub is_met : List Piece → ℕ → ℕ → Bool
is_met pieces y i = option_map_or (λ piece. nat_le piece.rect.bottom y && nat_le y piece.rect.top) (slice_get pieces i) false

-- the pieces that are present before the steps of a kind at a line, and after them: all that begin there do so before any ends
abbrev pub present_before : Step → List Piece → ℕ → ℕ → Bool
present_before Begins = is_below
present_before Ends = is_met

abbrev pub present_after : Step → List Piece → ℕ → ℕ → Bool
present_after Begins = is_met
present_after Ends = is_above

-- the present pieces once one begins or ends
abbrev pub moved : Step → (ℕ → Bool) → ℕ → ℕ → Bool
moved Begins present piece = with_piece present piece
moved Ends present piece = without_piece present piece

-- the piece may be the next to begin, since it isn't present, or the next to end, since it ends first
abbrev pub IsNext : Step → List Segment → (ℕ → Bool) → ℕ → Type 0
IsNext Begins segments present piece = present piece ≡ false
IsNext Ends segments present piece = EndsFirst segments present piece

-- the segment is the piece, between these lines of columns
pub record IsPlanted (lines : List ℕ) (piece : Piece) (segment : Segment) : Type 0 where
  pub left_in : segment.span.first < length lines
  pub left : slice_index lines segment.span.first ≡ piece.rect.left
  pub right_in : segment.span.end < length lines
  pub right : slice_index lines segment.span.end ≡ piece.rect.right
  pub end : segment.end ≡ piece.rect.top
  pub kind : segment.kind ≡ piece.kind

-- the segments are the pieces, in order
pub record ArePlanted (lines : List ℕ) (pieces : List Piece) (segments : List Segment) : Type 0 where
  pub count : length segments ≡ length pieces
  pub each : (i : ℕ) → i < length pieces → HasPiece pieces (λ piece. IsPlanted lines piece (segment_at segments i)) i

-- the tree has the pieces that are present before the steps at the line, and the events are these steps from the line on
pub record Awaits (step : Step) (lines : List ℕ) (pieces : List Piece) (line : ℕ) (events : List Event) (tree : Tree) : Type 0 where
  pub legal : AreLegal pieces
  pub planted : ArePlanted lines pieces tree.segments.items
  pub steps : AreEvents (line_of step) line pieces events
  pub present : IsTree tree (present_before step pieces line)

-- the marks have each slot whose topmost piece is another one of these pieces than of those
abbrev pub HaveChangedTops : List Span → List Segment → (ℕ → Bool) → (ℕ → Bool) → Type 0
HaveChangedTops marks segments old new = (s rank : ℕ) → ¬ (IsMarked marks s) → IsTop segments old s rank → IsTop segments new s rank
