-- The strips of the rows below a line, as the sweep upward keeps them.
use Rattle.std.specs.Prelude.{◌≡◌, ℕ, ◌-◌, ◌<◌, ◌≤◌, List, [], length, slice_get, IsSomeAnd}
use Rattle.std.specs.List.{All}
use Rattle.mls_geom.specs.Rects.{Rect}
use Rattle.mls_geom.specs.Pictures.{Picture}
use Rattle.mls_geom.specs.Sweep.Rows.{AreRuns}
use Rattle.mls_geom.specs.Locality.{AreCoveredStrips, covered_count}
use Rattle.mls_geom.specs.declared.piece.Piece.{Piece}
use Rattle.mls_geom.specs.declared.run.Run.{Run}

-- the part of the extent below the line y
abbrev pub up_to : ℕ → Rect → Rect
up_to y e = record { left = e.left; bottom = e.bottom; right = e.right; top = y }

-- the piece is the strip that the run belongs to, as far as it reaches below the line y
pub record ReachesUp (y : ℕ) (run : Run) (strip : Piece) : Type 0 where
  pub left : strip.rect.left ≡ run.left
  pub right : strip.rect.right ≡ run.right
  pub top : strip.rect.top ≡ y
  pub kind : strip.kind ≡ run.kind

-- each run names the strip that it belongs to
abbrev pub NameStrips : ℕ → List Piece → List Run → Type 0
NameStrips y strips runs = All (λ run. IsSomeAnd (slice_get strips run.strip) (ReachesUp y run)) runs

-- the strips are those of the covered squares below the line y, and the runs are those of the row just below it, each with the strip that it belongs to
pub record AreStacked (extent : Rect) (picture : Picture) (y : ℕ) (strips : List Piece) (below : List Run) : Type 0 where
  pub laid : AreCoveredStrips (up_to y extent) picture strips
  pub count : length strips ≡ covered_count (up_to y extent) picture
  pub first : y ≤ extent.bottom → below ≡ []
  pub runs : extent.bottom < y → AreRuns extent picture (y - 1) below
  pub named : NameStrips y strips below

-- the rows from one line up to the next are alike
abbrev pub AreAlike : Rect → Picture → ℕ → ℕ → Type 0
AreAlike extent picture bottom top = (x y : ℕ) → extent.left ≤ x → x < extent.right → bottom ≤ y → y < top → picture x y ≡ picture x bottom

-- the strip, extended up to another line
abbrev pub extended : ℕ → Piece → Piece
extended top strip = record { rect = record { left = strip.rect.left; bottom = strip.rect.bottom; right = strip.rect.right; top = top }; kind = strip.kind }

-- the strip that a run starts, from one line up to another
abbrev pub new_strip : ℕ → ℕ → Run → Piece
new_strip bottom top run = record { rect = record { left = run.left; bottom = bottom; right = run.right; top = top }; kind = run.kind }

-- the run has the ends and the kind of another, which lies below it
pub record StandsOn (run under : Run) : Type 0 where
  pub left : under.left ≡ run.left
  pub right : under.right ≡ run.right
  pub kind : under.kind ≡ run.kind
