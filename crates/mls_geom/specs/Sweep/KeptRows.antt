-- The row that a sweep upward keeps from band to band. A strip of the row reaches up to the world's top line until its run goes.
use Rattle.std.specs.Prelude.{◌≡◌, ℕ, ◌+◌, ◌-◌, ◌<◌, ◌≤◌, ◌==◌, min, nat_lt, if◌then◌else◌, Bool, Option, Some, None, List, length, map, slice_index, slice_index_or}
use Rattle.std.specs.List.{All, Any, Contains}
use Rattle.mls_geom.specs.Locality.{uncovered}
use Rattle.mls_geom.specs.Pictures.{Picture}
use Rattle.mls_geom.specs.Sweep.Stacks.{AreStacked, extended}
use Rattle.mls_geom.specs.Sweep.Trees.{IsTop, IsTree, kind_shown}
use Rattle.mls_geom.specs.World.{world}
use Rattle.mls_geom.specs.declared.kept_row.KeptRow.{KeptRow}
use Rattle.mls_geom.specs.declared.part.Span.{Span}
use Rattle.mls_geom.specs.declared.piece.Piece.{Piece}
use Rattle.mls_geom.specs.declared.run.Run.{Run}
use Rattle.mls_geom.specs.declared.segment.Segment.{Segment}
use Rattle.mls_geom.specs.declared.tree.Tree.{Tree}

-- a strip of the list
abbrev pub strip_at : List Piece → ℕ → Piece
strip_at strips k = slice_index_or strips k (record { rect = record { left = 0; bottom = 0; right = 0; top = 0 }; kind = 0 })

-- the run of a strip's columns
abbrev pub run_of : List Piece → ℕ → Run
run_of strips k = record { left = (strip_at strips k).rect.left; right = (strip_at strips k).rect.right; kind = (strip_at strips k).kind; strip = k }

-- the strip as far as it reaches below the line
abbrev pub lowered : ℕ → Piece → Piece
lowered y strip = extended (min y strip.rect.top) strip

-- the strips are those of the rows below the line y, and the row names those that reach it
pub record IsKept (picture : Picture) (y : ℕ) (strips : List Piece) (row : List ℕ) : Type 0 where
  pub stacked : AreStacked world picture y (map (lowered y) strips) (map (run_of strips) row)
  pub reaching : All (λ k. (k < length strips) × ((strip_at strips k).rect.top ≡ world.top)) row
  pub ended : (k : ℕ) → k < length strips → ¬ (Contains row k) → (strip_at strips k).rect.top ≤ y

-- a square's kind, if it is covered
abbrev pub kind_if_covered : ℕ → Option ℕ
kind_if_covered kind = if kind == uncovered then None else Some kind

-- the squares of row y show what the slots show in which they lie
abbrev pub ShowsRow : List Segment → (ℕ → Bool) → List ℕ → Picture → ℕ → Type 0
ShowsRow segments present lines picture y =
    (s x rank : ℕ) → s + 1 < length lines → slice_index lines s ≤ x → x < slice_index lines (s + 1)
    → IsTop segments present s rank → kind_shown segments rank ≡ kind_if_covered (picture x y)

-- one of the marks has the slot
abbrev pub IsMarked : List Span → ℕ → Type 0
IsMarked marks s = Any (λ mark. (mark.first ≤ s) × (s < mark.end)) marks

-- marks have slots, and lie between the lines
abbrev pub AreMarks : List ℕ → List Span → Type 0
AreMarks lines marks = All (λ mark. (mark.first < mark.end) × (mark.end < length lines)) marks

-- what the square below shows, or nothing below the world
abbrev pub shown_below : Picture → ℕ → ℕ → ℕ
shown_below picture x y = if nat_lt world.bottom y then picture x (y - 1) else uncovered

-- the marks have each slot in which a square of row y differs from the one below it
abbrev pub HaveChanges : List ℕ → List Span → Picture → ℕ → Type 0
HaveChanges lines marks picture y =
    (s x : ℕ) → s + 1 < length lines → slice_index lines s ≤ x → x < slice_index lines (s + 1)
    → ¬ (IsMarked marks s) → picture x y ≡ shown_below picture x y

-- the kept row is the one below the line, the tree shows the one above it, and the marks have each slot in which they differ
pub record AwaitsChange (tree : Tree) (kept : KeptRow) (picture : Picture) (present : ℕ → Bool) (line : ℕ) : Type 0 where
  pub is : IsTree tree present
  pub below : IsKept picture line kept.strips.items kept.row.items
  pub shows : ShowsRow tree.segments.items present kept.lines.items picture line
  pub changes : HaveChanges kept.lines.items kept.marks.items picture line
