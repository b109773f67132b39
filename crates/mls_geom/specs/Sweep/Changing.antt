-- A row while it is changed from left to right, and the slots of some marks with the runs that they meet or touch.
use Rattle.std.specs.Prelude.{◌≡◌, ◌≢◌, ℕ, ◌+◌, ◌-◌, ◌<◌, ◌≤◌, ◌==◌, ◌⊎◌, ◌↔◌, nat_lt, if◌then◌else◌, Bool, false, nat_le, IsTrue, List, slice_get, [], length, map, slice_index, slice_index_or}
use Rattle.std.specs.List.{All, AllPairs, AllWithin, Any, Contains, HoldsAt, range_with_len, sum_by}
use Rattle.std.specs.Option.{option_map_or}
use Rattle.mls_geom.specs.Rects.{Rect, holds}
use Rattle.mls_geom.specs.Pictures.{Picture}
use Rattle.mls_geom.specs.Locality.{covered_count, is_covered_corner, uncovered}
use Rattle.mls_geom.specs.Strips.{IsRun, IsStrip, comes_before}
use Rattle.mls_geom.specs.Sweep.KeptRows.{ShowsRow, run_of, strip_at}
use Rattle.mls_geom.specs.Sweep.Rows.{AreRuns}
use Rattle.mls_geom.specs.Sweep.Stacks.{AreAlike, extended, up_to}
use Rattle.mls_geom.specs.Sweep.Trees.{IsTree}
use Rattle.mls_geom.specs.World.{world}
use Rattle.mls_geom.specs.declared.part.Span.{Span}
use Rattle.mls_geom.specs.declared.piece.Piece.{Piece}
use Rattle.mls_geom.specs.declared.run.Run.{Run}
use Rattle.mls_geom.specs.declared.tree.Tree.{Tree}

-- 1 at a covered corner, and 0 elsewhere
abbrev pub corner_at : Rect → Picture → ℕ → ℕ → ℕ
corner_at extent picture y x = if is_covered_corner extent picture x y then 1 else 0

-- the covered corners of a row in the columns from one line up to another
abbrev pub corners_between : Rect → Picture → ℕ → ℕ → ℕ → ℕ
corners_between extent picture y low high = sum_by (corner_at extent picture y) (range_with_len low (high - low))

-- the piece has the square
abbrev pub HasSquare : ℕ → ℕ → Piece → Type 0
HasSquare x y piece = IsTrue (holds piece.rect x y)

-- the strips of the columns left of a line are done, and those of the others still to do
pub record IsPartlyStacked (extent : Rect) (picture : Picture) (bottom top column : ℕ) (strips : List Piece) : Type 0 where
  pub done : All (λ strip. strip.rect.left < column → IsStrip (up_to top extent) picture strip) strips
  pub to_do : All (λ strip. column ≤ strip.rect.left → IsStrip (up_to bottom extent) picture strip) strips
  pub low : All (λ strip. strip.rect.bottom ≤ bottom) strips
  pub covered : All (λ strip. strip.kind ≢ uncovered) strips
  pub below : (x y : ℕ) → IsTrue (holds (up_to bottom extent) x y) → picture x y ≢ uncovered → Any (HasSquare x y) strips
  pub beside : (x y : ℕ) → extent.left ≤ x → x < column → bottom ≤ y → y < top → picture x bottom ≢ uncovered → Any (HasSquare x y) strips
  pub ordered : AllPairs (λ p q. IsTrue (comes_before p q)) strips
  pub count : length strips ≡ covered_count (up_to bottom extent) picture + corners_between extent picture bottom extent.left column

-- a band of rows that are alike
pub record IsBand (extent : Rect) (picture : Picture) (bottom top : ℕ) : Type 0 where
  pub from : extent.bottom ≤ bottom
  pub tall : bottom < top
  pub alike : AreAlike extent picture bottom top

-- the runs are those of the covered squares of row y left of the line, and none goes on there
pub record AreRunsBefore (extent : Rect) (picture : Picture) (y line : ℕ) (runs : List Run) : Type 0 where
  pub each : All (λ run. IsRun extent picture run.left run.right y run.kind) runs
  pub covered : All (λ run. run.kind ≢ uncovered) runs
  pub whole : (x : ℕ) → extent.left ≤ x → x < line → picture x y ≢ uncovered → Any (λ run. (run.left ≤ x) × (x < run.right)) runs
  pub ordered : AllPairs (λ p q. p.right ≤ q.left) runs
  pub before : All (λ run. run.right ≤ line) runs

-- a strip that reaches on goes up to the band's top line if it begins left of the column, and else to its bottom line
abbrev pub staged : ℕ → ℕ → ℕ → Piece → Piece
staged bottom top column strip =
    if strip.rect.top == world.top then extended (if nat_lt strip.rect.left column then top else bottom) strip else strip

-- the strip of a run of the row
abbrev pub strip_of : List Piece → List ℕ → ℕ → Piece
strip_of strips row n = strip_at strips (slice_index_or row n 0)

-- left of the column the row is changed. Of the runs below, the first ones are passed, those after them up to another index are ended,
-- and the others still reach on
pub record IsChanging (picture : Picture) (bottom top column : ℕ) (strips : List Piece) (row next : List ℕ) (passed open_from : ℕ) : Type 0 where
  pub band : IsBand world picture bottom top
  pub to : top ≤ world.top
  pub from : world.left ≤ column
  pub onward : passed ≤ open_from
  pub within : open_from ≤ length row
  pub partly : IsPartlyStacked world picture bottom top column (map (staged bottom top column) strips)
  pub runs_below : world.bottom < bottom → AreRuns world picture (bottom - 1) (map (run_of strips) row)
  pub none_below : bottom ≤ world.bottom → row ≡ []
  pub runs : AreRunsBefore world picture bottom column (map (run_of strips) next)
  pub known : All (λ k. k < length strips) row
  pub reaching : All (λ k. (k < length strips) × ((strip_at strips k).rect.top ≡ world.top)) next
  pub passed_by : AllWithin (λ k. (strip_at strips k).rect.left < column) row 0 passed
  pub ended_here : AllWithin (λ k. Contains next k ⊎ ((strip_at strips k).rect.top ≡ bottom)) row passed open_from
  pub open_right : AllWithin (λ k. ((strip_at strips k).rect.top ≡ world.top) × (column ≤ (strip_at strips k).rect.left)) row open_from (length row)
  pub ended : (k : ℕ) → k < length strips → ¬ (Contains next k) → AllWithin (λ other. other ≢ k) row open_from (length row)
      → (strip_at strips k).rect.top ≤ bottom

-- the runs of a row, each by its strip
abbrev pub runs_of : List Piece → List ℕ → List Run
runs_of strips row = map (run_of strips) row

-- the runs stand from left to right, none on another
pub record AreInOrder (runs : List Run) : Type 0 where
  pub wide : All (λ run. run.left < run.right) runs
  pub ordered : AllPairs (λ p q. p.right ≤ q.left) runs

-- the mark and each run that meets or touches it begin right of the line
pub record IsClear (lines : List ℕ) (runs : List Run) (line : ℕ) (mark : Span) : Type 0 where
  pub begins : line < slice_index lines mark.first
  pub others : All (λ run. slice_index lines mark.first ≤ run.right → run.left ≤ slice_index lines mark.end → line < run.left) runs

-- the slots are those of the mark and of the runs that meet or touch it
pub record IsChangeOf (lines : List ℕ) (runs : List Run) (mark slots met : Span) : Type 0 where
  pub within : slots.end < length lines
  pub first : slots.first ≤ mark.first
  pub end : mark.end ≤ slots.end
  pub onward : met.first ≤ met.end
  pub met_within : met.end ≤ length runs
  pub apart_left : AllWithin (λ run. run.right < slice_index lines mark.first) runs 0 met.first
  pub apart_right : AllWithin (λ run. slice_index lines mark.end < run.left) runs met.end (length runs)
  pub left_out : AllWithin (λ run. run.right ≤ slice_index lines slots.first) runs 0 met.first
  pub left_in : AllWithin (λ run. slice_index lines slots.first ≤ run.left) runs met.first (length runs)
  pub right_in : AllWithin (λ run. run.right ≤ slice_index lines slots.end) runs 0 met.end
  pub right_out : AllWithin (λ run. slice_index lines slots.end ≤ run.left) runs met.end (length runs)
  pub clear : (line : ℕ) → line < slice_index lines slots.first ↔ IsClear lines runs line mark

-- the slots are those of the marks from one index up to another and of the runs that meet or touch them
pub record AreMet (lines : List ℕ) (runs : List Run) (marks : List Span) (from to : ℕ) (slots met : Span) : Type 0 where
  pub more : from < to
  pub to_within : to ≤ length marks
  pub wide : slots.first < slots.end
  pub within : slots.end < length lines
  pub onward : met.first ≤ met.end
  pub met_within : met.end ≤ length runs
  pub first : AllWithin (λ mark. slots.first ≤ mark.first) marks from (length marks)
  pub end : AllWithin (λ mark. mark.end ≤ slots.end) marks from to
  pub apart_left : AllWithin (λ mark. AllWithin (λ run. run.right < slice_index lines mark.first) runs 0 met.first) marks from (length marks)
  pub apart_right : AllWithin (λ mark. AllWithin (λ run. slice_index lines mark.end < run.left) runs met.end (length runs)) marks from to
  pub left_out : AllWithin (λ run. run.right ≤ slice_index lines slots.first) runs 0 met.first
  pub left_in : AllWithin (λ run. slice_index lines slots.first ≤ run.left) runs met.first (length runs)
  pub right_in : AllWithin (λ run. run.right ≤ slice_index lines slots.end) runs 0 met.end
  pub right_out : AllWithin (λ run. slice_index lines slots.end ≤ run.left) runs met.end (length runs)
  pub begins : (line : ℕ) → HoldsAt (IsClear lines runs line) marks from → line < slice_index lines slots.first

-- and no later mark meets or touches these slots, nor does a run that meets or touches one
pub record IsChange (lines : List ℕ) (runs : List Run) (marks : List Span) (from to : ℕ) (slots met : Span) : Type 0 where
  pub all : AreMet lines runs marks from to slots met
  pub next : to < length marks → HoldsAt (IsClear lines runs (slice_index lines slots.end)) marks to

-- no run of the row goes on across the line
abbrev pub IsEnd : Picture → ℕ → ℕ → Type 0
IsEnd picture y line = world.left < line → line < world.right → picture (line - 1) y ≡ picture line y → picture line y ≡ uncovered

-- the tree shows the row, and at both ends of the slots each run ends
pub record ShowsSlots (tree : Tree) (lines : List ℕ) (picture : Picture) (present : ℕ → Bool) (y : ℕ) (slots : Span) : Type 0 where
  pub is : IsTree tree present
  pub shows : ShowsRow tree.segments.items present lines picture y
  pub left : IsEnd picture y (slice_index lines slots.first)
  pub right : IsEnd picture y (slice_index lines slots.end)

-- the strip that the index names ends before the line
abbrev pub ends_before : List Piece → ℕ → ℕ → Bool
ends_before strips line k = option_map_or (λ (strip : Piece). nat_lt strip.rect.right line) (slice_get strips k) false

-- it begins before the line, or at it
abbrev pub begins_by : List Piece → ℕ → ℕ → Bool
begins_by strips line k = option_map_or (λ (strip : Piece). nat_le strip.rect.left line) (slice_get strips k) false
