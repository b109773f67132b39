-- The runs of one row, as the code lists them, and the pieces that a row meets.
use Rattle.std.specs.Prelude.{◌≢◌, ℕ, ◌<◌, ◌≤◌, ◌↔◌, List, slice_get, IsSomeAnd}
use Rattle.std.specs.List.{All, Any, AllPairs, Contains}
use Rattle.std.specs.List.Sorted.{IsStrictlyIncreasing}
use Rattle.mls_geom.specs.Rects.{Rect}
use Rattle.mls_geom.specs.Locality.{uncovered}
use Rattle.mls_geom.specs.Pictures.{Picture}
use Rattle.mls_geom.specs.Strips.{IsRun}
use Rattle.mls_geom.specs.declared.piece.Piece.{Piece}
use Rattle.mls_geom.specs.declared.run.Run.{Run}

-- the indices of the pieces that have squares in row y, in ascending order
pub record AreActive (pieces : List Piece) (y : ℕ) (active : List ℕ) : Type 0 where
  pub ascending : IsStrictlyIncreasing active
  pub members : (i : ℕ) → Contains active i ↔ IsSomeAnd (slice_get pieces i) (λ piece. (piece.rect.bottom ≤ y) × (y < piece.rect.top))

-- the list has the runs of the covered squares of row y, from left to right
pub record AreRuns (extent : Rect) (picture : Picture) (y : ℕ) (runs : List Run) : Type 0 where
  pub each : All (λ run. IsRun extent picture run.left run.right y run.kind) runs
  pub covered : All (λ run. run.kind ≢ uncovered) runs
  pub whole : (x : ℕ) → extent.left ≤ x → x < extent.right → picture x y ≢ uncovered → Any (λ run. (run.left ≤ x) × (x < run.right)) runs
  pub ordered : AllPairs (λ p q. p.right ≤ q.left) runs
