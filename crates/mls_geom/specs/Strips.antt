-- Maximal horizontal strips (Ousterhout 1984). The run of a square is the longest part of its row round it of one kind; its strip is
-- the greatest range of rows round it in which the run has the same ends and the same kind. An extent is the world or a part of it:
-- runs and strips end at its lines.
use Rattle.std.specs.Prelude.{◌≡◌, ◌≢◌, ℕ, ◌-◌, ◌<◌, ◌≤◌, Bool, ◌&&◌, ◌||◌, ◌==◌, nat_lt, IsTrue, List}
use Rattle.std.specs.List.{All, Any, AllPairs}
use Rattle.mls_geom.specs.Rects.{Rect, holds}
use Rattle.mls_geom.specs.Pictures.{Picture}
use Rattle.mls_geom.specs.declared.piece.Piece.{Piece}

-- in row y the squares from the line left to the line right are a run of this kind
pub record IsRun (extent : Rect) (picture : Picture) (left right y kind : ℕ) : Type 0 where
  pub from : extent.left ≤ left
  pub wide : left < right
  pub to : right ≤ extent.right
  pub one_kind : (x : ℕ) → left ≤ x → x < right → picture x y ≡ kind
  pub ends_left : extent.left < left → picture (left - 1) y ≢ kind
  pub ends_right : right < extent.right → picture right y ≢ kind

-- the piece is a strip: in each of its rows its squares are a run, and in the rows below and above they are not
pub record IsStrip (extent : Rect) (picture : Picture) (piece : Piece) : Type 0 where
  pub from : extent.bottom ≤ piece.rect.bottom
  pub tall : piece.rect.bottom < piece.rect.top
  pub to : piece.rect.top ≤ extent.top
  pub rows : (y : ℕ) → piece.rect.bottom ≤ y → y < piece.rect.top → IsRun extent picture piece.rect.left piece.rect.right y piece.kind
  pub ends_below : extent.bottom < piece.rect.bottom → ¬ (IsRun extent picture piece.rect.left piece.rect.right (piece.rect.bottom - 1) piece.kind)
  pub ends_above : piece.rect.top < extent.top → ¬ (IsRun extent picture piece.rect.left piece.rect.right piece.rect.top piece.kind)

-- by bottom and then left
abbrev pub comes_before : Piece → Piece → Bool
comes_before p q = nat_lt p.rect.bottom q.rect.bottom || (p.rect.bottom == q.rect.bottom && nat_lt p.rect.left q.rect.left)

-- the list has the strips of the picture in the extent, in order, each once
pub record AreStrips (extent : Rect) (picture : Picture) (list : List Piece) : Type 0 where
  pub each : All (IsStrip extent picture) list
  pub whole : (x y : ℕ) → IsTrue (holds extent x y) → Any (λ piece. IsTrue (holds piece.rect x y)) list
  pub ordered : AllPairs (λ p q. IsTrue (comes_before p q)) list
