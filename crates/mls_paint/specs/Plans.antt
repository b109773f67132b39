-- Plans: which tiles of a plane give way to which strips where pieces are painted over it. This project's own.
use Rattle.std.specs.Prelude.{ℕ, List, [], Option, None}
use Rattle.mls_geom.specs.Rects.{Rect}
use Rattle.mls_geom.specs.declared.piece.Piece.{Piece}
use Rattle.mls_stitch.specs.Areas.{AreSearched, ListTouched}
use Rattle.mls_stitch.specs.Tilings.{block_at}
use Rattle.mls_stitch.specs.declared.laid_tile.LaidTile.{LaidTile}
use Rattle.mls_tilepool.specs.Pools.{Pool, tiles_of}

-- how many plans a scratch keeps
abbrev pub most_plans : ℕ
most_plans = 4

-- what a caller sees of a plan: the pieces that are to be painted, the tiles that were found round them, and the area that was searched, if there is
-- one; and how many tiles and pieces there is room for
pub record Plan : Type 0 where
  pub over : List Piece
  pub tiles : List LaidTile
  pub searched : Option Rect
  pub room : ℕ
  pub pieces : ℕ

-- nothing is planned at a place beyond the last
abbrev pub no_plan : Plan
no_plan = record { over = []; tiles = []; searched = None; room = 0; pieces = 0 }

-- the plan is one for the plane of this owner as it is: its tiles are that plane's, and among them all that its pieces touch
pub record IsPlanFor (pool : Pool) (owner : ℕ) (plan : Plan) : Type 0 where
  pub touched : ListTouched (block_at (tiles_of pool owner)) plan.over plan.tiles
  pub searched : AreSearched (block_at (tiles_of pool owner)) plan.searched plan.tiles
