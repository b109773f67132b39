use Rattle.std.proofs.Common.{◌≡◌, ℕ, true}
use Rattle.mls_geom.specs.Rects.{holds}
use Rattle.mls_layout.specs.Grids.{grid_picture}
use Rattle.mls_layout.specs.Inner.{later_uses}
use Rattle.mls_layout.specs.Uses.{cell_layouts, over, uses_layout}
use Rattle.mls_layout.proofs.flattening.flatten.Given as goal

-- the grid, with the uses to come over it, shows what all uses do
abbrev pub invariant-loop-index : goal.invariant-loop-index
invariant-loop-index l = record {
  painted :
      (x y : ℕ) → holds l.block x y ≡ true
      → over (later_uses l.fn.workspace.pool l.uses l.index l.number) (grid_picture l.workspace.grid l.block) x y
      ≡ uses_layout (cell_layouts l.fn.workspace.pool l.uses.library.now) l.uses.list.now l.number x y;
  pool : l.workspace.pool ≡ l.fn.workspace.pool;
}
