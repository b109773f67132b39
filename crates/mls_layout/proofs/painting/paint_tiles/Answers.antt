use Rattle.std.proofs.Common.{List, if◌then◌else◌, ap, sym, subst, to_z, of_z, w32, ◌∙◌}
use Rattle.std.proofs.lemmas.Int.{to_z-of_z}
use Rattle.std.proofs.lemmas.List.{take_all}
use Rattle.mls_stitch.specs.declared.laid_tile.LaidTile.{LaidTile}
use Rattle.mls_layout.specs.Grids.{Shows, grid_picture}
use Rattle.mls_layout.specs.Moves.{moved_picture}
use Rattle.mls_layout.proofs.PaintedTiles.{painted-all, painted-more, some_dumps}
use Rattle.mls_layout.proofs.painting.paint_tiles.Goals as goal

pub loop-tile-preserved : goal.loop-tile-preserved
loop-tile-preserved c = λ picture has x y inside.
    let tiles = c.args.tiles.now in
    let tile = c.tile-item.result in
    let i = c.loop-tile.tile-index in
    let shows = subst (λ (t : LaidTile). Shows picture t.piece) (sym c.tile-item.is) (has i tile c.loop-tile-test.true) in
    painted-more picture (to_z w32 (of_z w32 c.args.dx)) (to_z w32 (of_z w32 c.args.dy)) tiles i tile x y (grid_picture c.args.grid.now c.args.block x y) _ _ c.loop-tile-test.true c.tile-item.is shows
    (c.loop-tile.invariant picture has x y inside) (c.paint_piece.ensures.painted x y inside)

pub returns : goal.returns
returns c = record {
  painted = λ picture show x y inside.
      let along = c.ranges.dx in
      let up = c.ranges.dy in
      let tiles = c.args.tiles.now in
      let dx = c.args.dx in
      let dy = c.args.dy in
      let so_far = simp to_z-of_z at (c.loop-tile.invariant picture show.each x y inside) in
      let all = ap (λ (list : List LaidTile). if some_dumps list dx dy x y then moved_picture picture dx dy x y else grid_picture c.args.grid.now c.args.block x y)
      (take_all c.loop-tile.tile-index tiles c.loop-tile-test.false) in
      painted-all picture dx dy c.args.block tiles x y show (grid_picture c.args.grid.now c.args.block) _ inside (so_far ∙ all);
}
