use Rattle.std.proofs.Common.{take, refl, sym, subst, arith}
use Rattle.std.proofs.lemmas.Bool.{false≢true}
use Rattle.std.proofs.lemmas.List.{take_all}
use Rattle.std.proofs.lemmas.List.Elements.{All-push}
use Rattle.mls_layout.specs.Grids.{grid_picture}
use Rattle.mls_checker.specs.FlatZones.{HasTileIn}
use Rattle.mls_checker.proofs.Prefixes.{take_next}
use Rattle.mls_checker.proofs.zone_blocks.has_tiles.Goals as goal

pub returns-then-not-has_tile : goal.returns-then-not-has_tile
returns-then-not-has_tile c =
    let grid = grid_picture c.args.grid.now c.args.block in
    let tile = c.tile-item.result in (
      λ is. absurd (false≢true is),
      λ all. c.if-not-has_tile.ensures.1 (subst (HasTileIn c.args.block grid) (sym c.tile-item.is) (all c.loop-tile.tile-index tile (omega arith))),
    )

pub loop-tile-preserved : goal.loop-tile-preserved
loop-tile-preserved c =
    let P = HasTileIn c.args.block (grid_picture c.args.grid.now c.args.block) in
    let tiles = c.args.tiles.now in
    rw (take_next tiles c.loop-tile.tile-index c.tile-item.result (omega arith) c.tile-item.is)
    (All-push P (take c.loop-tile.tile-index tiles) c.tile-item.result c.loop-tile.invariant (c.if-not-has_tile.ensures.0 refl))

pub returns : goal.returns
returns c = (λ _. rw (take_all c.loop-tile.tile-index c.args.tiles.now (omega arith)) at c.loop-tile.invariant, λ _. refl)
