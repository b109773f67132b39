use Rattle.std.proofs.Common.{refl, subst, take, arith, take_all}
use Rattle.std.proofs.lemmas.List.Elements.{All-push}
use Rattle.mls_errorplane.proofs.Common.{LaidTile, Rect, RunsThrough}
use Rattle.mls_checker.proofs.Prefixes.{take_next}
use Rattle.mls_errorplane.proofs.carrying.all_run_through.Goals as goal

pub loop-tile-preserved : goal.loop-tile-preserved
loop-tile-preserved c =
    let tiles = c.args.tiles.now in
    let tile = c.tile-item.result in
    let runs = subst (λ (e : Rect). RunsThrough e tile.piece.rect) c.area-lines.ensures.value
    (subst (λ (e : Rect). RunsThrough c.area-lines.result e) c.area.ensures.value (c.if-not-runs_through.ensures refl)) in
    rw (take_next tiles c.loop-tile.tile-index tile (omega arith) c.tile-item.is)
    (All-push (λ (t : LaidTile). RunsThrough c.args.rect t.piece.rect) (take c.loop-tile.tile-index tiles) tile c.loop-tile.invariant runs)

pub returns : goal.returns
returns c = λ _. rw (take_all c.loop-tile.tile-index c.args.tiles.now (omega arith)) at c.loop-tile.invariant
