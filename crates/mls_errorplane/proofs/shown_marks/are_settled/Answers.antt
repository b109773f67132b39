use Rattle.std.proofs.Common.{take, refl, arith, take_all}
use Rattle.std.proofs.lemmas.List.Elements.{All-push}
use Rattle.mls_errorplane.proofs.Common.{IsSettled, marks}
use Rattle.mls_checker.proofs.Prefixes.{take_next}
use Rattle.mls_errorplane.proofs.shown_marks.are_settled.Goals as goal

pub loop-tile-preserved : goal.loop-tile-preserved
loop-tile-preserved c =
    let tiles = c.args.tiles.now in
    let tile = c.tile-item.result in
    rw (take_next tiles c.loop-tile.tile-index tile (omega arith) c.tile-item.is)
    (All-push (IsSettled c.args.found.now.rect (marks c.args.found.now)) (take c.loop-tile.tile-index tiles) tile c.loop-tile.invariant (c.if-not-is_settled.ensures refl))

pub returns : goal.returns
returns c = λ _. rw (take_all c.loop-tile.tile-index c.args.tiles.now (omega arith)) at c.loop-tile.invariant
