use Rattle.mls_errorplane.proofs.FoundTotals.{marked_count-total}
use Rattle.mls_errorplane.proofs.marks.count_shown.Goals as goal

pub returns-in-Some-clause-value : goal.returns-in-Some-clause-value
returns-in-Some-clause-value c =
    marked_count-total c.args.pool.now c.args.plane.now c.args.rect c.args.scratch.now.tiles c.tiles.result.now c.in-Some.count c.requires.plane c.requires.found c.lies_in_world.ensures
    c.tiles.ensures c.in-Some.ensures.marked c.in-Some.ensures.whole
