use Rattle.std.proofs.Common.{List, ap, sym, ◌∙◌, arith, sum_by, take_all}
use Rattle.mls_errorplane.specs.Common.{LaidTile, picture_in, world}
use Rattle.mls_errorplane.specs.PaintedMarks.{marked_part}
use Rattle.mls_errorplane.proofs.FoundCounts.{marked_count-found, next_part-le}
use Rattle.mls_errorplane.proofs.MarkCounts.{marked_count-le}
use Rattle.mls_errorplane.proofs.RectCounts.{marked_count-part}
use Rattle.mls_errorplane.proofs.marks.marked_in.Goals as goal

pub overflow_add-count : goal.overflow_add-count
overflow_add-count c =
    let picture = picture_in c.args.pool.now c.args.plane.now in
    let tiles = c.tiles-tile-items.result.now in
    let sum = λ (list : List LaidTile). sum_by (marked_part c.args.rect) list in
    let whole = marked_count-found c.args.pool.now c.args.plane.now c.args.rect c.find_area.new.scratch.tiles c.requires.plane c.find_area.ensures.found in
    let same = ap sum c.tiles-tile-items.ensures in
    let next = next_part-le c.args.rect tiles c.loop-tile.tile-index c.loop-tile.count c.marked_part-count.result c.tile-item.result c.loop-tile-test.true c.tile-item.is c.loop-tile.invariant c.marked_part-count.ensures in
    omega (arith, next, same, whole, marked_count-part world c.args.rect picture c.lies_in_world.ensures, marked_count-le world picture)

pub returns-clause-value : goal.returns-clause-value
returns-clause-value c =
    let tiles = c.tiles-tile-items.result.now in
    c.loop-tile.invariant
    ∙ ap (λ (list : List LaidTile). sum_by (marked_part c.args.rect) list) (take_all c.loop-tile.tile-index tiles c.loop-tile-test.false ∙ c.tiles-tile-items.ensures)
    ∙ sym (marked_count-found c.args.pool.now c.args.plane.now c.args.rect c.find_area.new.scratch.tiles c.requires.plane c.find_area.ensures.found)
