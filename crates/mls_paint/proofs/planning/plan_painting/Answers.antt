-- The tiles that stay and the fresh strips are what the plane would have.
use Rattle.std.proofs.Common.{refl, ap, ◌∙◌}
use Rattle.mls_tilepool.specs.Pools.{count_of}
use Rattle.mls_stitch.proofs.FreshStrips.{pieces_of}
use Rattle.mls_paint.proofs.PaintedPlanes.{CornersDiffer-GivesWay, GivesWay-swept, too_many-swept}
use Rattle.mls_paint.proofs.planning.plan_painting.Goals as goal

pub returns-in_err-find_fresh-clause-too_many : goal.returns-in_err-find_fresh-clause-too_many
returns-in_err-find_fresh-clause-too_many c =
    let pool = c.args.pool.now in
    let owner = c.args.plane.now in
    let over = c.args.painting.now.over.now in
    let list = c.touching-searched.new.scratch.tiles in
    let gives = GivesWay-swept pool owner over list _ c.requires.strips c.touching-searched.ensures.touched c.tiles-tiles.ensures c.find_fresh.ensures.kinds c.find_fresh.ensures.legal in
    let refused = too_many-swept pool owner over list _ c.args.painting.now.limit _ gives c.tiles-tiles.ensures (c.count-count.ensures.value ∙ ap (count_of pool) c.owner.ensures) c.in_err-find_fresh.ensures.too_many in
    (λ _. refused.0 refl, λ _. c.from_residual.ensures.0)

pub make-requires-clause-corners : goal.make-requires-clause-corners
make-requires-clause-corners c =
    let pool = c.args.pool.now in
    let owner = c.args.plane.now in
    let over = c.args.painting.now.over.now in
    let list = c.touching-searched.new.scratch.tiles in
    let gives = GivesWay-swept pool owner over list _ c.requires.strips c.touching-searched.ensures.touched c.tiles-tiles.ensures c.find_fresh.ensures.kinds c.find_fresh.ensures.legal in
    rw (c.in_ok-find_fresh.ensures.touched ∙ ap pieces_of c.tiles-tiles.ensures) (CornersDiffer-GivesWay pool owner over list gives)

pub returns-clause-too_many : goal.returns-clause-too_many
returns-clause-too_many c =
    let pool = c.args.pool.now in
    let owner = c.args.plane.now in
    let over = c.args.painting.now.over.now in
    let list = c.touching-searched.new.scratch.tiles in
    let gives = GivesWay-swept pool owner over list _ c.requires.strips c.touching-searched.ensures.touched c.tiles-tiles.ensures c.find_fresh.ensures.kinds c.find_fresh.ensures.legal in
    too_many-swept pool owner over list _ c.args.painting.now.limit _ gives c.tiles-tiles.ensures (c.count-count.ensures.value ∙ ap (count_of pool) c.owner.ensures) c.in_ok-find_fresh.ensures.too_many
