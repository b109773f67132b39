-- The bounds have all pieces.
use Rattle.mls_stitch.proofs.Common.{tiles_of}
use Rattle.mls_stitch.proofs.TouchedTiles.{HasTouched-met}
use Rattle.mls_stitch.proofs.touching.list_round_all.Goals as goal

pub returns-in-Some-clause-touched : goal.returns-in-Some-clause-touched
returns-in-Some-clause-touched c =
    HasTouched-met (tiles_of c.args.pool.now c.args.owner.now) c.args.over.now c.in-Some.bounds c.grow.result c.scan_area.new.list.items c.requires.plane.plane c.in-Some.ensures.round
    c.grow.ensures.squares c.scan_area.ensures.found
