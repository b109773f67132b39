-- What is not refused fits.
use Rattle.mls_geom.specs.Pictures.{overlaid}
use Rattle.mls_geom.specs.TileCounts.{tile_count}
use Rattle.mls_geom.specs.World.{world}
use Rattle.mls_paint.specs.Planes.{picture_in}
use Rattle.mls_paint.proofs.PaintedPlanes.{fits_unless}
use Rattle.mls_paint.proofs.paint.fits.Goals as goal

pub returns-clause-fits : goal.returns-clause-fits
returns-clause-fits c =
    fits_unless c.is_ok.result _ (tile_count world (overlaid (picture_in c.args.pool.now c.args.plane.now) c.args.over.now)) c.args.limit c.is_ok.ensures.negation c.plan.ensures.too_many
