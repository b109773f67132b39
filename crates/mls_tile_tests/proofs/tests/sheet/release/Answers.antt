use Rattle.std.proofs.Common.{None}
use Rattle.mls_stitch.proofs.OtherPlanes.{HasPlane-Reserves}
use Rattle.mls_tile_tests.proofs.tests.sheet.release.Goals as goal

pub returns : goal.returns
returns c = λ other apart home. HasPlane-Reserves _ _ _ other None c.release.ensures.releases (rw c.into_owner.ensures apart) home
