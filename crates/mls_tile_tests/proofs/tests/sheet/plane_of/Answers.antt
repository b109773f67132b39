use Rattle.mls_stitch.proofs.OtherPlanes.{apart_from_new, HasPlane-ChangesOnly, HasPlane-Reserves}
use Rattle.mls_tile_tests.proofs.PlaneStrips.{strips_read}
use Rattle.mls_tile_tests.proofs.tests.sheet.plane_of.Goals as goal

pub build-requires-clause-strips : goal.build-requires-clause-strips
build-requires-clause-strips c = strips_read _ _ _ c.in_ok-strips.ensures.strips c.in_ok-strips.ensures.picture c.strips-2.ensures

pub returns-clause-others : goal.returns-clause-others
returns-clause-others c = λ other home.
    let apart = apart_from_new c.args.pool.now _ other c.in_ok-owner.ensures.new_owner home.live in
    HasPlane-ChangesOnly _ _ _ other c.build.ensures.only apart (HasPlane-Reserves _ _ _ other _ c.in_ok-owner.ensures.reserves apart home)
