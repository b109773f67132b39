use Rattle.std.proofs.Common.{◌≡◌, Some, All, sym, subst}
use Rattle.mls_tilepool.specs.Pools.{room_of}
use Rattle.mls_paint.specs.Planes.{HasStrips}
use Rattle.mls_plane_tests.proofs.AddedPlanes.{HasStrips-added, pushed, rooms-added}
use Rattle.mls_plane_tests.proofs.tests.layouts.add_plane.Goals as goal

pub returns-clause-strips : goal.returns-clause-strips
returns-clause-strips c =
    let owners = c.args.planes.now.items in
    subst (All (λ other. HasStrips c.overlay.new.pool other)) (sym (pushed owners c.in_ok-push.ensures.items c.overlay.ensures.plane))
    (HasStrips-added c.args.workspace.now.pool c.space_plane.new.pool c.overlay.new.pool owners c.in_ok-plane.plane 16384
    c.requires.strips c.in_ok-plane.ensures.added c.overlay.ensures.only c.overlay.ensures.strips)

pub returns-clause-rooms : goal.returns-clause-rooms
returns-clause-rooms c =
    let owners = c.args.planes.now.items in
    subst (All (λ other. room_of c.overlay.new.pool other ≡ Some 16384)) (sym (pushed owners c.in_ok-push.ensures.items c.overlay.ensures.plane))
    (rooms-added c.args.workspace.now.pool c.space_plane.new.pool c.overlay.new.pool owners c.in_ok-plane.plane 16384
    c.requires.strips c.requires.rooms c.in_ok-plane.ensures.added c.overlay.ensures.only)
