-- Each turn adds a plane of space.
use Rattle.std.proofs.Common.{◌≡◌, ◌+◌, ◌*◌, length, sym, subst, ◌∙◌, arith}
use Rattle.mls_session.proofs.Common.{AddsOwner, AddsOwners, AreAtHome, plane_reserve, unreserved}
use Rattle.mls_session.proofs.HomePlanes.{AreAtHome-push, differ_from_new}
use Rattle.mls_session.proofs.Openings.{AddsOwners-plane, AreSpace, AreSpace-push, layout_in-blank}
use Rattle.mls_session.proofs.design.space_planes.Goals as goal

pub loop-plane-preserved : goal.loop-plane-preserved
loop-plane-preserved c =
    let old = c.loop-plane.workspace.pool in
    let new = c.space_plane.new.pool in
    let planes = c.loop-plane.planes.items in
    let owner = c.unwrap.result in
    let quota = c.args.setup.now.quota in
    let reserve = plane_reserve quota in
    let so_far = c.loop-plane.invariant in
    let made = c.space_plane.ensures in
    let strips = rw c.unwrap.ensures at made.strips in
    let shows = rw c.unwrap.ensures at made.space in
    let added : AddsOwner old new owner reserve = rw (← c.plane_reserve-reserve.ensures.value) (rw c.unwrap.ensures at made.added) in
    let taken : unreserved new + reserve ≡ unreserved old = rw (← c.plane_reserve-reserve.ensures.value) (rw c.unwrap.ensures at made.taken) in
    let differ = differ_from_new old new quota planes owner reserve so_far.home added in
    let items = c.push_reserved.ensures.items in
    record {
      count = omega (arith, c.push_reserved.ensures.len, so_far.count);
      reserved = c.push_reserved.ensures.capacity ∙ so_far.reserved;
      home = subst (λ owners. AreAtHome new quota owners) (sym items) (AreAtHome-push old new quota planes owner so_far.home added strips);
      space = subst (AreSpace new) (sym items) (AreSpace-push old new planes owner reserve so_far.space differ added shows);
      added = subst (λ owners. AddsOwners c.args.workspace.now.pool new owners (length owners * reserve)) (sym items) (AddsOwners-plane c.args.workspace.now.pool old new planes owner reserve so_far.added differ added taken);
    }

pub returns-clause-blank : goal.returns-clause-blank
returns-clause-blank c = layout_in-blank c.loop-plane.workspace.pool c.loop-plane.planes.items c.loop-plane.invariant.space
