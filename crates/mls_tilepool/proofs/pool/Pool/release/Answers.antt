use Rattle.std.proofs.Common.{◌≡◌, ◌+◌, get_or, None, is_some, sym, ap, ◌∙◌}
use Rattle.mls_tilepool.proofs.Common.{room_of, unreserved}
use Rattle.mls_tilepool.proofs.OwnerCalls.{IsPool-let_go, Reserves-from_released, Reserves-released, unreserved-released, unreserved-same}
use Rattle.mls_tilepool.proofs.PoolViews.{IfSome-at, owner_row, room_of-row}
use Rattle.mls_tilepool.proofs.pool.Pool.release.Goals as goal

pub remove-row-requires : goal.remove-row-requires
remove-row-requires c =
    let s = c.self.inside in
    owner_row s.capacity s.reserved s.places s.rows c.owner.inside.0
    (ap is_some (ap (λ pool. room_of pool c.owner.inside.0) c.self.view_is ∙ ap (room_of c.clear.new.self) c.owner.view_is
    ∙ ap (λ rooms. get_or rooms c.args.owner None) c.clear.ensures.kept.rooms) ∙ c.requires)

pub invariant_of-self : goal.invariant_of-self
invariant_of-self c =
    let s = c.self.inside in
    let gone = c.remove-row in
    IsPool-let_go s.capacity s.reserved s.places s.rows gone.new.self c.owner.inside.0 c.self.invariant gone.result gone.ensures.value gone.ensures.updates
    gone.ensures.capacity (rw (c.self.view_is, c.owner.view_is) c.clear.ensures.empty)

pub returns-clause-releases : goal.returns-clause-releases
returns-clause-releases c =
    let s = c.self.inside in
    let gone = c.remove-row in
    let released = Reserves-released s.capacity s.reserved s.places s.rows gone.new.self c.owner.inside.0 c.self.invariant gone.result gone.ensures.value
    gone.ensures.updates gone.ensures.capacity (rw (c.self.view_is, c.owner.view_is) c.clear.ensures.empty) in
    Reserves-from_released c.args.self.now c.clear.new.self _ c.args.owner c.clear.ensures.kept (rw (c.self.view_is, c.owner.view_is) at released)

pub returns-clause-given_back : goal.returns-clause-given_back
returns-clause-given_back c =
    let s = c.self.inside in
    let gone = c.remove-row in
    let owner = c.owner.inside.0 in
    let kept = c.clear.ensures.kept in
    let room = room_of-row s.capacity s.reserved s.places s.rows owner gone.result gone.ensures.value in
    let left = unreserved-released s.capacity s.reserved s.places s.rows gone.new.self owner c.self.invariant gone.result gone.ensures.value
    gone.ensures.updates gone.ensures.capacity (rw (c.self.view_is, c.owner.view_is) c.clear.ensures.empty) in
    IfSome-at (λ room. unreserved _ ≡ unreserved c.args.self.now + room) _ gone.result.room
    (sym (ap (λ pool. room_of pool owner) c.self.view_is ∙ ap (room_of c.clear.new.self) c.owner.view_is
    ∙ ap (λ rooms. get_or rooms c.args.owner None) kept.rooms) ∙ room)
    (left ∙ ap (λ n. n + gone.result.room) (ap unreserved c.self.view_is ∙ unreserved-same c.args.self.now c.clear.new.self kept.rooms kept.capacity))
