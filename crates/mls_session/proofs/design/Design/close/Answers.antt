-- The layout's planes are given back in turn, and then the error plane.
use Rattle.std.proofs.Common.{◌≡◌, ◌*◌, ℕ, List, [], ◌∷◌, ◌++◌, length, Some, IfSome, sym, ap, ◌∙◌, subst, append_assoc, arith, rules}
use Rattle.std.specs.Vec.Iter.{into_iter_items}
use Rattle.std.proofs.Math.Nat.{zero-mul}
use Rattle.mls_session.proofs.Common.{Design, IsOwner, RemovesOwners, plane_reserve, room_of}
use Rattle.mls_paint.proofs.OwnerFrames.{RemovesOwners-none}
use Rattle.mls_session.proofs.ClosedPlanes.{RemovesOwners-errors, RemovesOwners-plane, all_given_back, is_owner, room-errors, room-left}
use Rattle.mls_session.proofs.design.Design.close.Goals as goal

pub loop-plane-init : goal.loop-plane-init
loop-plane-init c =
    let begins = c.into_iter-plane-iterator.ensures.into_iter_gives in
    record {
      all = begins.0 ∙ ap (λ (d : Design). d.planes) c.self.view_is;
      left = search rules;
      removed = subst (RemovesOwners c.args.pool.now c.args.pool.now []) (sym (zero-mul (plane_reserve c.args.self.quota))) (RemovesOwners-none c.args.pool.now);
    }

pub release_plane-requires : goal.release_plane-requires
release_plane-requires c =
    let so_far = c.loop-plane.yielded in
    let owner = c.in-Some.plane in
    let rest = into_iter_items c.next.new.self in
    let split = ap (λ (rest : List ℕ). so_far ++ rest) (sym c.in-Some.ensures.steps.0) ∙ c.loop-plane.invariant.all in
    let room : room_of c.loop-plane.pool owner ≡ Some (plane_reserve c.args.self.quota) =
    room-left c.args.pool.now c.loop-plane.pool c.args.self so_far rest owner (length so_far * plane_reserve c.args.self.quota) c.requires.home.layout split c.loop-plane.invariant.removed in
    record { live = is_owner c.loop-plane.pool owner (plane_reserve c.args.self.quota) room }

pub loop-plane-preserved : goal.loop-plane-preserved
loop-plane-preserved c =
    let so_far = c.loop-plane.yielded in
    let owner = c.in-Some.plane in
    let rest = into_iter_items c.next.new.self in
    let steps : into_iter_items c.loop-plane.plane-iterator ≡ owner ∷ rest = c.in-Some.ensures.steps.0 in
    let split = ap (λ (left : List ℕ). so_far ++ left) (sym steps) ∙ c.loop-plane.invariant.all in
    record {
      all = append_assoc so_far (owner ∷ []) rest ∙ split;
      left =
          let before = c.loop-plane.invariant.left in
          let gone = c.in-Some.ensures.steps.1 in
          let short = ap length steps in
          omega arith;
      removed = RemovesOwners-plane c.args.pool.now c.loop-plane.pool c.release_plane.new.pool c.args.self so_far rest owner c.requires.home.layout split c.loop-plane.invariant.removed c.release_plane.ensures.removed;
    }

pub close-requires : goal.close-requires
close-requires c =
    let pool = c.args.pool.now in
    let mid = c.loop-plane.pool in
    let design = c.args.self in
    let reserve = plane_reserve design.quota in
    let given_back = all_given_back pool mid design c.loop-plane.yielded (into_iter_items c.loop-plane.plane-iterator) c.loop-plane.invariant.all
    (sym c.loop-plane.invariant.left ∙ c.in-None.ensures.steps.0) c.loop-plane.invariant.removed in
    let owner = ap (λ (d : Design). d.errors.owner) c.self.view_is in
    record { live = subst (IsOwner mid) (sym owner) (is_owner mid design.errors.owner reserve (room-errors pool mid design (length design.planes * reserve) c.requires.home given_back)) }

pub returns : goal.returns
returns c =
    let pool = c.args.pool.now in
    let mid = c.loop-plane.pool in
    let design = c.args.self in
    let given_back = all_given_back pool mid design c.loop-plane.yielded (into_iter_items c.loop-plane.plane-iterator) c.loop-plane.invariant.all
    (sym c.loop-plane.invariant.left ∙ c.in-None.ensures.steps.0) c.loop-plane.invariant.removed in
    let removed =
    subst (λ (d : Design). IfSome (room_of mid d.errors.owner) (λ room. RemovesOwners mid c.close.new.pool (d.errors.owner ∷ []) room)) c.self.view_is c.close.ensures.removed in
    record { removed = RemovesOwners-errors pool mid c.close.new.pool design c.requires.home given_back removed }
