use Rattle.std.proofs.Common.{ℕ, [], ◌∷◌, IfSome, subst}
use Rattle.mls_tilepool.specs.Pools.{room_of}
use Rattle.mls_paint.specs.Owners.{RemovesOwners}
use Rattle.mls_paint.proofs.OwnerFrames.{RemovesOwners-one}
use Rattle.mls_paint.proofs.planes.release_plane.Goals as goal

pub returns : goal.returns
returns c =
    let old = c.args.pool.now in
    let new = c.release.new.self in
    record {
      removed = subst (λ (owner : ℕ). IfSome (room_of old owner) (λ (room : ℕ). RemovesOwners old new (owner ∷ []) room)) c.into_owner.ensures
          (RemovesOwners-one old new c.into_owner.result (room_of old c.into_owner.result) c.release.ensures.releases c.release.ensures.given_back);
    }
