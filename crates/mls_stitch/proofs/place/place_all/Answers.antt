-- Each piece is laid under an unused key, for which there is room.
use Rattle.std.proofs.Common.{◌≡◌, length, take, ap, refl, arith}
use Rattle.mls_stitch.proofs.Common.{length-take-le, take_all}
use Rattle.mls_stitch.proofs.Laying.{GiveWay-add, IsOwner-ChangesOnly, Lays-count, Lays-more, Lays-refl, not_full}
use Rattle.mls_stitch.proofs.PoolChanges.{ChangesOnly-one, ChangesOnly-refl, ChangesOnly-trans}
use Rattle.mls_stitch.proofs.place.place_all.Goals as goal

pub add-requires : goal.add-requires
add-requires c = IsOwner-ChangesOnly _ c.loop-piece.invariant.only c.requires.live

pub unreachable-requires : goal.unreachable-requires
unreachable-requires c =
    let owner = c.args.owner.now in
    let i = c.loop-piece.piece-index in
    let count = Lays-count c.loop-piece.invariant.laid in
    let so_far = length-take-le i c.args.pieces.now (omega arith) in
    not_full c.args.pool.now c.loop-piece.pool owner (length c.args.pieces.now) c.loop-piece.invariant.only c.requires.tiles_fit (omega (arith, count, so_far, c.loop-piece-test.true))
    (c.in_default.ensures.no_room.0 refl)

pub loop-piece-init : goal.loop-piece-init
loop-piece-init c = record { laid = Lays-refl _ _; only = ChangesOnly-refl _ _; len = omega arith; room = refl }

pub loop-piece-preserved : goal.loop-piece-preserved
loop-piece-preserved c =
    let owner = c.args.owner.now in
    let piece = c.piece-item.result in
    let added = rw c.corner.ensures at c.in-Ok.ensures.added in
    let ways = GiveWay-add c.loop-piece.pool c.add.new.self owner c.in-Ok.id piece (c.in-Ok.ensures.unused owner) added c.in-Ok.ensures.count in
    record {
      laid = Lays-more c.args.pieces.now c.loop-piece.piece-index (record { id = c.in-Ok.id; piece = piece }) c.loop-piece-test.true (ap (λ p. p) c.piece-item.is) c.loop-piece.invariant.laid ways c.push_reserved.ensures.items;
      only = ChangesOnly-trans c.loop-piece.invariant.only (ChangesOnly-one added);
      len = omega arith;
      room = cc;
    }

pub returns-clause-laid : goal.returns-clause-laid
returns-clause-laid c =
    let all : take c.loop-piece.piece-index c.args.pieces.now ≡ c.args.pieces.now = take_all c.loop-piece.piece-index c.args.pieces.now (omega arith) in
    rw all at c.loop-piece.invariant.laid
