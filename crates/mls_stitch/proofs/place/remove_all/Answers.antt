-- Each tile is removed in turn.
use Rattle.std.proofs.Common.{◌≡◌, take, arith}
use Rattle.mls_stitch.proofs.Common.{take_all}
use Rattle.mls_stitch.proofs.Laying.{GiveWay-more, GiveWay-next, GiveWay-refl, GiveWay-remove}
use Rattle.mls_stitch.proofs.PoolChanges.{ChangesOnly-one, ChangesOnly-refl, ChangesOnly-trans}
use Rattle.mls_stitch.proofs.place.remove_all.Goals as goal

pub remove-removed-requires : goal.remove-removed-requires
remove-removed-requires c =
    (GiveWay-next c.args.ids.now c.loop-id.id-index c.id-item.result c.loop-id-test.true c.id-item.is c.requires.once c.requires.there c.loop-id.invariant.gone).2

pub loop-id-init : goal.loop-id-init
loop-id-init c = record { gone = GiveWay-refl _; only = ChangesOnly-refl _ _ }

pub loop-id-preserved : goal.loop-id-preserved
loop-id-preserved c =
    let removed = c.remove-removed.ensures in
    record {
      gone =
          GiveWay-more c.args.ids.now c.loop-id.id-index c.id-item.result c.loop-id-test.true c.id-item.is c.requires.once c.requires.there c.loop-id.invariant.gone
          (GiveWay-remove c.loop-id.pool c.remove-removed.new.self c.args.owner.now c.id-item.result removed.changes removed.count);
      only = ChangesOnly-trans c.loop-id.invariant.only (ChangesOnly-one removed.changes);
    }

pub returns-clause-gone : goal.returns-clause-gone
returns-clause-gone c =
    let all : take c.loop-id.id-index c.args.ids.now ≡ c.args.ids.now = take_all c.loop-id.id-index c.args.ids.now (omega arith) in
    rw all at c.loop-id.invariant.gone
