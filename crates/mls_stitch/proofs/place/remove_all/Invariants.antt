use Rattle.std.proofs.Common.{[], take}
use Rattle.mls_stitch.proofs.Common.{tiles_of, GiveWay, ChangesOnly}
use Rattle.mls_stitch.proofs.place.remove_all.Given as goal

abbrev pub invariant-loop-id : goal.invariant-loop-id
invariant-loop-id l = record {
  gone : GiveWay (tiles_of l.initial.pool l.owner) (tiles_of l.pool l.owner) (take l.id-index l.ids) [];
  only : ChangesOnly l.initial.pool l.pool l.owner;
}
