use Rattle.std.proofs.Common.{◌≡◌, ◌*◌, ◌++◌, length}
use Rattle.std.specs.Vec.Iter.{into_iter_items, into_iter_len}
use Rattle.mls_session.proofs.Common.{RemovesOwners, plane_reserve}
use Rattle.mls_session.proofs.design.Design.close.Given as goal

-- the planes so far are given back, and with those that are left they are all
abbrev pub invariant-loop-plane : goal.invariant-loop-plane
invariant-loop-plane l = record {
  all : l.yielded ++ into_iter_items l.plane-iterator ≡ l.fn.self.planes;
  left : into_iter_len l.plane-iterator ≡ length (into_iter_items l.plane-iterator);
  removed : RemovesOwners l.fn.pool l.pool l.yielded (length l.yielded * plane_reserve l.fn.self.quota);
}
