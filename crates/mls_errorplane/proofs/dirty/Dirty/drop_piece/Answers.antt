use Rattle.std.proofs.Common.{subst, sym, arith}
use Rattle.mls_errorplane.specs.DirtyLists.{IsDirtyList}
use Rattle.mls_errorplane.proofs.KeptLists.{IsDirtyList-dropped}
use Rattle.mls_errorplane.proofs.dirty.Dirty.drop_piece.Goals as goal

pub invariant_of-self : goal.invariant_of-self
invariant_of-self c = (
  subst IsDirtyList (sym c.drop_piece.ensures.items) (IsDirtyList-dropped c.self.inside.areas.items c.self.invariant.0),
  omega (arith, c.drop_piece.ensures.room, c.self.invariant.1),
)
