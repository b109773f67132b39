use Rattle.std.proofs.Common.{subst, sym, arith}
use Rattle.mls_errorplane.specs.DirtyLists.{IsDirtyList}
use Rattle.mls_errorplane.proofs.KeptLists.{IsDirtyList-united}
use Rattle.mls_errorplane.proofs.dirty.Dirty.add.Goals as goal

pub invariant_of-self : goal.invariant_of-self
invariant_of-self c =
    let united_list =
    IsDirtyList-united c.self.inside.areas.items c.push_back_reserved.new.self.items c.grow-zone.result c.self.invariant.0 c.area.ensures.legal c.push_back_reserved.ensures.items in (
      subst IsDirtyList (sym c.unite.ensures.items) united_list,
      omega (arith, c.unite.ensures.room, c.push_back_reserved.ensures.capacity, c.self.invariant.1),
    )
