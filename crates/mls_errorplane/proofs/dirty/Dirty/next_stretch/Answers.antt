use Rattle.std.proofs.Common.{List, subst}
use Rattle.mls_errorplane.proofs.Common.{IsNext, Rect}
use Rattle.mls_errorplane.proofs.NextStretches.{next-first}
use Rattle.mls_errorplane.proofs.dirty.Dirty.next_stretch.Goals as goal

pub returns-clause-next : goal.returns-clause-next
returns-clause-next c =
    subst (λ (list : List Rect). IsNext list c.of.result) c.self.view_is
    (next-first c.self.inside.areas.items c.in_ok-first.first.now c.of.result c.in_ok-first.ensures.item.0 c.in_ok-first.ensures.lookup c.of.ensures)
