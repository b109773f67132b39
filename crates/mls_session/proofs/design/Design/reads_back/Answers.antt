use Rattle.std.proofs.Common.{◌≢◌, All, IfSome, subst}
use Rattle.mls_session.proofs.Common.{Design, IsRectangleIn, areas_in, empty_layout, world}
use Rattle.mls_library.proofs.MarkedCells.{marked-reads-back}
use Rattle.mls_library.proofs.SavedCells.{saved-reads-back}
use Rattle.mls_errorplane.proofs.ErrorsIn.{areas_in-legal}
use Rattle.mls_session.proofs.CutAreas.{own-empty}
use Rattle.mls_session.proofs.PartialFacts.{of_lent}
use Rattle.mls_session.proofs.design.Design.reads_back.Goals as goal

unbroken : (c : goal.After-areas) → IfSome c.args.tech.now.name (All (λ b. b ≢ 10))
unbroken c = of_lent (All (λ b. b ≢ 10)) c.name.result c.args.tech.now.name c.name.ensures.value c.name.ensures.unbroken

legal : (c : goal.After-areas) → All (IsRectangleIn world) c.args.self.now.errors.dirty
legal c = subst (λ (d : Design). All (IsRectangleIn world) d.errors.dirty) c.self.view_is c.areas.ensures.kept.legal

pub returns-clause-saved : goal.returns-clause-saved
returns-clause-saved c layout own = saved-reads-back c.args.tech.now layout c.types.ensures.named (unbroken c) own

pub returns-clause-marked : goal.returns-clause-marked
returns-clause-marked c layout marks own =
    marked-reads-back c.args.tech.now c.args.self.now.errors.dirty (legal c) marks layout c.types.ensures.named (unbroken c) own

pub returns-clause-errors : goal.returns-clause-errors
returns-clause-errors c rect marks =
    let dirty = c.args.self.now.errors.dirty in
    marked-reads-back c.args.tech.now (areas_in rect dirty) (areas_in-legal rect dirty (legal c)) marks empty_layout c.types.ensures.named (unbroken c) (own-empty c.args.tech.now)
