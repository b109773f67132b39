use Rattle.std.proofs.Common.{sym, subst}
use Rattle.mls_library.specs.Libraries.{IsHome as AreCellsHome}
use Rattle.mls_session.proofs.design.Design.what.Goals as goal

pub types_in-requires-clause-cells : goal.types_in-requires-clause-cells
types_in-requires-clause-cells c = subst (AreCellsHome c.args.workspace.now.pool) (sym c.context-context.ensures.library) c.requires.ready.can_dump.home
