-- Past a cell's last plane there is nothing to paint.
use Rattle.std.proofs.Common.{sym}
use Rattle.mls_session.proofs.ChangedPlanes.{dumped-past}
use Rattle.mls_session.proofs.change.Change.list_pieces.Goals as goal

pub returns-in-None-clause-picture : goal.returns-in-None-clause-picture
returns-in-None-clause-picture c = λ below is.
    let dump = c.in-Dump in
    rw (c.clear.ensures.items, dump.is) (sym (dumped-past c.args.pool.now dump.planes.now c.args.number dump.dx dump.dy below c.in-None.ensures.lookup.3))
