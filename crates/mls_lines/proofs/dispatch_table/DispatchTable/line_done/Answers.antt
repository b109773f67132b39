use Rattle.std.proofs.Common.{ap, arith, length, sym}
use Rattle.std.proofs.lemmas.List.{set_past}
use Rattle.mls_lines.proofs.dispatch_table.DispatchTable.line_done.Goals as goal

pub returns-else-thread-lt-NAME_THREADS : goal.returns-else-thread-lt-NAME_THREADS
returns-else-thread-lt-NAME_THREADS c = sym (set_past c.args.self.now c.args.thread _ (omega (arith, ap length c.self.view_is, c.self.invariant, c.if-thread-lt-NAME_THREADS.false)))
