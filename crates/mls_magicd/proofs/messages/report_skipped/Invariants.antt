-- The lines so far were reported.
use Rattle.std.proofs.Common.{map, take}
use Rattle.mls_magicd.specs.Messages.{ReportsAll, skipped_message}
use Rattle.mls_magicd.proofs.messages.report_skipped.Given as goal

abbrev pub invariant-loop-line : goal.invariant-loop-line
invariant-loop-line g l = ReportsAll g.E.Write.contents l.initial.faults l.faults (map skipped_message (take l.line-index l.skipped))
