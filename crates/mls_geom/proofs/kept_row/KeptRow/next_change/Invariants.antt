-- The marks so far are met by the slots so far, and so are the runs.
use Rattle.std.proofs.Common.{◌-◌, length}
use Rattle.mls_geom.specs.Sweep.Changing.{AreMet, runs_of}
use Rattle.mls_geom.proofs.kept_row.KeptRow.next_change.Given as goal

abbrev pub invariant-loop-after : goal.invariant-loop-after
invariant-loop-after l = AreMet l.self.lines.items (runs_of l.self.strips.items l.self.row.items) l.self.marks.items l.fn.index l.after l.change.slots l.change.runs

abbrev pub decreases-loop-after : goal.decreases-loop-after
decreases-loop-after l = length l.self.marks.items - l.after
