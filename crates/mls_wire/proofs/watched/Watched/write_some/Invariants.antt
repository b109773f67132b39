-- Only interrupted writes have come so far.
use Rattle.mls_wire.proofs.Interruptions.{OnlyInterrupted}
use Rattle.mls_wire.proofs.watched.Watched.write_some.Given as goal

abbrev pub invariant-tries : goal.invariant-tries
invariant-tries g l = OnlyInterrupted (g.W.Write.contents l.initial.self-inside.device) (g.W.Write.contents l.self-inside.device) l.initial.self-inside.failed l.self-inside.failed l.initial.self-inside.calls_left l.self-inside.calls_left

abbrev pub decreases-tries : goal.decreases-tries
decreases-tries g l = l.self-inside.calls_left
