-- The parts so far were written.
use Rattle.std.proofs.Common.{take}
use Rattle.std.specs.List.{flat_map}
use Rattle.std.specs.Io.KnownBytes.{Appends}
use Rattle.mls_magicd.proofs.messages.write_parts.Given as goal

abbrev pub invariant-loop-part : goal.invariant-loop-part
invariant-loop-part g l =
    Appends (g.E.Write.contents l.initial.faults.device) (g.E.Write.contents l.faults.device) (flat_map (λ part. part.now) (take l.part-index l.parts))
