use Rattle.std.proofs.Common.{Result, Ok, Err, OnErr}
use Rattle.mls_magicd.proofs.MessageLemmas.{front-more}
use Rattle.mls_magicd.proofs.messages.write_parts.Goals as goal

-- what holds in any case holds at an error
at_error : {T E : Type 0} (r : Result T E) (P : Type 0) → P → OnErr r P
at_error (Ok x) P p = tt
at_error (Err e) P p = p

pub returns-in_err-write_whole-clause-err : goal.returns-in_err-write_whole-clause-err
returns-in_err-write_whole-clause-err g c =
    let cut = c.in_err-write_whole.ensures.err in
    at_error c.from_residual.result _
    (front-more (g.E.Write.contents c.args.faults.now.device) (g.E.Write.contents c.loop-part.faults.device) (g.E.Write.contents c.write_whole.new.self.device)
    c.args.parts.now c.loop-part.part-index _ c.loop-part-test.true c.loop-part.invariant cut.0 cut.1 cut.2 cut.3)
