use Rattle.std.proofs.Common.{◌<◌, ◌∙◌, ap, arith, length, vec_capacity}
use Rattle.mls_text.specs.Lines.{without_return}
use Rattle.mls_wire.specs.JournalLines.{shielded}
use Rattle.mls_wire.proofs.Results.{on_err}
use Rattle.mls_wire.proofs.ShieldedLines.{length-dropped}
use Rattle.mls_wire.proofs.journal_lines.push_shield.Goals as goal

pub returns-in_err-push-clause-room : goal.returns-in_err-push-clause-room
returns-in_err-push-clause-room c =
    let items = c.args.out.now.items in
    let rest = c.without_return.result.now in
    let less : length rest < length items = omega (arith, c.if-without_return-len.true, c.len.ensures, c.args.out.now.ok.0) in
    let long = length-dropped items rest (c.without_return.ensures ∙ ap without_return c.deref.ensures.value) less in
    on_err c.from_residual.result (vec_capacity c.args.out.now < length (shielded items)) (omega (arith, c.in_err-push.ensures.full, long, c.args.out.now.ok.0))
