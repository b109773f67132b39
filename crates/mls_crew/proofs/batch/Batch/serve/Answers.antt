use Rattle.std.proofs.Common.{List, Result, subst, sym}
use Rattle.std.specs.Io.KnownBytes.{Appends}
use Rattle.mls_seat_lines.specs.mls_server.Servers.{world_of}
use Rattle.mls_seat_lines.proofs.mls_wire.Results.{if_err}
use Rattle.mls_seat_lines.specs.mls_wire.Ahead.{SaysScript}
use Rattle.mls_seat_lines.specs.mls_wire.NameBooks.{book_of}
use Rattle.mls_seat_lines.specs.mls_wire.Serving.{AppendsFront}
use Rattle.mls_seat_lines.specs.mls_wire.declared.line.Line.{Line}
use Rattle.mls_seat_lines.specs.mls_wire.declared.line.LineFault.{LineFault}
use Rattle.mls_seat_lines.specs.mls_wire.declared.serving.ServeFault.TheVariants.{Write}
use Rattle.mls_crew.specs.Scripts.{FailsBatch}
use Rattle.mls_crew.proofs.Outputs.{batch_begins, batch_writes, reading_fails}
use Rattle.mls_crew.proofs.batch.Batch.serve.Goals as goal

pub returns-in_err-script-clause-failed : goal.returns-in_err-script-clause-failed
returns-in_err-script-clause-failed g c =
    let on = world_of c.args.self.server in
    let script = g.R.Read.remaining c.args.input.now.device in
    let fault = c.in_err-script.field-0.0 in
    if_err c.from_residual.result fault (λ given. FailsBatch on given script c.read_script.new.input g.W.Write.contents c.args.output.now c.args.output.now) c.from_residual.ensures
    (reading_fails on fault script c.read_script.new.input g.W.Write.contents c.args.output.now c.in_err-script.ensures.stops)

pub returns-in_err-send-clause-failed : goal.returns-in_err-send-clause-failed
returns-in_err-send-clause-failed g c =
    let on = world_of c.args.self.server in
    let replies = c.in_ok-replies.replies in
    let script = g.R.Read.remaining c.args.input.now.device in
    let says = subst (λ (read : List (Result Line LineFault)). SaysScript (book_of on) script read) (sym c.deref.ensures.value) c.in_ok-script.ensures.said in
    let front = subst (AppendsFront (g.W.Write.contents c.args.output.now.device) (g.W.Write.contents c.send.new.output.device)) c.deref-2.ensures.value c.in_err-send.ensures.err in
    if_err c.from_residual-in_err-send.result Write (λ given. FailsBatch on given script c.read_script.new.input g.W.Write.contents c.args.output.now c.send.new.output)
    c.from_residual-in_err-send.ensures
    (c.in_err-send.ensures.cause, batch_begins on c.deref.result.now replies.audited replies.text.items c.in_ok-replies.ensures script _ _ says front)

pub returns-clause-served : goal.returns-clause-served
returns-clause-served g c =
    let on = world_of c.args.self.server in
    let replies = c.in_ok-replies.replies in
    let script = g.R.Read.remaining c.args.input.now.device in
    let says = subst (λ (read : List (Result Line LineFault)). SaysScript (book_of on) script read) (sym c.deref.ensures.value) c.in_ok-script.ensures.said in
    batch_writes on c.deref.result.now replies.audited replies.text.items c.in_ok-replies.ensures script _ _ says
    (subst (Appends (g.W.Write.contents c.args.output.now.device) (g.W.Write.contents c.send.new.output.device)) c.deref-2.ensures.value c.in_ok-send.ensures.ok)
