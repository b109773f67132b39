use Rattle.std.proofs.Common.{Bool, subst}
use Rattle.mls_lines.specs.Scripts.{WritesStream}
use Rattle.mls_lines.specs.mls_server.Servers.{world_of}
use Rattle.mls_lines.proofs.mls_wire.Results.{if_err}
use Rattle.mls_magicd.proofs.Ends.{is_false, is_true}
use Rattle.mls_magicd.proofs.program.serve_stream.Goals as goal

pub returns-in_err-served-clause-err : goal.returns-in_err-served-clause-err
returns-in_err-served-clause-err g c = if_err c.from_residual.result _ _ c.from_residual.ensures c.in_err-served.ensures.failed

pub returns-then-not-served-clause-err : goal.returns-then-not-served-clause-err
returns-then-not-served-clause-err g c =
    subst (λ (audited : Bool). WritesStream (world_of c.args.stream.server) (g.R.Read.remaining c.args.devices.now.input.device) (g.W.Write.contents c.args.devices.now.output.device)
    (g.W.Write.contents c.serve.new.output.device) audited) (is_false c.in_ok-served.served.audited c.if-not-served.true) c.in_ok-served.ensures.served

pub returns-clause-ok : goal.returns-clause-ok
returns-clause-ok g c =
    subst (λ (audited : Bool). WritesStream (world_of c.args.stream.server) (g.R.Read.remaining c.args.devices.now.input.device) (g.W.Write.contents c.args.devices.now.output.device)
    (g.W.Write.contents c.serve.new.output.device) audited) (is_true c.in_ok-served.served.audited c.if-not-served.false) c.in_ok-served.ensures.served
