use Rattle.mls_lines.specs.mls_server.Servers.{world_of}
use Rattle.mls_magicd.proofs.Ends.{lacks-memory}
use Rattle.mls_magicd.proofs.program.start_stream.Goals as goal

pub returns-in_default-clause-err : goal.returns-in_default-clause-err
returns-in_default-clause-err g c words parsed =
    lacks-memory (g.F.Files.reads_as c.args.files.now) (g.F.Files.may_fail c.args.files.now) words g.E.Write.contents c.args.faults.now c.start_batch.new.faults (world_of c.in_ok-server.field-0.server) (c.in_ok-server.ensures.ok words parsed)
