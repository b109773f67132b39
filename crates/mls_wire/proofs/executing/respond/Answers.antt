use Rattle.std.proofs.Common.{refl}
use Rattle.mls_server.specs.Servers.{world_of}
use Rattle.mls_wire.proofs.OpenLines.{audit_executes, said_executable}
use Rattle.mls_wire.proofs.executing.respond.Goals as goal

pub entries_of-requires : goal.entries_of-requires
entries_of-requires c = rw c.in-Audit.is at (said_executable (world_of c.args.server.now) _ c.in-Ok.said c.in-Ok.ensures)

pub returns-in-Audit : goal.returns-in-Audit
returns-in-Audit c = record {
  executes = rw (← c.in-Ok.ensures, c.in-Audit.is) (audit_executes (world_of c.args.server.now) c.in-Audit.name c.in-Audit.id c.entries_of.result c.entries_of.ensures);
  setting = refl;
}
