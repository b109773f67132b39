use Rattle.std.proofs.Common.{sym, subst}
use Rattle.mls_server.specs.Events.{Closes}
use Rattle.mls_server.specs.Servers.{world_of}
use Rattle.mls_server.specs.Worlds.{World}
use Rattle.mls_live.proofs.desk.Desk.leave.Goals as goal

pub returns-clause-closes : goal.returns-clause-closes
returns-clause-closes g c = (
  c.close.result,
  subst (λ (w : World). Closes w c.args.id c.close.result (world_of c.join.new.self.server)) c.retirement-retirement.ensures.same
      (subst (λ (w : World). Closes (world_of c.retirement-retirement.new.self.server) c.args.id c.close.result w) (sym c.join.ensures.same) c.close.ensures.closes),
)
