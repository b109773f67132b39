use Rattle.std.proofs.Common.{refl, sym, subst}
use Rattle.mls_server.specs.Events.{Happens}
use Rattle.mls_server.specs.Servers.{world_of}
use Rattle.mls_server.specs.declared.answer.Answer.TheVariants.{Closed}
use Rattle.mls_server.proofs.server.Server.act.Goals as goal

pub returns-in-Close : goal.returns-in-Close
returns-in-Close c = record {
  happens =
      subst (λ event. Happens (world_of c.args.self.now) event (Closed c.close.result) (world_of c.close.new.self)) (sym c.in-Close.is)
      (c.close.result, refl, c.close.ensures.closes);
}
