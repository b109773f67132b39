use Rattle.std.proofs.Common.{ap, subst, ◌∙◌}
use Rattle.mls_server.proofs.IdleServers.{AreOpen-loaded, LoadsCell-loaded}
use Rattle.mls_server.specs.contracts.server.Server.{the_view}
use Rattle.mls_server.specs.Events.{LoadsCell}
use Rattle.mls_server.specs.Servers.{Server, world_of}
use Rattle.mls_server.proofs.server.Server.load.Goals as goal

pub invariant_of-self : goal.invariant_of-self
invariant_of-self c =
    let idle = ap (λ (now : Server). (world_of now).seats) c.self.view_is ∙ c.requires.idle in
    AreOpen-loaded (the_view c.self.inside) c.self.invariant idle c.load.new.pool c.load.new.self c.load.ensures.home c.load.ensures.planes c.load.ensures.own_types

pub returns : goal.returns
returns c =
    let server = the_view c.self.inside in
    let idle = ap (λ (now : Server). (world_of now).seats) c.self.view_is ∙ c.requires.idle in
    record {
      loads =
          subst (λ (old : Server). LoadsCell (world_of old) c.args.name.now c.args.bytes.now c.load.result (world_of (record server { pool = c.load.new.pool; setup = record server.setup { library = c.load.new.self } }))) c.self.view_is
          (LoadsCell-loaded server c.self.invariant idle c.load.new.pool c.load.new.self c.args.name.now c.args.bytes.now c.load.result c.load.ensures.loads
          c.load.ensures.library_kept c.load.ensures.pool_kept);
    }
