use Rattle.std.proofs.Common.{ap, ◌∙◌}
use Rattle.std.specs.Option.{option_map}
use Rattle.mls_server.specs.Servers.{Server, world_of}
use Rattle.mls_server.specs.declared.server.OpenSession.{OpenSession}
use Rattle.mls_server.specs.Worlds.{session_named}
use Rattle.mls_server.proofs.NamedSessions.{named_in-entries}
use Rattle.mls_server.proofs.server.Server.session.Goals as goal

pub returns-in_err-open : goal.returns-in_err-open
returns-in_err-open c =
    let own = c.self.inside in
    record {
      value =
          c.from_residual.ensures ∙ ap (option_map (λ (found : OpenSession). found.id)) c.in_err-open.ensures.value
          ∙ named_in-entries own.workspace.pool c.args.name.now own.sessions.entries ∙ ap (λ (server : Server). session_named (world_of server) c.args.name.now) c.self.view_is;
    }

pub returns : goal.returns
returns c =
    let own = c.self.inside in
    record {
      value =
          ap (option_map (λ (found : OpenSession). found.id)) c.in_ok-open.ensures.value
          ∙ named_in-entries own.workspace.pool c.args.name.now own.sessions.entries ∙ ap (λ (server : Server). session_named (world_of server) c.args.name.now) c.self.view_is;
    }
