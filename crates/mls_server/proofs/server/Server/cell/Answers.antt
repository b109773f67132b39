use Rattle.std.proofs.Common.{sym, ap, ◌∙◌}
use Rattle.std.specs.List.{position}
use Rattle.mls_text.specs.Words.{same_word}
use Rattle.mls_server.specs.Servers.{Server, world_of}
use Rattle.mls_server.proofs.IdleServers.{position-layouts}
use Rattle.mls_server.proofs.server.Server.cell.Goals as goal

pub returns : goal.returns
returns c =
    let own = c.self.inside in
    record {
      value =
          c.cell_named.ensures.value ∙ sym (position-layouts own.workspace.pool c.args.name.now own.setup.library)
          ∙ ap (λ (server : Server). position (λ cell. same_word c.args.name.now cell.name) (world_of server).setting.cells) c.self.view_is;
    }
