use Rattle.std.proofs.Common.{sym, ap, ◌∙◌}
use Rattle.std.proofs.lemmas.Result.{IfOk-weaker}
use Rattle.mls_server.specs.Servers.{Server, world_of}
use Rattle.mls_server.specs.Settings.{cell_names}
use Rattle.mls_server.proofs.CellNames.{names-named_layouts}
use Rattle.mls_server.proofs.server.Server.cell_names.Goals as goal

pub returns : goal.returns
returns c =
    let own = c.self.inside in
    let there = sym (names-named_layouts own.workspace.pool own.setup.library) ∙ ap (λ (server : Server). cell_names (world_of server).setting) c.self.view_is in
    record { names = IfOk-weaker c.copy_names.result _ _ (λ names are. are ∙ there) c.copy_names.ensures }
