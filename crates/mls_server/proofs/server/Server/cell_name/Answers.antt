use Rattle.std.proofs.Common.{slice_get, sym, ap, ◌∙◌, List, ℕ}
use Rattle.std.proofs.lemmas.Option.{slice_get-map}
use Rattle.mls_session.specs.mls_library.Libraries.{NamedCell}
use Rattle.mls_server.specs.Servers.{Server, world_of}
use Rattle.mls_server.specs.Settings.{cell_names}
use Rattle.mls_server.proofs.CellNames.{names-named_layouts}
use Rattle.mls_server.proofs.server.Server.cell_name.Goals as goal

pub returns : goal.returns
returns c =
    let own = c.self.inside in
    let there = ap (λ (names : List (List ℕ)). slice_get names c.args.cell) (sym (names-named_layouts own.workspace.pool own.setup.library)) in
    record {
      value =
          c.name.ensures ∙ sym (slice_get-map (λ (cell : NamedCell). cell.name) own.setup.library c.args.cell) ∙ there
          ∙ ap (λ (server : Server). slice_get (cell_names (world_of server).setting) c.args.cell) c.self.view_is;
    }
