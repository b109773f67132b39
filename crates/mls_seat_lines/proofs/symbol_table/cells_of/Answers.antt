use Rattle.std.proofs.Common.{◌≡◌, ◌∙◌, ℕ, List, ap, sym}
use Rattle.std.specs.List.{position}
use Rattle.mls_wire.specs.mls_server.Servers.{world_of}
use Rattle.mls_wire.specs.mls_server.Settings.{cell_names}
use Rattle.mls_text.specs.Words.{same_word}
use Rattle.mls_seat_lines.specs.SymbolTables.{cell_named}
use Rattle.mls_seat_lines.proofs.SymbolTableLemmas.{map_next, position-map}
use Rattle.mls_seat_lines.proofs.symbol_table.cells_of.Goals as goal

pub loop-name-preserved : goal.loop-name-preserved
loop-name-preserved c =
    let setting = (world_of c.args.server.now).setting in
    let name = c.name-item.result in
    let here : c.cell.result ≡ cell_named (cell_names setting) name.items =
    c.cell.ensures.value ∙ ap (λ (word : List ℕ). position (λ cell. same_word word cell.name) setting.cells) c.deref.ensures.value
    ∙ sym (position-map (same_word name.items) (λ cell. cell.name) setting.cells) in
    map_next (λ n. cell_named (cell_names setting) n.items) c.args.names.now c.loop-name.name-index name c.loop-name.cells.items c.cell.result c.loop-name-test.true c.name-item.is c.loop-name.invariant here
    ∙ sym c.in_ok-push.ensures.items
