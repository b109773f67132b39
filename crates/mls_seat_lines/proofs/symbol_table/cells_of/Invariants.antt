use Rattle.std.proofs.Common.{◌≡◌, map, take}
use Rattle.mls_wire.specs.mls_server.Servers.{world_of}
use Rattle.mls_wire.specs.mls_server.Settings.{cell_names}
use Rattle.mls_seat_lines.specs.SymbolTables.{cell_named}
use Rattle.mls_seat_lines.proofs.symbol_table.cells_of.Given as goal

abbrev pub invariant-loop-name : goal.invariant-loop-name
invariant-loop-name l = map (λ name. cell_named (cell_names (world_of l.server).setting) name.items) (take l.name-index l.names) ≡ l.cells.items
