-- The cells so far are loaded.
use Rattle.std.proofs.Common.{◌≡◌, [], map, take}
use Rattle.mls_lines.specs.mls_server.Servers.{world_of}
use Rattle.mls_magicd.specs.Cells.{LoadsCells}
use Rattle.mls_magicd.specs.CommandLines.{file_of}
use Rattle.mls_magicd.proofs.cells.load_cells.Given as goal

abbrev pub invariant-loop-cell : goal.invariant-loop-cell
invariant-loop-cell g l = record {
  loads : LoadsCells (g.F.Files.reads_as l.files) (world_of l.initial.server) (map file_of (take l.cell-index l.cells)) (world_of l.server);
  idle : (world_of l.server).seats ≡ [];
}
