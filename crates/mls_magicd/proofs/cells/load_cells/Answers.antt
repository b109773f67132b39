use Rattle.std.proofs.lemmas.Result.{err_from_is_err_and}
use Rattle.mls_lines.specs.mls_server.Servers.{world_of}
use Rattle.mls_magicd.proofs.CellLoads.{LoadsCells-nil, LoadsCells-taken, stops-at}
use Rattle.mls_magicd.specs.CommandLines.{file_of}
use Rattle.mls_magicd.proofs.cells.load_cells.Goals as goal

pub loop-cell-init : goal.loop-cell-init
loop-cell-init g c = record { loads = LoadsCells-nil (g.F.Files.reads_as c.args.files.now) (world_of c.args.server.now); idle = c.requires.idle }

pub returns-in_err-load_cell-clause-stops : goal.returns-in_err-load_cell-clause-stops
returns-in_err-load_cell-clause-stops g c =
    let fault = err_from_is_err_and c.from_residual.result c.from_residual.ensures.1 in
    rw (fault.1, fault.2)
    (stops-at (g.F.Files.reads_as c.args.files.now) file_of c.args.cells.now c.loop-cell.cell-index _ c.loop-cell-test.true (g.F.Files.may_fail c.args.files.now)
    (world_of c.args.server.now) (world_of c.loop-cell.server) c.in_err-load_cell.field-0.0 c.loop-cell.invariant.loads c.in_err-load_cell.ensures.loads.0)

pub loop-cell-preserved : goal.loop-cell-preserved
loop-cell-preserved g c = record {
  loads = LoadsCells-taken (g.F.Files.reads_as c.args.files.now) file_of c.args.cells.now c.loop-cell.cell-index _ c.loop-cell-test.true
      (world_of c.args.server.now) (world_of c.loop-cell.server) (world_of c.load_cell.new.server) c.loop-cell.invariant.loads c.in_ok-load_cell.ensures.loads;
  idle = c.in_ok-load_cell.ensures.idle;
}
