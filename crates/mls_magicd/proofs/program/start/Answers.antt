use Rattle.std.proofs.Common.{List, ap, map, sym, subst}
use Rattle.std.proofs.lemmas.Result.{err_from_is_err_and}
use Rattle.mls_lines.specs.mls_server.Servers.{world_of}
use Rattle.mls_lines.specs.mls_server.Worlds.{World}
use Rattle.mls_magicd.specs.Cells.{StopsAtCell}
use Rattle.mls_magicd.specs.CommandLines.{file_of}
use Rattle.mls_magicd.specs.Programs.{FailsOver, bare_world, status_after}
use Rattle.mls_magicd.specs.declared.cell_argument.CellArgument.{CellArgument}
use Rattle.mls_magicd.specs.declared.fault.Fault.{Fault}
use Rattle.mls_magicd.proofs.program.start.Goals as goal

pub returns-in_err-load_cells-clause-err : goal.returns-in_err-load_cells-clause-err
returns-in_err-load_cells-clause-err g c =
    let reads_as = g.F.Files.reads_as c.args.files.now in
    let may_fail = g.F.Files.may_fail c.args.files.now in
    let bare = bare_world c.args.options.now c.args.tech c.args.rules in
    let files = map file_of c.args.options.now.cells.items in
    let cause = c.in_err-load_cells.field-0.0 in
    let fault = err_from_is_err_and c.from_residual-in_err-load_cells.result c.from_residual-in_err-load_cells.ensures.1 in
    let stops : StopsAtCell reads_as may_fail (world_of c.in_ok-server.server) files cause =
    subst (λ (cells : List CellArgument). StopsAtCell reads_as may_fail (world_of c.in_ok-server.server) (map file_of cells) cause) c.deref.ensures.value c.in_err-load_cells.ensures.stops in
    rw fault.1 (subst (λ (f : Fault). FailsOver reads_as may_fail bare files f) (sym fault.2)
    (subst (λ (on : World). StopsAtCell reads_as may_fail on files cause) c.in_ok-server.ensures stops))

pub returns-in_err-load_cells-clause-status : goal.returns-in_err-load_cells-clause-status
returns-in_err-load_cells-clause-status g c =
    let fault = err_from_is_err_and c.from_residual-in_err-load_cells.result c.from_residual-in_err-load_cells.ensures.1 in
    rw fault.1 (ap status_after fault.2)
