use Rattle.std.proofs.Common.{rules, ◌≡◌, Ok, map, subst, sym}
use Rattle.mls_tech.specs.Readings.{Tech, reading_of}
use Rattle.mls_lines.specs.mls_server.Servers.{world_of}
use Rattle.mls_lines.proofs.mls_wire.Results.{if_err}
use Rattle.mls_magicd.specs.CommandLines.{file_of}
use Rattle.mls_magicd.specs.Programs.{bare_world}
use Rattle.mls_magicd.specs.Technologies.{text_in}
use Rattle.mls_magicd.proofs.CellLoads.{LoadsCells-tech}
use Rattle.mls_magicd.proofs.Ends.{fails-over, started}
use Rattle.mls_magicd.proofs.program.start_batch.Goals as goal

pub returns-in_err-server-clause-err : goal.returns-in_err-server-clause-err
returns-in_err-server-clause-err g c =
    let read = c.in_ok-text in
    if_err c.from_residual-in_err-server.result _ _ c.from_residual-in_err-server.ensures (λ words parsed.
    fails-over (g.F.Files.reads_as c.args.files.now) (g.F.Files.may_fail c.args.files.now) words g.E.Write.contents c.args.faults.now c.read_technology.new.faults
    (bare_world c.args.options.now read.field-0.tech read.field-0.rules) (map file_of c.args.options.now.cells.items) (read.ensures.bare words parsed) parsed.cells read.ensures.reported _ c.in_err-server.ensures.err)

pub returns-clause-ok : goal.returns-clause-ok
returns-clause-ok g c words parsed =
    let read = c.in_ok-text in
    started (g.F.Files.reads_as c.args.files.now) (g.F.Files.may_fail c.args.files.now) words g.E.Write.contents c.args.faults.now c.read_technology.new.faults
    (bare_world c.args.options.now read.field-0.tech read.field-0.rules) (map file_of c.args.options.now.cells.items) (read.ensures.bare words parsed) parsed.cells read.ensures.reported (world_of c.in_ok-server.server) c.in_ok-server.ensures.loads

pub returns-clause-tech : goal.returns-clause-tech
returns-clause-tech g c =
    let read = c.in_ok-text in
    let same = LoadsCells-tech (g.F.Files.reads_as c.args.files.now) (bare_world c.args.options.now read.field-0.tech read.field-0.rules) (world_of c.in_ok-server.server)
    (map file_of c.args.options.now.cells.items) c.in_ok-server.ensures.loads in
    let text : reading_of (text_in read.field-0.text) ≡ Ok (world_of c.in_ok-server.server).setting.tech =
    subst (λ (tech : Tech). reading_of (text_in read.field-0.text) ≡ Ok tech) (sym same) read.ensures.text in
    search rules
