use Rattle.std.proofs.Common.{map}
use Rattle.std.proofs.lemmas.Result.{IfOk-weaker}
use Rattle.mls_lines.specs.mls_server.Servers.{world_of}
use Rattle.mls_magicd.specs.Cells.{LoadsCells}
use Rattle.mls_magicd.specs.CommandLines.{file_of}
use Rattle.mls_magicd.specs.Programs.{bare_world}
use Rattle.mls_magicd.proofs.Ends.{started}
use Rattle.mls_magicd.proofs.program.start_alone.Goals as goal

pub returns-clause-ok : goal.returns-clause-ok
returns-clause-ok g c =
    let read = c.in_ok-tech in
    let reads_as = g.F.Files.reads_as c.args.files.now in
    let bare = bare_world c.args.options.now read.field-0.tech read.field-0.rules in
    let files = map file_of c.args.options.now.cells.items in
    IfOk-weaker c.start.result (λ server. LoadsCells reads_as bare files (world_of server)) _ (λ server loads words parsed.
    started reads_as (g.F.Files.may_fail c.args.files.now) words g.E.Write.contents c.args.faults.now c.read_technology.new.faults bare files
    (read.ensures.bare words parsed) parsed.cells read.ensures.reported (world_of server) loads) c.start.ensures.loads
