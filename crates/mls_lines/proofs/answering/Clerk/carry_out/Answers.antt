use Rattle.std.proofs.Common.{true, [], refl}
use Rattle.mls_seat_lines.specs.mls_wire.Replies.{response_text}
use Rattle.mls_seat_lines.specs.mls_wire.declared.line.LineFault.TheVariants.{UnknownCommand}
use Rattle.mls_seat_lines.specs.mls_wire.declared.response.Response.TheVariants.{Fault}
use Rattle.mls_seat_lines.specs.SymbolTables.{book_in}
use Rattle.mls_lines.proofs.AnswerLemmas.{appends_as, appends_none}
use Rattle.mls_lines.proofs.answering.Clerk.carry_out.Goals as goal

pub returns-in-Silent : goal.returns-in-Silent
returns-in-Silent g c = rw c.in-Silent.is ([], true, (refl, refl), refl, appends_none c.args.out.now)

pub returns-in-Close : goal.returns-in-Close
returns-in-Close g c = rw c.in-Close.is c.close.ensures

pub returns-in-Open : goal.returns-in-Open
returns-in-Open g c =
    let (text, does, appended) = c.open.ensures in
    rw c.in-Open.is (text, true, does, c.done.ensures.known, appends_as c.open.result c.done.result _ _ _ c.done.ensures.same appended)

pub returns-in-Audit : goal.returns-in-Audit
returns-in-Audit g c =
    let (text, does, appended) = c.serve.ensures in
    rw c.in-Audit.is (text, true, does, c.done-in-Audit.ensures.known, appends_as c.serve.result c.done-in-Audit.result _ _ _ c.done-in-Audit.ensures.same appended)

pub returns-in-Look : goal.returns-in-Look
returns-in-Look g c =
    let (text, does, appended) = c.serve-in-Look.ensures in
    rw c.in-Look.is (text, true, does, c.done-in-Look.ensures.known, appends_as c.serve-in-Look.result c.done-in-Look.result _ _ _ c.done-in-Look.ensures.same appended)

pub returns-in-Run : goal.returns-in-Run
returns-in-Run g c =
    let (text, does, appended) = c.serve-in-Run.ensures in
    rw c.in-Run.is (text, true, does, c.done-in-Run.ensures.known, appends_as c.serve-in-Run.result c.done-in-Run.result _ _ _ c.done-in-Run.ensures.same appended)

pub returns-in-Step : goal.returns-in-Step
returns-in-Step g c =
    let text = response_text (book_in g.N.Scripted.symbols) c.args.n (Fault UnknownCommand) in
    rw c.in-Step.is (text, true, (refl, refl), c.done-in-Step.ensures.known, appends_as c.refuse_steps.result c.done-in-Step.result _ _ _ c.done-in-Step.ensures.same c.refuse_steps.ensures)

pub returns-in-Steps : goal.returns-in-Steps
returns-in-Steps g c =
    let text = response_text (book_in g.N.Scripted.symbols) c.args.n (Fault UnknownCommand) in
    rw c.in-Steps.is (text, true, (refl, refl), c.done-in-Steps.ensures.known, appends_as c.refuse_steps-in-Steps.result c.done-in-Steps.result _ _ _ c.done-in-Steps.ensures.same c.refuse_steps-in-Steps.ensures)
