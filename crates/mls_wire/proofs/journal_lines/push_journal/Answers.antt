use Rattle.mls_wire.proofs.JournalTexts.{journal_text-counted}
use Rattle.mls_wire.proofs.PushedTexts.{appends-same}
use Rattle.mls_wire.proofs.journal_lines.push_journal.Goals as goal

pub returns : goal.returns
returns g c =
    let book = g.N.Names.book c.args.names.now in
    let same = journal_text-counted book c.args.name.now c.args.journal.now c.line_count-lines.result (c.line_count-lines.ensures book c.args.name.now) in
    appends-same c.push_lines.result c.args.out.now c.push_lines.new.out same c.push_lines.ensures
