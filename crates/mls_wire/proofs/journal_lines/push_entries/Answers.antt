use Rattle.mls_wire.specs.JournalLines.{entry_text}
use Rattle.mls_wire.proofs.PushedTexts.{stops_at_piece}
use Rattle.mls_wire.proofs.journal_lines.push_entries.Goals as goal

pub returns-in_err-push_entry : goal.returns-in_err-push_entry
returns-in_err-push_entry g c =
    let text = entry_text (g.N.Names.book c.args.names.now) c.args.name.now in
    let entry = c.entry-item.result in
    stops_at_piece c.from_residual.result c.args.out.now c.push_entry.new.out c.from_residual.ensures.0 text c.args.entries.now entry c.loop-entry.out c.loop-entry.invariant.capacity c.in_err-push_entry.ensures.room c.in_err-push_entry.ensures.capacity
    c.loop-entry.entry-index entry c.loop-entry-test.true c.entry-item.is c.loop-entry.invariant.text
