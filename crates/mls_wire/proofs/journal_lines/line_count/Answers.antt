use Rattle.std.proofs.Common.{◌+◌, ap, length, ◌∙◌}
use Rattle.std.specs.List.{count_by}
use Rattle.std.specs.Prelude.{if◌then◌else◌, nat_lt}
use Rattle.mls_wire.proofs.JournalTexts.{journal_lines-length}
use Rattle.mls_wire.proofs.journal_lines.line_count.Goals as goal

pub returns : goal.returns
returns c book name =
    let entries = c.entries-entries.ensures in
    let stepped = c.stepped_count.ensures ∙ ap (count_by (λ entry. nat_lt 0 entry.checks_before)) entries in
    let last = c.step_line_count-last.ensures.value ∙ ap (λ n. if nat_lt 0 n then 1 else 0) c.steps.ensures.value in
    (λ i. length (entries i) + stepped i + last i) ∙ journal_lines-length book name c.args.journal.now
