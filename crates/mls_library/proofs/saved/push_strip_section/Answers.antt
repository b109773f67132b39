-- The strips follow the section's heading.
use Rattle.std.proofs.Common.{sym, ◌∙◌}
use Rattle.mls_library.specs.SavedCells.{of_kind}
use Rattle.mls_library.proofs.AppendedTexts.{Appends-nothing, Appends-same, Appends-stopped, Appends-then}
use Rattle.mls_library.proofs.SavedTexts.{section_lines-none, section_lines-some}
use Rattle.mls_library.proofs.saved.push_strip_section.Goals as goal

pub returns-then-section_line_count-eq0 : goal.returns-then-section_line_count-eq0
returns-then-section_line_count-eq0 c =
    let none = sym c.if-section_line_count-eq0.true ∙ c.section_line_count.ensures c.args.name.now in
    Appends-same _ _ _ _ _ (sym (section_lines-none c.args.name.now (of_kind c.args.kind c.args.strips.now) none)) (Appends-nothing tt c.args.out.now)

pub returns-in_err-push_section : goal.returns-in_err-push_section
returns-in_err-push_section c =
    let whole = section_lines-some c.args.name.now (of_kind c.args.kind c.args.strips.now) _ (c.section_line_count.ensures c.args.name.now) c.if-section_line_count-eq0.false in
    Appends-same c.from_residual.result _ _ _ _ whole (Appends-stopped c.from_residual.result _ _ _ _ _ c.from_residual.ensures.0 c.in_err-push_section.ensures)

pub returns : goal.returns
returns c =
    let whole = section_lines-some c.args.name.now (of_kind c.args.kind c.args.strips.now) _ (c.section_line_count.ensures c.args.name.now) c.if-section_line_count-eq0.false in
    Appends-same c.push_strips.result _ _ _ _ whole (Appends-then c.push_strips.result _ _ _ _ _ _ c.in_ok-push_section.ensures c.push_strips.ensures)
