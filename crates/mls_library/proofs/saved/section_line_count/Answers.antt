use Rattle.std.proofs.Common.{◌≡◌, ◌≤◌, length, sym, ◌∙◌, arith}
use Rattle.mls_library.specs.SavedCells.{of_kind}
use Rattle.mls_library.proofs.SavedTexts.{length-of_kind, length-section_lines-none, length-section_lines-some}
use Rattle.mls_library.proofs.saved.section_line_count.Goals as goal

pub returns-in-0 : goal.returns-in-0
returns-in-0 c name =
    let strips = of_kind c.args.kind c.args.strips.now in
    let count : length strips ≡ c.count_strips.result = length-of_kind c.args.kind c.args.strips.now ∙ sym c.count_strips.ensures.value in
    length-section_lines-none name strips (omega (arith, count, c.in-0.is))

pub returns-in_default : goal.returns-in_default
returns-in_default c name =
    let strips = of_kind c.args.kind c.args.strips.now in
    let count : length strips ≡ c.count_strips.result = length-of_kind c.args.kind c.args.strips.now ∙ sym c.count_strips.ensures.value in
    let some : 1 ≤ c.count_strips.result = omega arith in
    length-section_lines-some name strips c.count_strips.result count some
