use Rattle.std.proofs.Common.{arith}
use Rattle.mls_library.proofs.EmptyLayouts.{error_line_count-sum, lines-few}
use Rattle.mls_library.proofs.marked.error_line_count.Goals as goal

pub overflow_add-result-2 : goal.overflow_add-result-2
overflow_add-result-2 c =
    omega (arith, c.dirty_line_count.ensures, c.mark_line_count.ensures, c.requires, lines-few c.args.areas.now c.args.strips.now)

pub returns : goal.returns
returns c tech marks are =
    omega (arith, c.dirty_line_count.ensures, c.mark_line_count.ensures, error_line_count-sum tech c.args.areas.now marks c.args.strips.now are)
