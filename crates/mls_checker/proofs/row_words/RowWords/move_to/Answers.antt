use Rattle.std.proofs.Common.{ap, ◌∙◌}
use Rattle.mls_checker.specs.Grids.{RowWords, stacked}
use Rattle.mls_checker.proofs.Stacks.{no-squares}
use Rattle.mls_checker.proofs.row_words.RowWords.move_to.Goals as goal

pub returns-clause-none : goal.returns-clause-none
returns-clause-none c r k =
    no-squares (record { words = c.fill.new.self.items; stacks = c.self.inside.stacks.items }) _ r k (c.fill.ensures.items (λ y is. is))
    (ap (λ (rows : RowWords). stacked 16 rows.stacks r k) c.self.view_is ∙ c.lay_out.ensures.none r k)
