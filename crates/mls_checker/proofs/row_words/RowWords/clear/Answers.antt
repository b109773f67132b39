use Rattle.std.proofs.Common.{not, ◌&&◌, ◌++◌, length, take, drop, ap, ◌∙◌}
use Rattle.mls_kinds.specs.KindSets.{has_bit}
use Rattle.mls_checker.specs.Grids.{RowWords, has_column, has_square, is_between, stacked}
use Rattle.mls_checker.proofs.Stacks.{given-back, words-lose}
use Rattle.mls_checker.proofs.row_words.RowWords.clear.Goals as goal

pub returns-clause-squares : goal.returns-clause-squares
returns-clause-squares c r k =
    let words = c.self.inside.words.items in
    let stacks = c.self.inside.stacks.items in
    let less = not (is_between c.args.from c.args.to r && has_bit c.args.columns k) in
    let given = c.clear.new.words in
    let lent = c.deref_mut.result.now in
    let value = c.deref_mut.ensures.value in
    let new : RowWords = record { words = take c.self.inside.words.len (given ++ drop (length given) words); stacks = stacks } in
    words-lose new given lent words r k (has_square c.args.self.now r k) less (given-back words lent given _ value c.clear.auto.words c.deref_mut.ensures.len) value
    (ap (λ (rows : RowWords). stacked 16 rows.stacks r k) c.self.view_is ∙ c.lay_out.ensures.none r k) (c.clear.ensures r k)
    (ap (λ (rows : RowWords). has_column rows.words r k) c.self.view_is ∙ c.lay_out.ensures.squares r k)
