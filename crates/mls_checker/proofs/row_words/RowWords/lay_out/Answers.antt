use Rattle.std.proofs.Common.{◌≡◌, ◌∙◌, ◌++◌, List, ℕ, false, ap, length, take, drop, sym, subst, arith}
use Rattle.std.proofs.lemmas.List.{length-replicate}
use Rattle.mls_checker.specs.Grids.{RowWords, has_column, has_square, stacked}
use Rattle.mls_checker.proofs.Stacks.{bare-words, given-back, laid-out, none-stacked}
use Rattle.mls_checker.proofs.row_words.RowWords.lay_out.Goals as goal

pub invariant_of-self : goal.invariant_of-self
invariant_of-self c =
    let words = c.self.inside.words.items in
    let given = c.lay_out.new.words in
    let lent = c.deref_mut.result.now in
    let value = c.deref_mut.ensures.value in
    let back = given-back words lent given _ value c.lay_out.auto.words c.deref_mut.ensures.len in
    let zeros = c.fill.ensures.items (λ y is. is) in (
      ap length back ∙ omega (arith, ap length zeros, length-replicate {A = ℕ} c.self.inside.stacks.len 0, c.self.invariant.0, ap length value, c.deref.ensures.len, ap length c.deref.ensures.value),
      λ none r k. subst (λ (ws : List ℕ). stacked 16 ws r k ≡ false) (sym zeros) (none-stacked 16 _ r k),
    )

pub returns-then-self-clause-squares : goal.returns-then-self-clause-squares
returns-then-self-clause-squares c r k =
    let words = c.self.inside.words.items in
    let old : RowWords = record { words = words; stacks = c.self.inside.stacks.items } in
    let given = c.lay_out.new.words in
    let lent = c.deref_mut.result.now in
    let value = c.deref_mut.ensures.value in
    let now : List ℕ = take c.self.inside.words.len (given ++ drop (length given) words) in
    subst (λ (rows : RowWords). has_column now r k ≡ has_square rows r k) c.self.view_is
    (laid-out old now lent given c.deref.result.now r k (given-back words lent given _ value c.lay_out.auto.words c.deref_mut.ensures.len) value c.deref.ensures.value (c.lay_out.ensures r k))

pub returns-then-self-clause-none : goal.returns-then-self-clause-none
returns-then-self-clause-none c r k =
    let zeros = c.fill.ensures.items (λ y is. is) in
    subst (λ (ws : List ℕ). stacked 16 ws r k ≡ false) (sym zeros) (none-stacked 16 _ r k)

pub returns-else-self-clause-squares : goal.returns-else-self-clause-squares
returns-else-self-clause-squares c r k =
    let old : RowWords = record { words = c.self.inside.words.items; stacks = c.self.inside.stacks.items } in
    subst (λ (rows : RowWords). has_column rows.words r k ≡ has_square rows r k) c.self.view_is (bare-words old r k (c.self.invariant.1 c.if-self.false r k))
