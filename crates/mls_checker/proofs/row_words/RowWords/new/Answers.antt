use Rattle.std.proofs.Common.{◌≡◌, ℕ, false, List, sym, subst, arith}
use Rattle.mls_checker.specs.Grids.{stacked}
use Rattle.mls_checker.proofs.Stacks.{no-squares, none-stacked}
use Rattle.mls_checker.proofs.row_words.RowWords.new.Goals as goal

pub invariant_of-result : goal.invariant_of-result
invariant_of-result c =
    let zeros = c.in_ok-stacks.ensures.items_if_clones_equal (λ y is. is) in
    (omega (arith, c.in_ok-words.ensures.len, c.in_ok-stacks.ensures.len), λ none r k. subst (λ (ws : List ℕ). stacked 16 ws r k ≡ false) (sym zeros) (none-stacked 16 _ r k))

pub returns-clause-none : goal.returns-clause-none
returns-clause-none c r k =
    let zeros = c.in_ok-stacks.ensures.items_if_clones_equal (λ y is. is) in
    no-squares (record { words = c.in_ok-words.words.items; stacks = c.in_ok-stacks.stacks.items }) _ r k (c.in_ok-words.ensures.items_if_clones_equal (λ y is. is))
    (subst (λ (ws : List ℕ). stacked 16 ws r k ≡ false) (sym zeros) (none-stacked 16 _ r k))
