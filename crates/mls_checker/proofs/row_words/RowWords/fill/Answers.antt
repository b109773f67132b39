use Rattle.std.proofs.Common.{◌≡◌, ◌≤◌, ◌||◌, ◌&&◌, ◌++◌, length, take, drop, ap, refl, subst, arith}
use Rattle.mls_kinds.specs.KindSets.{has_bit}
use Rattle.mls_checker.specs.Grids.{RowWords, has_square, is_between}
use Rattle.mls_checker.proofs.Stacks.{given-back, stacks-gain, words-gain}
use Rattle.mls_checker.proofs.row_words.RowWords.fill.Goals as goal

pub returns-then-to-from-lt-STACK-clause-squares : goal.returns-then-to-from-lt-STACK-clause-squares
returns-then-to-from-lt-STACK-clause-squares c r k =
    let words = c.self.inside.words.items in
    let stacks = c.self.inside.stacks.items in
    let more = is_between c.args.from c.args.to r && has_bit c.args.columns k in
    let given = c.fill.new.words in
    let lent = c.deref_mut.result.now in
    let value = c.deref_mut.ensures.value in
    let same = c.fill.auto.words in
    let old : RowWords = record { words = words; stacks = stacks } in
    let new : RowWords = record { words = take c.self.inside.words.len (given ++ drop (length given) words); stacks = stacks } in
    subst (λ (rows : RowWords). has_square new r k ≡ (has_square rows r k || more)) c.self.view_is
    (words-gain old new lent given r k more value same (given-back words lent given _ value same c.deref_mut.ensures.len) refl (c.fill.ensures r k))

pub returns-else-to-from-lt-STACK-clause-squares : goal.returns-else-to-from-lt-STACK-clause-squares
returns-else-to-from-lt-STACK-clause-squares c r k =
    let words = c.self.inside.words.items in
    let stacks = c.self.inside.stacks.items in
    let old : RowWords = record { words = words; stacks = stacks } in
    let more = is_between c.args.from c.args.to r && has_bit c.args.columns k in
    let given = c.stack.new.stacks in
    let lent = c.deref_mut-else-to-from-lt-STACK.result.now in
    let value = c.deref_mut-else-to-from-lt-STACK.ensures.value in
    let within : c.args.to ≤ length words = omega (arith, ap (λ (rows : RowWords). length rows.words) c.self.view_is) in
    let new : RowWords = record { words = words; stacks = take c.self.inside.stacks.len (given ++ drop (length given) stacks) } in
    subst (λ (rows : RowWords). has_square new r k ≡ (has_square rows r k || more)) c.self.view_is
    (stacks-gain old new lent given c.args.from c.args.to c.args.columns r k value refl
    (given-back stacks lent given _ value c.stack.auto.stacks c.deref_mut-else-to-from-lt-STACK.ensures.len) within (c.stack.ensures r k))
