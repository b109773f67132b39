use Rattle.std.proofs.Common.{rules, ◌+◌, ◌||◌, arith}
use Rattle.mls_checker.specs.Maps.{has_place}
use Rattle.mls_checker.proofs.MapWords.{bits-of-either, here-at}
use Rattle.mls_checker.proofs.map_words.add_both.Goals as goal

pub returns-then-is_aligned : goal.returns-then-is_aligned
returns-then-is_aligned c n within =
    c.add_words.ensures (λ m. has_place c.args.other.map.now m || has_place c.args.other.map.now (m + c.args.other.places)) (λ row word k few made below. search (rules, bits-of-either, here-at)) n (omega arith)

pub returns-else-is_aligned : goal.returns-else-is_aligned
returns-else-is_aligned c n within =
    c.add_words-else-is_aligned.ensures (λ m. has_place c.args.other.map.now m || has_place c.args.other.map.now (m + c.args.other.places)) (λ row word k few made below. search (rules, bits-of-either, here-at)) n (omega arith)
