use Rattle.std.proofs.Common.{rules, ◌+◌, ◌&&◌, arith}
use Rattle.mls_checker.specs.Maps.{has_place}
use Rattle.mls_checker.proofs.MapWords.{bits-of-both}
use Rattle.mls_checker.proofs.map_words.add_common.Goals as goal

pub returns-then-not-is_aligned : goal.returns-then-not-is_aligned
returns-then-not-is_aligned c n within within' =
    c.add_words.ensures (λ m. has_place c.args.one.map.now (m + c.args.one.places) && has_place c.args.other.map.now (m + c.args.other.places)) (λ row word k few made below. search (rules, bits-of-both)) n (omega arith)

pub returns-then-is_aligned : goal.returns-then-is_aligned
returns-then-is_aligned c n within within' =
    c.add_words-then-is_aligned.ensures (λ m. has_place c.args.one.map.now (m + c.args.one.places) && has_place c.args.other.map.now (m + c.args.other.places)) (λ row word k few made below. search (rules, bits-of-both)) n (omega arith)

pub returns-else-is_aligned : goal.returns-else-is_aligned
returns-else-is_aligned c n within within' =
    c.add_words-else-is_aligned.ensures (λ m. has_place c.args.one.map.now (m + c.args.one.places) && has_place c.args.other.map.now (m + c.args.other.places)) (λ row word k few made below. search (rules, bits-of-both)) n (omega arith)
