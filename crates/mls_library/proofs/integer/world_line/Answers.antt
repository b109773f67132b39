use Rattle.std.proofs.Common.{rules, ◌≡◌, true, neg_ℤ, pos, ap, sym, ◌∙◌}
use Rattle.mls_text.specs.Words.{begins_with}
use Rattle.mls_library.specs.Inner.{at_distance, distance_of}
use Rattle.mls_library.proofs.WorldLines.{rest_taken, world_line-negative}
use Rattle.mls_library.proofs.integer.world_line.Goals as goal

pub returns-in-45 : goal.returns-in-45
returns-in-45 c =
    let dash : begins_with 45 c.args.word.now ≡ true = search rules in
    c.line_before_zero.ensures ∙ ap (λ digits. at_distance (λ n. neg_ℤ (pos n)) (distance_of digits)) (rest_taken c.args.word.now) ∙ sym (world_line-negative c.args.word.now dash)
