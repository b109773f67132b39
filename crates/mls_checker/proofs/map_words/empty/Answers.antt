use Rattle.std.proofs.Common.{◌/◌, ◌%◌, List, ℕ, ap, ◌∙◌}
use Rattle.mls_checker.specs.Maps.{has_place}
use Rattle.mls_checker.proofs.Stacks.{zero-row}
use Rattle.mls_checker.proofs.map_words.empty.Goals as goal

pub returns : goal.returns
returns c n = ap (λ (words : List ℕ). has_place words n) (c.fill.ensures.after (λ y is. is)) ∙ zero-row _ (n / 64) (n % 64)
