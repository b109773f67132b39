use Rattle.std.proofs.Common.{◌≡◌, ◌+◌, min, take}
use Rattle.mls_text.specs.Digits.{value_of}
use Rattle.mls_text.proofs.digits.value_at_most.Given as goal

abbrev pub invariant-loop-digit : goal.invariant-loop-digit
invariant-loop-digit l = l.value ≡ min (value_of (take l.digit-index l.digits)) (l.limit + 1)
