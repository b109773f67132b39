-- None of the rules so far forbids anything.
use Rattle.std.proofs.Common.{◌≡◌, false, take}
use Rattle.std.specs.List.{list_any}
use Rattle.mls_geom.specs.Rects.{Point}
use Rattle.mls_checker.specs.Copies.{copied_layout}
use Rattle.mls_checker.specs.Forbids.{forbids}
use Rattle.mls_checker.proofs.idle.are_idle.Given as goal

abbrev pub invariant-loop-rule : goal.invariant-loop-rule
invariant-loop-rule l = (p : Point) → list_any (λ rule. forbids rule (copied_layout l.fn.snapshot) p) (take l.rule-index l.fn.rules) ≡ false
