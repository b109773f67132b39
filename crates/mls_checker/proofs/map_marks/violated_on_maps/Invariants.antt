use Rattle.std.proofs.Common.{◌≡◌}
use Rattle.mls_checker.specs.Copies.{copied_layout}
use Rattle.mls_checker.proofs.RuleBits.{violated_among}
use Rattle.mls_checker.proofs.map_marks.violated_on_maps.Given as goal

-- the violated rules among those looked at so far
abbrev pub invariant-loop-index : goal.invariant-loop-index
invariant-loop-index l = record {
  frame : l.marks.frame ≡ l.fn.frame;
  violated : l.violated ≡ violated_among l.rule-items l.fn.rect (copied_layout l.fn.snapshot) l.index;
}
