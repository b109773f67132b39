use Rattle.mls_checker.specs.Copies.{AreListsOf, copied_layout}
use Rattle.mls_checker.proofs.GainedAreas.{GainSoFar}
use Rattle.mls_checker.proofs.violations.add_areas.Given as goal

-- the listed sides are the snapshot's, and the rules so far have gained what they forbid
abbrev pub invariant-loop-index : goal.invariant-loop-index
invariant-loop-index l = record {
  sides : AreListsOf l.fn.snapshot l.sides.items;
  gained : GainSoFar l.rule-items l.fn.of l.fn.rect (copied_layout l.fn.snapshot) l.fn.lists l.lists l.index;
}
