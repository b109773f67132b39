use Rattle.std.proofs.Common.{◌≡◌, ℕ, ◌≤◌, drop, length}
use Rattle.mls_edgerule.specs.Halos.{halo_of}
use Rattle.mls_checker.specs.Copies.{copied_layout}
use Rattle.mls_checker.specs.Maps.{HasDeep, forbidden_by_any}
use Rattle.mls_checker.proofs.map_marks.mark_on_maps.Given as goal

-- the squares are marked that the rules from this one on forbid
abbrev pub invariant-rules : goal.invariant-rules
invariant-rules l = record {
  within : l.index ≤ length l.rules;
  frame : l.marks.frame ≡ l.fn.frame;
  marked : (depth : ℕ) → halo_of l.rules ≤ depth → HasDeep l.fn.frame depth (forbidden_by_any (drop l.index l.rules) (copied_layout l.snapshot)) l.marks.marked.items;
}

abbrev pub decreases-rules : goal.decreases-rules
decreases-rules l = l.index
