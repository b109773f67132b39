use Rattle.std.proofs.Common.{◌≡◌, ◌-◌, ◌≤◌, true, length}
use Rattle.std.specs.List.{count_by, range_with_len}
use Rattle.mls_checker.specs.MarkMaps.{IsMarkMap, mapped}
use Rattle.mls_checker.specs.MarkRuns.{HaveBefore}
use Rattle.mls_checker.proofs.RunCounts.{FewRuns}
use Rattle.mls_checker.proofs.runs.push_row.Given as goal

-- the runs before this column were added and counted
abbrev pub invariant-runs : goal.invariant-runs
invariant-runs l = record {
  is_map : IsMarkMap l.map;
  first : l.map.rect.left ≤ l.from;
  last : l.from ≤ l.map.rect.right;
  starts : mapped l.map l.from l.row ≡ true → l.from ≡ l.map.rect.left;
  have : HaveBefore l.map.rect (mapped l.map) l.row l.from l.areas.items;
  more : length l.fn.areas.items ≤ length l.areas.items;
  few : FewRuns (mapped l.map) l.map.rect l.row l.from (length l.areas.items - length l.fn.areas.items);
  count : l.count ≡ count_by (λ x. mapped l.map x l.row) (range_with_len l.map.rect.left (l.from - l.map.rect.left));
}

abbrev pub decreases-runs : goal.decreases-runs
decreases-runs l = l.map.rect.right - l.from
