use Rattle.std.proofs.Common.{◌≡◌, ◌++◌, take}
use Rattle.std.specs.List.{flat_map, list_all}
use Rattle.mls_crew.proofs.batch.gather.Given as goal

abbrev pub invariant-loop-group : goal.invariant-loop-group
invariant-loop-group l = record {
  text : l.text.items ≡ l.fn.head.items ++ flat_map (λ group. group.text) (take l.group-index l.groups);
  audited : l.audited ≡ list_all (λ group. group.audited) (take l.group-index l.groups);
}
