use Rattle.std.proofs.Common.{◌≡◌, ◌≤◌, vec_capacity, vec_len}
use Rattle.std.specs.List.{All}
use Rattle.mls_paint.proofs.plans.new_plans.Given as goal

-- the plans so far have their room, and there is room for the others
abbrev pub invariant-loop : goal.invariant-loop
invariant-loop l = record {
  count : vec_len l.plans ≡ l.counter;
  rooms : All (λ plan. plan.room ≡ l.room) l.plans.items;
  pieces : All (λ plan. plan.pieces ≡ l.pieces) l.plans.items;
  reserved : 4 ≤ vec_capacity l.plans;
}
