use Rattle.std.proofs.Common.{◌≡◌, ◌+◌, ◌≤◌, length, vec_len, vec_capacity}
use Rattle.mls_crew.specs.Countdowns.{CountsDown}
use Rattle.mls_crew.proofs.threads.start_seats.Given as goal

abbrev pub invariant-loop-seat : goal.invariant-loop-seat
invariant-loop-seat g l = record {
  count : vec_len l.handles + vec_len l.fresh ≡ length l.part.sorting.now.opened;
  room : length l.part.sorting.now.opened ≤ vec_capacity l.handles;
  wanted : CountsDown (λ session handle. handle.promise ≡ record l.part { session = session }) (vec_len l.fresh) l.handles.items;
}

abbrev pub decreases-loop-seat : goal.decreases-loop-seat
decreases-loop-seat g l = vec_len l.fresh
