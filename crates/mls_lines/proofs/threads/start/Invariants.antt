use Rattle.std.proofs.Common.{◌+◌, ◌≤◌, vec_capacity, vec_len}
use Rattle.mls_lines.proofs.threads.start.Given as goal

abbrev pub invariant-loop-name_thread : goal.invariant-loop-name_thread
invariant-loop-name_thread g l = vec_len l.handles + vec_len l.name_threads ≤ vec_capacity l.handles

abbrev pub decreases-loop-name_thread : goal.decreases-loop-name_thread
decreases-loop-name_thread g l = vec_len l.name_threads

abbrev pub decreases-loop-handle : goal.decreases-loop-handle
decreases-loop-handle g l = vec_len l.handles
