use Rattle.std.proofs.Common.{◌≡◌, ◌≤◌, length, take, vec_capacity}
use Rattle.mls_server.specs.Events.{Runs}
use Rattle.mls_server.specs.Servers.{world_of}
use Rattle.mls_server.proofs.server.Server.run.Given as goal

-- the events so far have these answers
abbrev pub invariant-loop-event : goal.invariant-loop-event
invariant-loop-event l = record {
  runs : Runs (world_of l.fn.self) (take l.event-index l.events) l.answers.items (world_of l.self);
  count : length l.answers.items ≡ l.event-index;
  room : length l.events ≤ vec_capacity l.answers;
}
