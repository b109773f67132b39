-- Only interrupted reads have come so far.
use Rattle.std.proofs.Common.{◌≡◌, ◌≤◌, length}
use Rattle.std.specs.Io.KnownBytes.{Keeps}
use Rattle.mls_wire.proofs.watched.Watched.read_some.Given as goal

abbrev pub invariant-tries : goal.invariant-tries
invariant-tries g l =
    record {
      buffer : length l.buffer ≡ length l.initial.buffer;
      bytes : Keeps (g.R.Read.remaining l.initial.self-inside.device) (g.R.Read.remaining l.self-inside.device);
      failed : l.self-inside.failed ≡ l.initial.self-inside.failed;
      calls : l.self-inside.calls_left ≤ l.initial.self-inside.calls_left;
    }

abbrev pub decreases-tries : goal.decreases-tries
decreases-tries g l = l.self-inside.calls_left
