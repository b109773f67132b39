-- What is gone from `rest` was written.
use Rattle.std.proofs.Common.{◌≡◌, ◌≤◌, ℕ, List, [], ◌++◌, length}
use Rattle.std.specs.Io.KnownBytes.{Appends}
use Rattle.mls_wire.proofs.watched.Watched.write_whole.Given as goal

abbrev pub invariant-chunks : goal.invariant-chunks
invariant-chunks g l =
    record {
      front : List ℕ;
      whole : l.initial.rest ≡ front ++ l.rest;
      written : Appends (g.W.Write.contents l.initial.self.device) (g.W.Write.contents l.self.device) front;
      empty : l.initial.rest ≡ [] → l.self ≡ l.initial.self;
      failed : l.self.failed ≡ l.initial.self.failed;
      calls : l.self.calls_left ≤ l.initial.self.calls_left;
    }

abbrev pub decreases-chunks : goal.decreases-chunks
decreases-chunks g l = length l.rest
