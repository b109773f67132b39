use Rattle.std.proofs.Common.{◌≡◌, ◌+◌, ◌≤◌, false}
use Rattle.mls_server.specs.Servers.{world_of}
use Rattle.mls_server.specs.Worlds.{MarksAreExact, MarksAreRight}
use Rattle.mls_wire.specs.LineReaders.{script_ahead, lines_left}
use Rattle.mls_wire.proofs.ServingLemmas.{Serves}
use Rattle.mls_wire.proofs.serving.serve.Given as goal

abbrev pub invariant-lines : goal.invariant-lines
invariant-lines g l = record {
  served : Serves (world_of l.fn.server) (g.R.Read.remaining l.fn.input.device) (g.W.Write.contents l.fn.output.device)
      l.n (script_ahead l.reader (g.R.Read.remaining l.input.device)) (g.W.Write.contents l.output.device) (world_of l.server);
  marks_right : MarksAreRight (world_of l.server);
  marks_exact : MarksAreExact (world_of l.server);
  setting : (world_of l.server).setting ≡ (world_of l.fn.server).setting;
  input_sound : l.input.failed ≡ false;
  output_sound : l.output.failed ≡ false;
  numbered : l.n + lines_left l.reader l.input ≤ 1 + lines_left l.initial.reader l.initial.input;
}

abbrev pub decreases-lines : goal.decreases-lines
decreases-lines g l = lines_left l.reader l.input
