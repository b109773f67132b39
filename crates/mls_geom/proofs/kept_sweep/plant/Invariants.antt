-- The pieces so far are planted.
use Rattle.std.proofs.Common.{◌+◌, ◌≤◌, length, vec_capacity}
use Rattle.mls_geom.specs.Sweep.Trees.{IsTree, none}
use Rattle.mls_geom.proofs.PlantedPieces.{AreFirstPlanted}
use Rattle.mls_geom.proofs.kept_sweep.plant.Given as goal

abbrev pub invariant-loop-piece : goal.invariant-loop-piece
invariant-loop-piece l = record {
  tree : IsTree l.tree none;
  planted : AreFirstPlanted l.lines l.pieces l.piece-index l.tree.segments.items;
  slots : length l.lines ≤ l.tree.width + 1;
  room : length l.pieces ≤ vec_capacity l.tree.segments;
}
