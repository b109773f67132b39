-- What the sweep knows where a band begins.
use Rattle.std.proofs.Common.{◌≡◌, ℕ, List, Vec, Global}
use Rattle.mls_geom.proofs.Definitions.{AreEvents, ArePlanted, Awaits, line_of, present_before, IsTree, AreLegal, Step, Event, Piece, Segment, Tree}

pub awaits :
    (step : Step) (lines : List ℕ) (pieces : List Piece) (line at : ℕ) (events : List Event) (tree : Tree) (segments : Vec Segment Global) → line ≡ at → AreLegal pieces
    → ArePlanted lines pieces segments.items → tree.segments ≡ segments → AreEvents (line_of step) at pieces events → IsTree tree (present_before step pieces line)
    → Awaits step lines pieces line events tree
awaits step lines pieces line at events tree segments is legal planted same are present =
    record { legal = legal; planted = rw same planted; steps = rw is are; present = present }
