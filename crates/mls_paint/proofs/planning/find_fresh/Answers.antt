-- The pieces are legal, as is all of which the fresh strips are made.
use Rattle.std.proofs.Common.{◌≡◌, List, ◌++◌, subst, rules}
use Rattle.mls_geom.specs.Rects.{IsRectangleIn}
use Rattle.mls_geom.specs.World.{AreLegal, world}
use Rattle.mls_geom.specs.declared.piece.Piece.{Piece}
use Rattle.mls_geom.proofs.ListLemmas.{All-append_right}
use Rattle.mls_paint.proofs.planning.find_fresh.Goals as goal

AreLegal-over : (all touched over : List Piece) → all ≡ touched ++ over → AreLegal all → AreLegal over
AreLegal-over all touched over is legal = All-append_right (λ piece. IsRectangleIn world piece.rect) touched over (subst AreLegal is legal)

pub returns-in_err-fresh-clause-legal : goal.returns-in_err-fresh-clause-legal
returns-in_err-fresh-clause-legal c = AreLegal-over c.deref.result.now c.loop-tile.touched.items c.args.over.now (search rules) c.fresh_strips.ensures.pieces_legal

pub returns-then-limit-fresh-clause-legal : goal.returns-then-limit-fresh-clause-legal
returns-then-limit-fresh-clause-legal c = AreLegal-over c.deref.result.now c.loop-tile.touched.items c.args.over.now (search rules) c.fresh_strips.ensures.pieces_legal

pub returns-clause-legal : goal.returns-clause-legal
returns-clause-legal c = AreLegal-over c.deref.result.now c.loop-tile.touched.items c.args.over.now (search rules) c.fresh_strips.ensures.pieces_legal
