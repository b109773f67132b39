-- Where the piece is present it is marked: once it has begun, and before it ends.
use Rattle.mls_geom.proofs.Common.{Vec, Global, subst, on_ok_weaker}
use Rattle.mls_geom.proofs.Definitions.{HaveChangedTops, with_piece, Segment}
use Rattle.mls_geom.proofs.TopPieces.{HaveChangedTops-with, HaveChangedTops-without}
use Rattle.mls_geom.proofs.kept_sweep.move_piece.Goals as goal

pub returns-in_ok-change-in-Begins-clause-tops : goal.returns-in_ok-change-in-Begins-clause-tops
returns-in_ok-change-in-Begins-clause-tops c = rw c.in-Begins.is (on_ok_weaker c.mark.result
    (λ hidden present tree next.
    let with = with_piece present c.args.piece in
    subst (λ (v : Vec Segment Global). HaveChangedTops c.mark.new.marks.items v.items present with) c.change.ensures.segments
    (HaveChangedTops-with c.mark.new.marks.items c.change.new.self.segments.items present c.args.piece
    (λ s rank. hidden with s rank (rw c.in-Begins.is at (c.in_ok-change-in-Begins.ensures.tree present tree (rw c.in-Begins.is next))))))
    c.mark.ensures.hidden)

pub returns-in_ok-mark-in-Ends-clause-tops : goal.returns-in_ok-mark-in-Ends-clause-tops
returns-in_ok-mark-in-Ends-clause-tops c = rw c.in-Ends.is (on_ok_weaker c.change-in-Ends.result
    (λ taken present tree next. HaveChangedTops-without c.mark-in-Ends.new.marks.items c.args.tree.now.segments.items present c.args.piece
    (λ s rank. c.in_ok-mark-in-Ends.ensures.hidden present s rank tree))
    c.change-in-Ends.ensures.tree)
