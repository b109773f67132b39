-- Each piece widens the bounds as far as it reaches.
use Rattle.mls_geom.proofs.Common.{◌<◌, take, subst, arith, take_all, All-more, All-weaker}
use Rattle.mls_geom.proofs.Definitions.{uncovered, Rect, IsRectangleIn, joined, world, Piece}
use Rattle.mls_geom.proofs.JoinedRects.{IsRectangleIn-joined, IsRectangleIn-joined_itself}
use Rattle.mls_geom.proofs.pieces.bounds.Goals as goal

pub loop-piece-preserved : goal.loop-piece-preserved
loop-piece-preserved c =
    let pieces = c.args.pieces.now in
    let i = c.loop-piece.piece-index in
    let so_far = c.loop-piece.invariant in
    let IsLegal : Piece → Type 0 = λ piece. IsRectangleIn world piece.rect in
    let HasByte : Piece → Type 0 = λ piece. piece.kind < uncovered in
    let IsInside : Rect → Piece → Type 0 = λ bounds piece. IsRectangleIn bounds piece.rect in
    let old = c.loop-piece.bounds in
    let new = c.area.result in
    let piece = c.piece-item in
    let within = c.loop-piece-test.true in
    record {
      within = rw c.joined-bounds.ensures (All-more (IsInside (joined old new)) pieces i piece.result within
          (All-weaker (IsInside old) (IsInside (joined old new)) (λ p. IsRectangleIn-joined old new p.rect) (take i pieces) so_far.within)
          (subst (IsInside (joined old new)) piece.is (rw (← c.area.ensures.value) (IsRectangleIn-joined_itself world old new (rw c.area.ensures.value c.area.ensures.legal)))));
      legal = All-more IsLegal pieces i piece.result within so_far.legal (subst IsLegal piece.is c.area.ensures.legal);
      kinds = All-more HasByte pieces i piece.result within so_far.kinds (subst HasByte piece.is c.area.ensures.kind);
    }

pub returns-clause-within : goal.returns-clause-within
returns-clause-within c = rw (take_all c.loop-piece.piece-index c.args.pieces.now (omega arith)) at c.loop-piece.invariant.within

pub returns-clause-legal : goal.returns-clause-legal
returns-clause-legal c = rw (take_all c.loop-piece.piece-index c.args.pieces.now (omega arith)) at c.loop-piece.invariant.legal

pub returns-clause-kinds : goal.returns-clause-kinds
returns-clause-kinds c = rw (take_all c.loop-piece.piece-index c.args.pieces.now (omega arith)) at c.loop-piece.invariant.kinds
