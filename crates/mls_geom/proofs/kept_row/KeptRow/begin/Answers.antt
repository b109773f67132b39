-- `sort_dedup` keeps the lines, so that the first and the last are the world's.
use Rattle.mls_geom.proofs.Common.{◌≡◌, ap, get_or, ◌∙◌, arith, take_all}
use Rattle.mls_geom.proofs.Definitions.{Rect, world, Piece}
use Rattle.mls_geom.proofs.KeptRuns.{IsKept-none}
use Rattle.mls_geom.proofs.RowLines.{All-between-from_lines, AreCuts-from_piece_lines, ArePieceLines-push}
use Rattle.mls_geom.proofs.kept_row.KeptRow.begin.Goals as goal

pub returns-then-capacity-pieces-clause-kept : goal.returns-then-capacity-pieces-clause-kept
returns-then-capacity-pieces-clause-kept c = λ picture. rw (c.clear-2.ensures.items, c.clear-3.ensures.items) (IsKept-none picture)

pub loop-piece-preserved : goal.loop-piece-preserved
loop-piece-preserved c =
    let pieces = c.args.pieces.now in
    let i = c.loop-piece.piece-index in
    let so_far = c.loop-piece.invariant in
    let legal = c.area-edges.ensures.legal in
    let is : c.piece-item.result ≡ get_or pieces i c.piece-item.result = c.piece-item.is in
    let left : c.edges.inside.left ≡ (get_or pieces i c.piece-item.result).rect.left = ap (λ (e : Rect). e.left) (c.edges.view_is ∙ c.area-edges.ensures.value) ∙ ap (λ (p : Piece). p.rect.left) is in
    let right : c.edges.inside.right ≡ (get_or pieces i c.piece-item.result).rect.right = ap (λ (e : Rect). e.right) (c.edges.view_is ∙ c.area-edges.ensures.value) ∙ ap (λ (p : Piece). p.rect.right) is in
    let rect = c.requires.legal i c.piece-item.result c.loop-piece-test.true in
    record {
      lines = rw (c.push_reserved-in-loop-piece-2.ensures.items, c.push_reserved-in-loop-piece.ensures.items, left, right)
          (ArePieceLines-push world pieces _ i c.piece-item.result so_far.lines c.loop-piece-test.true rect.left_in (omega (arith, rect.wide)) rect.right_in);
      count = omega (arith, so_far.count, c.push_reserved-in-loop-piece-2.ensures.len, c.push_reserved-in-loop-piece.ensures.len);
      room = c.push_reserved-in-loop-piece-2.ensures.capacity ∙ c.push_reserved-in-loop-piece.ensures.capacity ∙ so_far.room;
      marks = so_far.marks;
      row = so_far.row;
      strips = so_far.strips;
    }

pub returns-clause-cuts : goal.returns-clause-cuts
returns-clause-cuts c =
    let all = rw (take_all c.loop-piece.piece-index c.args.pieces.now c.loop-piece-test.false) at c.loop-piece.invariant.lines in
    AreCuts-from_piece_lines world c.args.pieces.now _ _ all c.sort_dedup.ensures.members c.sort_dedup.ensures.ascending

pub returns-clause-between : goal.returns-clause-between
returns-clause-between c =
    let all = rw (take_all c.loop-piece.piece-index c.args.pieces.now c.loop-piece-test.false) at c.loop-piece.invariant.lines in
    All-between-from_lines world c.args.pieces.now _ _ all c.sort_dedup.ensures.members

pub returns-clause-kept : goal.returns-clause-kept
returns-clause-kept c = λ picture. rw (c.loop-piece.invariant.row, c.loop-piece.invariant.strips) (IsKept-none picture)
