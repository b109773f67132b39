-- `sort_dedup` keeps the lines, so that the first and the last are the world's.
use Rattle.mls_geom.proofs.Common.{slice_index, ap, ◌∙◌, arith, take_all, slice_get-get_or}
use Rattle.mls_geom.proofs.Definitions.{Rect, world}
use Rattle.mls_geom.proofs.RowLines.{AreBetweenLines-from_lines, AreCuts-from_lines, AreLines-push}
use Rattle.mls_geom.proofs.row.list_lines.Goals as goal

pub loop-i-preserved : goal.loop-i-preserved
loop-i-preserved c =
    let pieces = c.args.pieces.now in
    let active = c.args.active.now in
    let i = slice_index active c.loop-i.i-index in
    let is = slice_get-get_or pieces i c.index-pieces-i.result (c.requires.within c.loop-i.i-index 0 c.loop-i-test.true) in
    let legal = c.area-edges.ensures.legal in
    record {
      lines = rw (c.push_reserved-in-loop-i-2.ensures.items, c.push_reserved-in-loop-i.ensures.items, ap (λ (e : Rect). e.left) (c.edges.view_is ∙ c.area-edges.ensures.value), ap (λ (e : Rect). e.right) (c.edges.view_is ∙ c.area-edges.ensures.value))
          (AreLines-push world pieces active _ _ _ c.loop-i.invariant.lines c.loop-i-test.true is legal.left_in (omega (arith, legal.wide)) legal.right_in);
      count = omega arith;
      room = cc;
    }

pub returns-clause-cuts : goal.returns-clause-cuts
returns-clause-cuts c =
    let all = rw (take_all c.loop-i.i-index c.args.active.now c.loop-i-test.false) at c.loop-i.invariant.lines in
    AreCuts-from_lines world c.args.pieces.now c.args.active.now _ _ all c.sort_dedup.ensures.members c.sort_dedup.ensures.ascending

pub returns-clause-between : goal.returns-clause-between
returns-clause-between c =
    let all = rw (take_all c.loop-i.i-index c.args.active.now c.loop-i-test.false) at c.loop-i.invariant.lines in
    AreBetweenLines-from_lines world c.args.pieces.now c.args.active.now _ _ all c.sort_dedup.ensures.members
