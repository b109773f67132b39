-- The starts are listed by the indices of their pieces, and then sorted.
use Rattle.mls_geom.proofs.Common.{◌≡◌, length, ap, ◌∙◌, arith, rules, IsNonDecreasingBy-from_sort_by_key}
use Rattle.mls_geom.proofs.Definitions.{Rect, Start}
use Rattle.mls_geom.proofs.Starts.{AreStarts-sorted, NamesPiece-more, pieces_of-more}
use Rattle.mls_geom.proofs.active.list_starts.Goals as goal

pub loop-i-preserved : goal.loop-i-preserved
loop-i-preserved c =
    let piece = c.index-pieces-i in
    let named = NamesPiece-more c.args.pieces.now c.loop-i.i _ piece.result _ c.loop-i-test.true piece.is (ap (λ (e : Rect). e.bottom) (c.edges.view_is ∙ c.area-edges.ensures.value)) c.loop-i.invariant.named in
    record {
      named = rw c.push_reserved.ensures.items named;
      each = rw c.push_reserved.ensures.items (pieces_of-more _ c.loop-i.i _ c.loop-i.invariant.each);
      len = omega arith;
      room = cc;
    }

pub returns-clause-starts : goal.returns-clause-starts
returns-clause-starts c =
    let whole : length c.args.pieces.now ≡ c.loop-i.i = omega arith in
    let sort = c.sort_unstable_by_key in
    AreStarts-sorted c.args.pieces.now c.loop-i.starts.items sort.new.self.items c.loop-i.invariant.named (rw whole c.loop-i.invariant.each) sort.ensures.permutation
    (IsNonDecreasingBy-from_sort_by_key (λ (start : Start). start.bottom) _ sort.ensures.sorted (λ start bottom f called. search rules))
