-- Each piece is listed with its line, and then all are put in order.
use Rattle.mls_geom.proofs.Common.{rules, ◌≡◌, length, ◌∙◌, arith, always_returns_same}
use Rattle.mls_geom.proofs.Definitions.{line_of, world}
use Rattle.mls_geom.proofs.EventLists.{AllPairs-before, AreEvents-sorted, AreListed-push, is_before}
use Rattle.mls_geom.proofs.events.list_events.Goals as goal

pub loop-i-preserved : goal.loop-i-preserved
loop-i-preserved c =
    let piece = c.index-pieces-i in
    record {
      listed = rw c.push_reserved.ensures.items
          (AreListed-push (line_of c.args.step) world.bottom c.args.pieces.now c.loop-i.i _ piece.result c.loop-i.events.items c.loop-i-test.true piece.is c.line.ensures.line c.line.ensures.in_world c.loop-i.invariant.listed);
      count = omega arith;
      room = c.push_reserved.ensures.capacity ∙ c.loop-i.invariant.room;
    }

pub returns-then-ordered : goal.returns-then-ordered
returns-then-ordered c =
    let all : length c.args.pieces.now ≡ c.loop-i.i = omega arith in
    let found = c.is_sorted_by-ordered.ensures.cases is_before (always_returns_same _ (λ a r. r ≡ is_before a.0.now a.1.0.now) _ (λ a r f k. search rules)) in
    AreEvents-sorted (line_of c.args.step) world.bottom c.args.pieces.now c.loop-i.events.items _ (rw all c.loop-i.invariant.listed) c.sort_unstable_by_key.ensures.permutation
    (AllPairs-before _ (rw (c.deref.ensures.value, c.if-ordered.true) at found))
