-- Each stretch of the piece's slots is marked, or hidden.
use Rattle.mls_geom.proofs.Common.{◌<◌, length, ap, inl, inr, arith, cases_lt, All-push}
use Rattle.mls_geom.specs.declared.part.Span.{Span}
use Rattle.mls_geom.proofs.TopPieces.{IsMarked-more, IsMarked-push, has_slot-in}
use Rattle.mls_geom.proofs.ShownSlots.{span_read}
use Rattle.mls_geom.proofs.kept_sweep.mark.Goals as goal

pub loop-first-preserved-else-len-capacity : goal.loop-first-preserved-else-len-capacity
loop-first-preserved-else-len-capacity c =
    let so_far = c.loop-first.invariant in
    let end = ap (λ (span : Span). span.end) (span_read c.args.tree.now.segments.items c.args.piece c.index.result.now c.requires.known c.index.ensures) in
    let items = c.push_reserved.ensures.items in
    record {
      from = omega (arith, so_far.from);
      hidden = λ present s rank tree from before bare top. elim (cases_lt s c.loop-first.first) [
        | inl earlier ↦ so_far.hidden present s rank tree from earlier (λ marked. bare (rw items (IsMarked-more c.loop-first.marks.items _ s marked))) top
        | inr here ↦ absurd (bare (rw items (IsMarked-push c.loop-first.marks.items _ s here before)))
      ];
      more = λ s marked. rw items (IsMarked-more c.loop-first.marks.items _ s (so_far.more s marked));
      marks = λ lines within are. rw items (All-push (λ (mark : Span). (mark.first < mark.end) × (mark.end < length lines)) c.loop-first.marks.items _
          (so_far.marks lines within are) (omega arith, omega (arith, end, within)));
    }

pub loop-first-preserved : goal.loop-first-preserved
loop-first-preserved c =
    let so_far = c.loop-first.invariant in
    record {
      from = omega (arith, so_far.from);
      hidden = λ present s rank tree from before bare top. elim (cases_lt s c.loop-first.first) [
        | inl earlier ↦ so_far.hidden present s rank tree from earlier bare top
        | inr here ↦ c.shows_from-reach.ensures.hidden c.if-reach.false present s rank tree here (omega arith) top
      ];
      more = so_far.more;
      marks = so_far.marks;
    }

pub returns-clause-hidden : goal.returns-clause-hidden
returns-clause-hidden c = λ present s rank tree has bare top.
    let inside = has_slot-in _ s has in
    c.loop-first.invariant.hidden present s rank tree inside.0 (omega (arith, inside.1, ap (λ (span : Span). span.end) (span_read c.args.tree.now.segments.items c.args.piece c.index.result.now c.requires.known c.index.ensures))) bare top
