-- The piece in hand stands before those that were visited.
use Rattle.mls_geom.proofs.Common.{◌≡◌, ◌+◌, ◌-◌, ◌∷◌, ◌++◌, [], length, vec_len, vec_capacity, drop, inl, inr, sym, ap, ◌∙◌, arith, drop_more, get_or_default}
use Rattle.mls_geom.proofs.HiddenPieces.{HasShown-hidden, HasShown-listed}
use Rattle.mls_geom.proofs.hidden.list_shown.Goals as goal
use Rattle.mls_geom.proofs.hidden.list_shown.Goals.{then-not-encloses+then-size, then-not-encloses+else-size, else-not-encloses}

pub loop-i-preserved : goal.loop-i-preserved
loop-i-preserved c =
    let pieces = c.args.pieces.now in
    let piece = c.index-pieces-at.result in
    let at = length pieces - 1 - c.loop-i.i in
    let rest = drop (length pieces - c.loop-i.i) pieces in
    let within = c.loop-i-test.true in
    let here : length pieces - (c.loop-i.i + 1) ≡ at = omega arith in
    let next : at + 1 ≡ length pieces - c.loop-i.i = omega (arith, within) in
    let first : drop at pieces ≡ piece ∷ rest = rw next at (drop_more pieces at piece (omega (arith, within)) ∙ ap (λ p. p ∷ drop (at + 1) pieces) (sym c.index-pieces-at.is)) in
    let legal = c.area-area.ensures.legal in
    let kind = c.area-area.ensures.kind in
    let so_far = c.loop-i.invariant in
    elim c.if-not-encloses.branch [
      | then-not-encloses+then-size w ↦
          let again = w.index-pieces-at-then-not-encloses in
          let same : again.result ≡ piece = again.is ∙ get_or_default pieces at again.result piece (omega (arith, within)) ∙ sym c.index-pieces-at.is in
          let items = ap (λ shown. shown.items) w.shown-is ∙ w.push_reserved.ensures.items ∙ ap (λ p. c.loop-i.shown.items ++ p ∷ []) same in
          record {
            visited = rw (here, first, items) (HasShown-listed piece rest c.loop-i.shown.items c.loop-i.greatest c.if-not-encloses.greatest legal kind (inl (w.greatest-is ∙ c.area-area.ensures.value)) so_far.visited);
            len = omega (arith, so_far.len, ap vec_len w.shown-is, w.push_reserved.ensures.len);
            room = ap vec_capacity w.shown-is ∙ w.push_reserved.ensures.capacity ∙ so_far.room;
          }
      | then-not-encloses+else-size w ↦
          let again = w.index-pieces-at-then-not-encloses in
          let same : again.result ≡ piece = again.is ∙ get_or_default pieces at again.result piece (omega (arith, within)) ∙ sym c.index-pieces-at.is in
          let items = ap (λ shown. shown.items) w.shown-is ∙ w.push_reserved.ensures.items ∙ ap (λ p. c.loop-i.shown.items ++ p ∷ []) same in
          record {
            visited = rw (here, first, items) (HasShown-listed piece rest c.loop-i.shown.items c.loop-i.greatest c.if-not-encloses.greatest legal kind (inr w.greatest-is) so_far.visited);
            len = omega (arith, so_far.len, ap vec_len w.shown-is, w.push_reserved.ensures.len);
            room = ap vec_capacity w.shown-is ∙ w.push_reserved.ensures.capacity ∙ so_far.room;
          }
      | else-not-encloses w ↦
          let inside = rw c.area-area.ensures.value at (c.encloses.ensures.0 w.if-not-encloses.false) in
          record {
            visited = rw (here, first, w.shown-is, w.greatest-is) (HasShown-hidden piece rest c.loop-i.shown.items c.loop-i.greatest legal kind inside so_far.visited);
            len = omega (arith, so_far.len, ap vec_len w.shown-is);
            room = ap vec_capacity w.shown-is ∙ so_far.room;
          }
    ]
