-- The lines cut the row into slots, which are painted and joined. No more pieces are active than there are, so all of it fits.
use Rattle.mls_geom.proofs.Common.{◌≡◌, length, vec_len, arith, take_at}
use Rattle.mls_geom.proofs.Definitions.{laid, world}
use Rattle.mls_geom.proofs.ActivePieces.{active_fit, active_within}
use Rattle.mls_geom.proofs.row.Row.find_runs.Goals as goal

pub list_lines-requires-clause-within : goal.list_lines-requires-clause-within
list_lines-requires-clause-within c = active_within c.args.pieces.now c.args.y c.args.active.now c.requires.active

pub list_lines-requires-clause-no_more : goal.list_lines-requires-clause-no_more
list_lines-requires-clause-no_more c = active_fit c.args.pieces.now c.args.y c.args.active.now c.requires.active

pub returns-clause-runs : goal.returns-clause-runs
returns-clause-runs c =
    let whole : length c.paint_slots.new.kinds ≡ vec_len c.resize.new.self = omega arith in
    c.join_slots.ensures.runs world (laid c.args.pieces.now) c.args.y (rw c.deref-2.ensures.value c.list_lines.ensures.cuts)
    (rw (c.deref-2.ensures.value, c.deref-3.ensures.value, take_at c.paint_slots.new.kinds _ _ whole, ← c.deref.ensures.value) (c.paint_slots.ensures.kinds c.args.y c.requires.active))
