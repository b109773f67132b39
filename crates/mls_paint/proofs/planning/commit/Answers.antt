-- What the plan has worked out takes the place of the tiles that it found, which are the plane's.
use Rattle.std.proofs.Common.{sym, ap, rules}
use Rattle.mls_paint.proofs.KeptPlans.{IsReady-read}
use Rattle.mls_paint.proofs.PaintedPlanes.{IsOverlaid-IsReady, TakePlace-IsReady, number-IsReady, ok_where_room}
use Rattle.mls_paint.proofs.planning.commit.Goals as goal

pub replace-requires-clause-pieces : goal.replace-requires-clause-pieces
replace-requires-clause-pieces c =
    TakePlace-IsReady
    (IsReady-read c.args.scratch.now (ap (λ s. s.plans) (sym c.scratch.view_is)) c.scratch.invariant.3 c.requires.place c.index.ensures c.requires.strips c.requires.plan c.replacement-replacement.ensures.changes)

pub unwrap-requires : goal.unwrap-requires
unwrap-requires c =
    let ready = IsReady-read c.args.scratch.now (ap (λ s. s.plans) (sym c.scratch.view_is)) c.scratch.invariant.3 c.requires.place c.index.ensures c.requires.strips c.requires.plan c.replacement-replacement.ensures.changes in
    ok_where_room c.replace.result _ _ _ _ _ c.requires.fits (number-IsReady ready) c.replace.ensures.no_room.0

pub returns : goal.returns
returns c =
    let ready = IsReady-read c.args.scratch.now (ap (λ s. s.plans) (sym c.scratch.view_is)) c.scratch.invariant.3 c.requires.place c.index.ensures c.requires.strips c.requires.plan c.replacement-replacement.ensures.changes in
    let painted = IsOverlaid-IsReady ready (rw c.unwrap.ensures at c.replace.ensures.replaced) c.replace.ensures.home in
    record {
      picture = painted.picture;
      strips = painted.strips;
      kept = painted.kept;
      only = search rules;
      plane = search rules;
      plans = search rules;
      rooms = search rules;
    }
