use Rattle.std.proofs.Common.{length, sym, ap, subst, ◌∙◌}
use Rattle.std.proofs.lemmas.Bool.{both_ways, false≢true}
use Rattle.mls_errorplane.proofs.Common.{ErrorPlane, Snapshot, checking_of, first_piece_of, flat_layout}
use Rattle.mls_errorplane.proofs.FinishedFindings.{IsShown, fresh-same, made-fresh}
use Rattle.mls_errorplane.proofs.error_plane.ErrorPlane.is_fresh.Goals as goal

pub returns-then-not-is_of-clause-fresh : goal.returns-then-not-is_of-clause-fresh
returns-then-not-is_of-clause-fresh c =
    let first = c.in-Some.ensures.piece ∙ ap (λ (e : ErrorPlane). first_piece_of e.dirty) c.self.view_is in (
      λ is. absurd (false≢true is),
      λ fresh. absurd (both_ways c.is_of.result c.if-not-is_of.true
          (c.is_of.ensures.1 (fresh-same c.args.context.now.rules.now (length c.args.planes.now) (flat_layout c.args.workspace.now.pool c.args.context.now.uses c.args.planes.now) (checking_of c.args.workspace.now.pool c.args.self.now) c.args.finding.now c.in-Some.piece first fresh))),
    )

pub returns-clause-fresh : goal.returns-clause-fresh
returns-clause-fresh c =
    let planes = length c.args.planes.now in
    let layout = flat_layout c.args.workspace.now.pool c.args.context.now.uses c.args.planes.now in
    let first = c.in-Some.ensures.piece ∙ ap (λ (e : ErrorPlane). first_piece_of e.dirty) c.self.view_is in (
      λ is. made-fresh c.args.context.now.rules.now planes layout (checking_of c.args.workspace.now.pool c.args.self.now) c.args.finding.now c.in-Some.piece first (c.is_of.ensures.0 c.if-not-is_of.false)
          (subst (λ (s : Snapshot). IsShown s planes layout) c.snapshot.ensures (c.same.ensures.same.0 is)),
      λ fresh. c.same.ensures.same.1 (subst (λ (s : Snapshot). IsShown s planes layout) (sym c.snapshot.ensures) (fresh.planes, fresh.zone)),
    )
