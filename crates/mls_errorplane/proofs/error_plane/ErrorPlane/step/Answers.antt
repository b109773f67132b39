use Rattle.std.proofs.Common.{◌≡◌, Some, sym, ap, subst, ◌∙◌}
use Rattle.mls_errorplane.proofs.Common.{AreRight, ErrorPlane, HasStepped, Pool, Rect, Stepped, checking_of, first_piece_of, flat_layout, marks, stepped_of}
use Rattle.mls_errorplane.specs.declared.error_plane.Stepped.TheVariants.{Done, Full}
use Rattle.mls_errorplane.proofs.error_plane.ErrorPlane.step.Goals as goal
use Rattle.mls_errorplane.proofs.error_plane.ErrorPlane.step.Goals.{After-mark_first}

-- what was found is marked as a step marks it, and so it ends
marked :
    (c : After-mark_first) (how : Stepped) → stepped_of c.mark_first.result ≡ how
    → HasStepped c.args.context.now.rules.now (flat_layout c.args.workspace.now.pool c.args.context.now.uses c.args.planes.now) c.args.limit (checking_of c.args.workspace.now.pool c.args.self.now) how
    (checking_of c.mark_first.new.workspace.pool c.mark_first.new.self)
marked c how ends =
    let rules = c.args.context.now.rules.now in
    let layout = flat_layout c.args.workspace.now.pool c.args.context.now.uses c.args.planes.now in
    let new = checking_of c.mark_first.new.workspace.pool c.mark_first.new.self in
    let finding = c.in-Ok.finding in
    let found = subst (λ (e : Rect). AreRight rules layout (marks finding.marks) e) (sym c.in-Ok.ensures.piece) c.in-Ok.ensures.marks in
    let first = ap (λ (e : ErrorPlane). first_piece_of e.dirty) (sym c.self.view_is) ∙ sym c.in-Some.ensures.piece ∙ ap (λ (e : Rect). Some e) (sym c.in-Ok.ensures.piece) in
    subst (λ (p : Pool). HasStepped rules layout c.args.limit (checking_of p c.args.self.now) how new) c.check_piece.ensures.pool
    (subst (λ (s : Stepped). HasStepped rules layout c.args.limit (checking_of c.check_piece.new.workspace.pool c.args.self.now) s new) ends (c.mark_first.ensures.stepped rules layout first found))

pub returns-in-Ok-mark_first-clause-stepped : goal.returns-in-Ok-mark_first-clause-stepped
returns-in-Ok-mark_first-clause-stepped c = marked (goal.at.returns-in-Ok-mark_first-clause-stepped c).After-mark_first Done (ap stepped_of c.in-Ok-mark_first.is)

pub returns-clause-stepped : goal.returns-clause-stepped
returns-clause-stepped c = marked (goal.at.returns-clause-stepped c).After-mark_first Full (ap stepped_of c.in-Err.is)
