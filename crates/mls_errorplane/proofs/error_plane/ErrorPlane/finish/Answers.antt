use Rattle.std.proofs.Common.{◌≡◌, length, ap, subst}
use Rattle.mls_errorplane.proofs.Common.{HasStepped, IsFresh, Pool, Stepped, checking_of, flat_layout, stepped_of}
use Rattle.mls_errorplane.specs.declared.error_plane.Stepped.TheVariants.{Done, Full}
use Rattle.mls_errorplane.proofs.CheckedMarks.{flat-AgreeOutside}
use Rattle.mls_errorplane.proofs.FinishedFindings.{fresh-forbidden}
use Rattle.mls_errorplane.proofs.error_plane.ErrorPlane.finish.Goals as goal
use Rattle.mls_errorplane.proofs.error_plane.ErrorPlane.finish.Goals.{After-mark_first}

-- a fresh finding is marked as a step marks the first piece, and so it ends
marked :
    (c : After-mark_first) (how : Stepped) → stepped_of c.mark_first.result ≡ how
    → IsFresh c.args.context.now.rules.now (length c.args.planes.now) (flat_layout c.args.workspace.now.pool c.args.context.now.uses c.args.planes.now) (checking_of c.args.workspace.now.pool c.args.self.now) c.args.finding.now
    × HasStepped c.args.context.now.rules.now (flat_layout c.args.workspace.now.pool c.args.context.now.uses c.args.planes.now) c.args.limit (checking_of c.args.workspace.now.pool c.args.self.now) how
    (checking_of c.mark_first.new.workspace.pool c.mark_first.new.self)
marked c how ends =
    let rules = c.args.context.now.rules.now in
    let pool = c.args.workspace.now.pool in
    let layout = flat_layout pool c.args.context.now.uses c.args.planes.now in
    let new = checking_of c.mark_first.new.workspace.pool c.mark_first.new.self in
    let fresh = c.is_fresh.ensures.fresh.0 c.if-not-is_fresh.false in
    let right = fresh-forbidden rules (length c.args.planes.now) layout (checking_of pool c.args.self.now) c.args.finding.now fresh c.mark_first.ensures.exact
    (flat-AgreeOutside pool c.args.context.now.uses c.args.planes.now c.requires.layout.planes.each) in (
      fresh,
      subst (λ (p : Pool). HasStepped rules layout c.args.limit (checking_of p c.args.self.now) how new) c.is_fresh.ensures.pool
          (subst (λ (s : Stepped). HasStepped rules layout c.args.limit (checking_of c.is_fresh.new.workspace.pool c.args.self.now) s new) ends (c.mark_first.ensures.stepped rules layout fresh.piece right)),
    )

pub returns-in-Ok-clause-finished : goal.returns-in-Ok-clause-finished
returns-in-Ok-clause-finished c =
    let (fresh, step) = marked (goal.at.returns-in-Ok-clause-finished c).After-mark_first Done (ap stepped_of c.in-Ok.is) in
    (fresh, step.1, step.2)

pub returns-in-Err-clause-finished : goal.returns-in-Err-clause-finished
returns-in-Err-clause-finished c =
    let (fresh, step) = marked (goal.at.returns-in-Err-clause-finished c).After-mark_first Full (ap stepped_of c.in-Err.is) in
    (fresh, step.1, step.2)
