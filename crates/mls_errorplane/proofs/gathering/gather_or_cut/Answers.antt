use Rattle.std.proofs.Common.{◌≡◌, ap, subst, ◌∙◌}
use Rattle.mls_errorplane.specs.Common.{GainSomeViolations, GainViolations, Layout, Pool, copied_layout, flat_layout, within, zone_of}
use Rattle.mls_errorplane.proofs.CheckedMarks.{flat-AgreeOutside}
use Rattle.mls_errorplane.proofs.GatheredViolations.{GainSomeViolations-none, GainSomeViolations-zone, GainViolations-zone}
use Rattle.mls_errorplane.proofs.gathering.gather_or_cut.Goals as goal
use Rattle.mls_errorplane.proofs.gathering.gather_or_cut.Goals.{After-find}

pub returns-in-Some-clause-some : goal.returns-in-Some-clause-some
returns-in-Some-clause-some c = GainSomeViolations-none _ _ _ _ _

-- what was copied is the layout as it was before
copied :
    (c : After-find)
    → copied_layout c.in_ok-snapshot.snapshot ≡ within (zone_of c.args.context.now.rules.now c.args.rect) (flat_layout c.args.workspace.now.pool c.args.context.now.uses c.args.planes.now)
copied c =
    c.in_ok-snapshot.ensures.copied
    ∙ ap (λ (p : Pool). within (zone_of c.args.context.now.rules.now c.args.rect) (flat_layout p c.args.context.now.uses c.args.planes.now)) c.halves.ensures.pool

pub returns-then-is_gathered-clause-gathered : goal.returns-then-is_gathered-clause-gathered
returns-then-is_gathered-clause-gathered c none =
    let rules = c.args.context.now.rules.now in
    let pool = c.args.workspace.now.pool in
    let layout = flat_layout pool c.args.context.now.uses c.args.planes.now in
    let same = copied (goal.at.returns-then-is_gathered-clause-gathered c).After-find in
    GainViolations-zone rules c.args.of c.args.rect layout c.args.found.now c.find.new.self c.in_ok-snapshot.ensures.legal (flat-AgreeOutside pool c.args.context.now.uses c.args.planes.now c.requires.layout.planes.each)
    (subst (λ (l : Layout). GainViolations rules c.args.of c.args.rect l c.args.found.now c.find.new.self) same (c.in_ok-is_gathered.ensures.found c.if-is_gathered.true))

pub returns-clause-some : goal.returns-clause-some
returns-clause-some c =
    let rules = c.args.context.now.rules.now in
    let pool = c.args.workspace.now.pool in
    let layout = flat_layout pool c.args.context.now.uses c.args.planes.now in
    let same = copied (goal.at.returns-clause-some c).After-find in
    GainSomeViolations-zone rules c.args.of c.args.rect layout c.args.found.now c.find.new.self c.in_ok-snapshot.ensures.legal (flat-AgreeOutside pool c.args.context.now.uses c.args.planes.now c.requires.layout.planes.each)
    (subst (λ (l : Layout). GainSomeViolations rules c.args.of c.args.rect l c.args.found.now c.find.new.self) same (c.in_ok-is_gathered.ensures.some c.if-is_gathered.false))
