use Rattle.std.proofs.Common.{ap, sym, ◌∙◌}
use Rattle.mls_errorplane.specs.Common.{Pool, flat_layout, union, violated_rules, within, zone_of}
use Rattle.mls_errorplane.proofs.ViolatedParts.{violated_rules-parts}
use Rattle.mls_errorplane.proofs.CheckedMarks.{flat-AgreeOutside}
use Rattle.mls_errorplane.proofs.ViolatedNear.{violated_rules-zone}
use Rattle.mls_errorplane.proofs.violated.+why.Goals as goal

pub returns-in-Some-clause-value : goal.returns-in-Some-clause-value
returns-in-Some-clause-value t c =
    let rules = c.args.context.now.rules.now in
    let shown = λ (pool : Pool). flat_layout pool c.args.context.now.uses c.args.planes.now in
    let layout = shown c.args.workspace.now.pool in
    let one = c.in-Some.parts.0 in
    let other = c.in-Some.parts.1 in
    let first = ap shown c.halves.ensures.pool in
    let second = ap shown (c.in_ok-violated.ensures.pool ∙ c.halves.ensures.pool) in
    c.union.ensures
    ∙ ap (λ set. union set c.in_ok-more.more) (c.in_ok-violated.ensures.value ∙ ap (violated_rules rules one) first)
    ∙ ap (union (violated_rules rules one layout)) (c.in_ok-more.ensures.value ∙ ap (violated_rules rules other) second)
    ∙ sym (violated_rules-parts rules c.args.rect one other layout c.in-Some.ensures.halves.squares)

pub returns-clause-value : goal.returns-clause-value
returns-clause-value t c =
    let rules = c.args.context.now.rules.now in
    let rect = c.args.rect in
    let pool = c.args.workspace.now.pool in
    let layout = flat_layout pool c.args.context.now.uses c.args.planes.now in
    let same = ap (λ (p : Pool). flat_layout p c.args.context.now.uses c.args.planes.now) c.halves.ensures.pool in
    c.why-2.ensures ∙ ap (violated_rules rules rect) (c.in_ok-snapshot.ensures.copied ∙ ap (within (zone_of rules rect)) same)
    ∙ violated_rules-zone rules rect layout c.in_ok-snapshot.ensures.legal (flat-AgreeOutside pool c.args.context.now.uses c.args.planes.now c.requires.layout.planes.each)
