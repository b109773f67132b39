use Rattle.std.proofs.Common.{ap, sym, ◌∙◌}
use Rattle.mls_tech.specs.Inner.NameKinds.{spelling_of}
use Rattle.mls_tech.specs.Readings.{add_names}
use Rattle.mls_tech.proofs.NameLemmas.{add_names-none, add_names-misspelled, add_names-twice, add_names-new}
use Rattle.mls_tech.proofs.name_table.NameTable.add_names.Goals as goal

pub returns-then-not-is_spelled : goal.returns-then-not-is_spelled
returns-then-not-is_spelled c =
    let added = add_names (spelling_of c.args.kind) c.args.number c.loop-word.self in
    sym c.loop-word.invariant ∙ ap added c.in-Some.ensures.steps ∙ add_names-misspelled _ _ _ _ _ (sym c.is_spelled.ensures ∙ c.if-not-is_spelled.true)

pub returns-then-is_some : goal.returns-then-is_some
returns-then-is_some c =
    let added = add_names (spelling_of c.args.kind) c.args.number c.loop-word.self in
    sym c.loop-word.invariant ∙ ap added c.in-Some.ensures.steps ∙ add_names-twice _ _ _ _ _ (cc) (cc)

pub loop-word-preserved : goal.loop-word-preserved
loop-word-preserved c =
    let added = add_names (spelling_of c.args.kind) c.args.number c.loop-word.self in
    let same = add_names-new (spelling_of c.args.kind) c.args.number c.loop-word.self c.in-Some.word.now c.next.new.self (cc) (cc) in
    rw c.in_ok-add.ensures (sym same ∙ sym (ap added c.in-Some.ensures.steps) ∙ c.loop-word.invariant)

pub returns : goal.returns
returns c =
    let added = add_names (spelling_of c.args.kind) c.args.number c.loop-word.self in
    sym c.loop-word.invariant ∙ ap added c.in-None.ensures.steps.0 ∙ add_names-none _ _ _
