-- A kind below 64 joins the set, and no other does.
use Rattle.std.proofs.Common.{ap, ◌∙◌, arith}
use Rattle.mls_kinds.specs.KindSets.{union}
use Rattle.mls_kinds.proofs.KindSetLemmas.{insert_is, insert_none}
use Rattle.mls_kinds.proofs.kind_set.KindSet.insert.Goals as goal
use Rattle.mls_kinds.proofs.kind_set.KindSet.insert.Goals.{then-number-lt64, else-number-lt64}

pub returns-clause-set : goal.returns-clause-set
returns-clause-set c =
    let set = c.args.self.now in
    c.union.ensures ∙ elim c.if-number-lt64.branch [
      | then-number-lt64 w ↦ ap (union set) (w.added-is ∙ w.single-added.ensures) ∙ insert_is set c.args.kind
      | else-number-lt64 w ↦ ap (union set) (w.added-is ∙ w.empty-added.ensures) ∙ insert_none set c.args.kind (omega arith)
    ]
