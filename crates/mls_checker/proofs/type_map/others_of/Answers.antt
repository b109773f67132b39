use Rattle.std.proofs.Common.{ℕ, not, ap, sym, ◌∙◌, rules}
use Rattle.mls_kinds.specs.KindSets.{has_bit}
use Rattle.mls_checker.specs.Copies.{copied_layout}
use Rattle.mls_checker.proofs.KnownKinds.{held_or_other}
use Rattle.mls_checker.proofs.type_map.others_of.Goals as goal

pub returns-then-len : goal.returns-then-len
returns-then-len c x y =
    let kind = copied_layout c.args.snapshot.now c.args.plane x y in
    held_or_other c.args.types c.in_ok-kinds.kinds kind (search rules) (c.in_ok-kinds.ensures x y) ∙ sym (ap (λ (set : ℕ). not (has_bit set kind)) c.difference-others.ensures)
