use Rattle.std.proofs.Common.{ap, ◌∙◌, rules}
use Rattle.mls_kinds.specs.KindSets.{has_bit}
use Rattle.mls_checker.specs.Copies.{copied_layout}
use Rattle.mls_checker.proofs.KnownKinds.{held_in_common}
use Rattle.mls_checker.proofs.type_map.shown_of.Goals as goal

pub returns-in-Some : goal.returns-in-Some
returns-in-Some c x y =
    let kind = copied_layout c.args.snapshot.now c.args.plane x y in
    ap (λ set. has_bit set kind) c.intersection.ensures ∙ held_in_common c.args.types c.in-Some.kinds kind (search rules) (c.in-Some.ensures x y)
