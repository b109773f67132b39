use Rattle.std.proofs.Common.{nat_le, ap, ◌∙◌, rules, tests}
use Rattle.std.specs.List.{list_all}
use Rattle.std.proofs.lemmas.Iterator.Consumers.{YieldsList-from_first}
use Rattle.std.proofs.lemmas.Iterator.Search.{all_from_yields_List}
use Rattle.mls_kinds.specs.KindSets.{members}
use Rattle.mls_session.proofs.design.changing.has_types.Goals as goal

pub returns : goal.returns
returns c =
    let types = c.types-types.result in
    all_from_yields_List (λ kind. nat_le kind types) _ _ c.all.result c.all.ensures.ran
    (YieldsList-from_first (λ kind. kind) (λ kinds. kinds) (members c.args.kinds) (c.iter.ensures)) (λ x b q k. search (rules, tests))
    ∙ ap (λ most. list_all (λ kind. nat_le kind most) (members c.args.kinds)) c.types-types.ensures.value
