use Rattle.std.proofs.Common.{List, ap, sym, ◌∙◌, rules, tests}
use Rattle.std.specs.List.{list_any}
use Rattle.std.proofs.lemmas.Iterator.{YieldsList-from_slice}
use Rattle.std.proofs.lemmas.Iterator.Search.{any_from_yields_List}
use Rattle.mls_errorplane.proofs.Common.{EdgeRule, forbids_space}
use Rattle.mls_errorplane.proofs.EmptyLayouts.{forbids_any_of_space}
use Rattle.mls_errorplane.proofs.opening.forbid_empty_layout.Goals as goal

pub returns : goal.returns
returns c =
    any_from_yields_List forbids_space _ _ c.any.result c.any.ensures.ran (YieldsList-from_slice c.as_slice.result.now cc) (λ x b q k. search (rules, tests))
    ∙ ap (λ (rules : List EdgeRule). list_any forbids_space rules) c.as_slice.ensures.value
    ∙ sym (forbids_any_of_space c.args.rules.now)
