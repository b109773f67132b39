use Rattle.std.proofs.Common.{◌++◌, ℕ, List, ap, ◌∙◌}
use Rattle.std.specs.List.{flat_map, list_all}
use Rattle.mls_crew.specs.Groups.{GroupText}
use Rattle.mls_crew.proofs.Results.{if_ok-both}
use Rattle.mls_crew.proofs.batch.serve_at.Goals as goal

pub returns : goal.returns
returns g c =
    let sorted = c.in_ok-sorting.sorting in
    let groups = c.in_ok-groups.groups.items in
    let text_of = λ (group : GroupText). group.text in
    let audited_of = λ (group : GroupText). group.audited in
    if_ok-both c.gather.result _ _ _ (λ output text audited. record {
      sorted = sorted;
      sorts = c.in_ok-sorting.ensures.sorts;
      groups = groups;
      gives = c.in_ok-groups.ensures;
      order = text ∙ ap (λ (head : List ℕ). head ++ flat_map text_of c.deref.result.now) c.into_head.ensures
          ∙ ap (λ (texts : List GroupText). sorted.head ++ flat_map text_of texts) c.deref.ensures.value;
      all = audited ∙ ap (λ (texts : List GroupText). list_all audited_of texts) c.deref.ensures.value;
    }) c.gather.ensures.text c.gather.ensures.audited
