use Rattle.std.proofs.Common.{sym, ◌∙◌, rules, tests}
use Rattle.std.proofs.lemmas.Slice.Eq.{slice_eq-Decides}
use Rattle.mls_errorplane.proofs.error_plane.are_same.Goals as goal

pub returns : goal.returns
returns c =
    let same = slice_eq-Decides (λ a b. search (rules, tests)) c.as_slice.result.now c.as_slice-2.result.now c.eq.result c.eq.ensures in (
      λ is. sym c.as_slice.ensures.value ∙ same.0 is ∙ c.as_slice-2.ensures.value,
      λ is. same.1 (c.as_slice.ensures.value ∙ is ∙ sym c.as_slice-2.ensures.value),
    )
