use Rattle.std.proofs.Common.{[], Option, ℕ, ap, ◌∙◌, arith}
use Rattle.std.specs.Option.{option_map_or}
use Rattle.mls_library.specs.SavedCells.{strips_on}
use Rattle.mls_session.proofs.ListedLayers.{ListsPlanes-at}
use Rattle.mls_session.proofs.layers.strips_for.Goals as goal

pub returns-in-Some : goal.returns-in-Some
returns-in-Some c layout all =
    let layers = c.args.layers.now in
    c.as_slice.ensures
    ∙ ListsPlanes-at layout layers c.in-Some.plane c.index-layers-index.result all (omega (arith, c.in-Some.ensures.known, c.requires.count)) (rw c.index.ensures.value at c.index-layers-index.is)
    ∙ ap (λ (found : Option ℕ). option_map_or (strips_on layout) found []) c.in-Some.ensures.value
