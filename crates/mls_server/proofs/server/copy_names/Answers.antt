use Rattle.std.proofs.Common.{◌≡◌, ◌++◌, ◌∷◌, [], ℕ, List, Some, map, slice_get, take, sym, ap, ◌∙◌}
use Rattle.std.proofs.lemmas.List.{map-append}
use Rattle.mls_session.specs.mls_library.Libraries.{names_of}
use Rattle.mls_server.proofs.CellNames.{names-next}
use Rattle.mls_server.proofs.server.copy_names.Goals as goal

pub loop-place-preserved : goal.loop-place-preserved
loop-place-preserved c =
    let names = names_of c.args.library.now in
    let place = c.loop-place.place in
    let there : slice_get names place ≡ Some c.in-Some.name.now = sym c.in-Some.ensures in
    let copied = c.in_ok-from_slice.ensures.items in
    ap (map (λ name. name.items)) c.in_ok-push.ensures.items ∙ map-append (λ name. name.items) c.loop-place.names.items (c.in_ok-from_slice.field-0 ∷ [])
    ∙ ap (λ (so_far : List (List ℕ)). so_far ++ c.in_ok-from_slice.field-0.items ∷ []) c.loop-place.invariant
    ∙ ap (λ (last : List ℕ). take place names ++ last ∷ []) copied
    ∙ names-next names place c.in-Some.name.now there
