use Rattle.std.proofs.Common.{take, refl, subst, ◌∙◌, arith}
use Rattle.std.proofs.lemmas.List.{take_all}
use Rattle.std.proofs.lemmas.List.Elements.{All-push}
use Rattle.mls_checker.specs.Tiles.{HasTile, clipped_tile}
use Rattle.mls_checker.proofs.Prefixes.{take_next}
use Rattle.mls_checker.proofs.zone_tiles.show_found.Goals as goal

pub loop-index-preserved : goal.loop-index-preserved
loop-index-preserved c picture shown =
    let zone = c.args.zone in
    let found = c.args.found.now in
    let index = c.loop-index.index in
    let tile = c.index-found-index.result in
    rw (take_next found index tile (omega arith) c.index-found-index.is)
    (All-push (λ t. HasTile picture (clipped_tile zone t.piece)) (take index found) tile (c.loop-index.invariant picture shown)
    (subst (HasTile picture) (c.part.view_is ∙ c.clipped-part.ensures) ((c.if-not-has_kind.ensures picture shown).0 refl)))

pub returns : goal.returns
returns c picture shown = (λ _. rw (take_all c.loop-index.index c.args.found.now (omega arith)) at (c.loop-index.invariant picture shown), λ _. refl)
