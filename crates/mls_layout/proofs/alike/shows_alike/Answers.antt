use Rattle.std.proofs.Common.{◌≡◌, List, All, refl, subst}
use Rattle.mls_stitch.specs.declared.laid_tile.LaidTile.{LaidTile}
use Rattle.mls_layout.proofs.AlikePlanes.{alike-zone, zone-space-found}
use Rattle.mls_layout.proofs.alike.shows_alike.Goals as goal

pub returns-then-have_kind-clause-alike : goal.returns-then-have_kind-clause-alike
returns-then-have_kind-clause-alike c = λ _.
    zone-space-found c.args.pool.now c.args.plane.now c.args.halo c.args.likeness c.args.rect c.grow-area.result c.find_meeting-2.new.scratch.tiles c.requires.plane c.lies_in_world.ensures
    c.grow-area.ensures.value c.find_meeting-2.ensures.found
    (subst (λ (list : List LaidTile). All (λ tile. tile.piece.kind ≡ 0) list) c.tiles-tiles.ensures (c.if-have_kind.ensures refl))

pub returns-then-is_amid_world-clause-alike : goal.returns-then-is_amid_world-clause-alike
returns-then-is_amid_world-clause-alike c = λ yes.
    let pool = c.args.pool.now in
    let owner = c.args.plane.now in
    let found = c.find_meeting-2.ensures.found in
    alike-zone pool owner c.args.halo c.args.likeness c.args.rect c.grow-area.result c.requires.plane c.lies_in_world.ensures c.grow-area.ensures.value
    (c.if-is_amid_world.ensures refl) (c.are_alike.ensures yes pool owner c.requires.plane (rw c.tiles-tiles.ensures found))
