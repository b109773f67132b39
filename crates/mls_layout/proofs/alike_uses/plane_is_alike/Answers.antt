use Rattle.std.proofs.Common.{◌≡◌, List, All, refl, subst}
use Rattle.mls_paint.specs.Planes.{picture_in}
use Rattle.mls_stitch.specs.declared.laid_tile.LaidTile.{LaidTile}
use Rattle.mls_layout.specs.Inner.{in_world}
use Rattle.mls_layout.specs.Moves.{moved_picture}
use Rattle.mls_layout.proofs.AlikePlanes.{zone-space}
use Rattle.mls_layout.proofs.AlikeUses.{in_world-outside, in_world-space, placed-alike, placed-space-found}
use Rattle.mls_layout.proofs.FoundTiles.{moved-nowhere}
use Rattle.mls_layout.proofs.alike_uses.plane_is_alike.Goals as goal

pub returns-in_default-clause-alike : goal.returns-in_default-clause-alike
returns-in_default-clause-alike c = λ _.
    let pool = c.args.workspace.now.pool in
    let owner = c.args.plane.now in
    let dx = c.args.cell_use.now.dx in
    let dy = c.args.cell_use.now.dy in
    let zone = c.grow.result in
    let shown = moved_picture (picture_in pool owner) dx dy in
    zone-space c.args.zone.now.likeness c.args.zone.now.halo c.args.zone.now.rect zone (in_world shown) c.lies_in_world.ensures c.grow.ensures.value
    (λ x y inside. in_world-space shown x y (moved-nowhere pool owner c.requires.frozen.strips.plane dx dy zone c.in_default.ensures x y inside)) (in_world-outside shown)

pub returns-then-have_kind-clause-alike : goal.returns-then-have_kind-clause-alike
returns-then-have_kind-clause-alike c = λ _.
    placed-space-found c.args.workspace.now.pool c.args.plane.now c.requires.frozen.strips.plane c.args.cell_use.now.dx c.args.cell_use.now.dy c.args.zone.now.halo c.args.zone.now.rect c.grow.result c.in-Some.part
    c.grow.ensures.value c.in-Some.ensures c.args.zone.now.likeness c.find_tiles.new.workspace.scratch.tiles c.lies_in_world.ensures (c.if-not-find_tiles.ensures.found refl)
    (subst (λ (list : List LaidTile). All (λ tile. tile.piece.kind ≡ 0) list) c.tiles-tiles.ensures (c.if-have_kind.ensures refl))

pub returns-then-is_amid_worlds-clause-alike : goal.returns-then-is_amid_worlds-clause-alike
returns-then-is_amid_worlds-clause-alike c = λ yes.
    let pool = c.args.workspace.now.pool in
    let owner = c.args.plane.now in
    let plane = c.requires.frozen.strips.plane in
    let (both, are, spans) = c.if-is_amid_worlds.ensures refl in
    placed-alike pool owner plane c.args.cell_use.now.dx c.args.cell_use.now.dy c.args.zone.now.halo c.args.zone.now.rect c.grow.result c.in-Some.part c.grow.ensures.value c.in-Some.ensures
    c.args.zone.now.likeness both c.lies_in_world.ensures are spans (c.are_alike.ensures yes pool owner plane (rw c.tiles-tiles.ensures (c.if-not-find_tiles.ensures.found refl)))
