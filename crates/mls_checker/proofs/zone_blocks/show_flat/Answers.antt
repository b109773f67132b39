use Rattle.std.proofs.Common.{◌<◌, ℕ, refl, sym, ap, subst, ◌∙◌, arith}
use Rattle.std.proofs.lemmas.Bool.{false≢true}
use Rattle.mls_geom.specs.Rects.{Rect}
use Rattle.mls_layout.specs.Grids.{IsBlock}
use Rattle.mls_layout.specs.Uses.{HasFlatPlane, flat_plane}
use Rattle.mls_tilepool.specs.Pools.{Pool}
use Rattle.mls_checker.specs.FlatZones.{lines_after}
use Rattle.mls_checker.specs.Tiles.{tiles_picture}
use Rattle.mls_checker.proofs.FlatBlocks.{BlocksSame, BlocksSame-all, BlocksSame-first, BlocksSame-next, SameIn-block, block_from-IsBlock, lines_left, lines_left-fewer, tiles-in_block}
use Rattle.mls_checker.proofs.zone_blocks.show_flat.Goals as goal

pub rows-init : goal.rows-init
rows-init c =
    let same = c.lines.view_is ∙ c.area-lines.ensures.value in
    record {
      same = BlocksSame-first c.args.at.zone (tiles_picture c.args.tiles.now) (flat_plane c.args.workspace.now.pool c.args.uses.now c.args.at.number c.args.plane.now)
          c.lines.inside.left c.lines.inside.bottom (ap (λ (e : Rect). e.left) same) (ap (λ (e : Rect). e.bottom) same) c.area-lines.ensures.legal;
      flat = c.requires.flat;
      pool = refl;
    }

pub block_from-block-requires-clause-tall : goal.block_from-block-requires-clause-tall
block_from-block-requires-clause-tall c = omega (arith, c.rows-test.true, ap (λ (e : Rect). e.top) (c.lines.view_is ∙ c.area-lines.ensures.value))

pub flatten-requires-clause-block : goal.flatten-requires-clause-block
flatten-requires-clause-block c =
    let so_far = c.rows.invariant.same in
    subst IsBlock (sym c.block_from-block.ensures) (block_from-IsBlock c.args.at.zone c.rows.left c.rows.bottom c.area-lines.ensures.legal so_far.from so_far.to so_far.low
    (omega (arith, c.rows-test.true, ap (λ (e : Rect). e.top) (c.lines.view_is ∙ c.area-lines.ensures.value))))

pub has_tiles-requires : goal.has_tiles-requires
has_tiles-requires c =
    let so_far = c.rows.invariant.same in
    subst IsBlock (sym c.block_from-block.ensures) (block_from-IsBlock c.args.at.zone c.rows.left c.rows.bottom c.area-lines.ensures.legal so_far.from so_far.to so_far.low
    (omega (arith, c.rows-test.true, ap (λ (e : Rect). e.top) (c.lines.view_is ∙ c.area-lines.ensures.value))))

pub returns-then-not-has_tiles-clause-same : goal.returns-then-not-has_tiles-clause-same
returns-then-not-has_tiles-clause-same c =
    let has = tiles-in_block c.args.at.zone c.block_from-block.result c.rows.left c.rows.bottom _ _ _ _ c.args.tiles.now c.requires.tiles c.area-lines.ensures.legal c.rows.invariant.same
    (omega (arith, c.rows-test.true, ap (λ (e : Rect). e.top) (c.lines.view_is ∙ c.area-lines.ensures.value))) c.block_from-block.ensures (ap (λ (p : Pool). flat_plane p c.args.uses.now c.args.at.number c.args.plane.now) c.rows.invariant.pool) c.flatten.ensures.shown in
    let so_far = c.rows.invariant.same in (
      λ h. absurd (false≢true h),
      λ same. c.if-not-has_tiles.ensures.1 (has.1 (SameIn-block c.args.at.zone (tiles_picture c.args.tiles.now)
          (flat_plane c.args.workspace.now.pool c.args.uses.now c.args.at.number c.args.plane.now) c.rows.left c.rows.bottom so_far.from so_far.low same)),
    )

pub rows-preserved : goal.rows-preserved
rows-preserved c =
    let has = tiles-in_block c.args.at.zone c.block_from-block.result c.rows.left c.rows.bottom _ _ _ _ c.args.tiles.now c.requires.tiles c.area-lines.ensures.legal c.rows.invariant.same
    (omega (arith, c.rows-test.true, ap (λ (e : Rect). e.top) (c.lines.view_is ∙ c.area-lines.ensures.value))) c.block_from-block.ensures (ap (λ (p : Pool). flat_plane p c.args.uses.now c.args.at.number c.args.plane.now) c.rows.invariant.pool) c.flatten.ensures.shown in
    let zone = c.args.at.zone in
    let mine = tiles_picture c.args.tiles.now in
    let flat = flat_plane c.args.workspace.now.pool c.args.uses.now c.args.at.number c.args.plane.now in
    let so_far = c.rows.invariant in
    let high : c.rows.bottom < zone.top = omega (arith, c.rows-test.true, ap (λ (e : Rect). e.top) (c.lines.view_is ∙ c.area-lines.ensures.value)) in
    record {
      same = subst (λ (lines : ℕ × ℕ). BlocksSame zone mine flat lines.0 lines.1) (sym (c.lines_after-next.ensures ∙ ap (lines_after zone) c.block_from-block.ensures))
          (BlocksSame-next zone mine flat c.rows.left c.rows.bottom so_far.same high (has.0 (c.if-not-has_tiles.ensures.0 refl)));
      flat = subst (λ (p : Pool). HasFlatPlane p c.args.plane.now c.args.uses.now.library.now) (sym c.flatten.ensures.pool) so_far.flat;
      pool = c.flatten.ensures.pool ∙ so_far.pool;
    }

pub rows-smaller : goal.rows-smaller
rows-smaller c =
    let so_far = c.rows.invariant.same in
    let zone = c.args.at.zone in
    let high : c.rows.bottom < zone.top = omega (arith, c.rows-test.true, ap (λ (e : Rect). e.top) (c.lines.view_is ∙ c.area-lines.ensures.value)) in
    subst (λ (lines : ℕ × ℕ). lines_left zone lines.0 lines.1 < lines_left zone c.rows.left c.rows.bottom)
    (sym (c.lines_after-next.ensures ∙ ap (lines_after zone) c.block_from-block.ensures))
    (lines_left-fewer zone c.rows.left c.rows.bottom c.area-lines.ensures.legal so_far.from so_far.to high)

pub returns-clause-same : goal.returns-clause-same
returns-clause-same c =
    let last = ap (λ (e : Rect). e.top) (c.lines.view_is ∙ c.area-lines.ensures.value) in (
      λ _. BlocksSame-all c.args.at.zone (tiles_picture c.args.tiles.now) (flat_plane c.args.workspace.now.pool c.args.uses.now c.args.at.number c.args.plane.now)
          c.rows.left c.rows.bottom (omega (arith, last, c.rows-test.false)) c.rows.invariant.same,
      λ _. refl,
    )
