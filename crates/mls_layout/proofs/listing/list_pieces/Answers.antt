use Rattle.std.proofs.Common.{refl, sym, ◌∙◌}
use Rattle.mls_geom.specs.Locality.{laid}
use Rattle.mls_geom.specs.World.{world}
use Rattle.mls_geom.proofs.InnerRects.{IsRectangleIn-itself}
use Rattle.mls_paint.specs.Planes.{picture_in}
use Rattle.mls_layout.specs.Uses.{cell_layouts, uses_layout}
use Rattle.mls_layout.proofs.FlatLayouts.{over-space}
use Rattle.mls_layout.proofs.OwnPaint.{ShowMoved-own, flat_plane-painted, later_uses-next}
use Rattle.mls_layout.proofs.listing.list_pieces.Goals as goal

pub loop-index-init : goal.loop-index-init
loop-index-init c =
    let uses = c.args.shown.now.uses in
    record {
      shown = λ x y inside.
          over-space (uses_layout (cell_layouts c.args.workspace.now.pool uses.library.now) uses.list.now c.args.shown.now.number) (laid c.begin.new.pieces.items) x y
          (c.begin.ensures.laid c.if-not-begin.false x y inside);
      inside = c.begin.ensures.inside c.args.rect (IsRectangleIn-itself world c.args.rect c.requires.legal);
      covered = λ x y inside is. absurd (cc (sym (c.begin.ensures.laid c.if-not-begin.false x y inside) ∙ is));
      few = c.begin.ensures.few;
      pool = refl;
    }

pub loop-index-preserved : goal.loop-index-preserved
loop-index-preserved c =
    let so_far = c.loop-index.invariant in
    record {
      shown =
          later_uses-next c.args.workspace.now.pool c.args.shown.now.uses c.args.shown.now.number c.loop-index.index c.args.rect c.loop-index.workspace.pool
          (laid c.loop-index.workspace.pieces.items) (laid c.list_use.new.workspace.pieces.items) so_far.pool (c.list_use.ensures.laid c.if-not-list_use.false) so_far.shown;
      inside = c.list_use.ensures.inside so_far.inside;
      covered = λ x y inside. c.list_use.ensures.covered x y (so_far.covered x y inside);
      few = c.list_use.ensures.few;
      pool = c.list_use.ensures.pool ∙ so_far.pool;
    }

pub returns-clause-laid : goal.returns-clause-laid
returns-clause-laid c = λ done x y inside.
    let pool = c.args.workspace.now.pool in
    let owner = c.args.plane.now in
    let plane = c.requires.flat.plane in
    let so_far = c.loop-index.invariant in
    let show = ShowMoved-own pool c.loop-index.workspace.pool owner c.args.rect c.find_meeting.new.scratch.tiles c.tiles.result.now plane so_far.pool c.tiles.ensures
    c.find_meeting.ensures.found in
    flat_plane-painted pool c.args.shown.now.uses c.args.shown.now.number c.loop-index.index owner (laid c.loop-index.workspace.pieces.items) (laid c.push_tiles.new.pieces.items) x y plane
    c.loop-index-test.false (so_far.shown x y inside) (c.push_tiles.ensures.laid done (picture_in pool owner) show x y inside)
