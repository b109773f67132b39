use Rattle.std.proofs.Common.{inl, inr, refl, sym, ap, ◌∙◌}
use Rattle.std.proofs.Math.Path.{fun_ext}
use Rattle.std.proofs.lemmas.Bool.{cases_Bool, cond-false, cond-true}
use Rattle.mls_geom.specs.Rects.{holds}
use Rattle.mls_geom.specs.Pictures.{Picture}
use Rattle.mls_paint.specs.Planes.{picture_in}
use Rattle.mls_layout.specs.Grids.{grid_picture}
use Rattle.mls_layout.specs.Uses.{cell_layouts, flat_plane, uses_layout}
use Rattle.mls_layout.proofs.FlatLayouts.{over-space}
use Rattle.mls_layout.proofs.OwnPaint.{ShowMoved-own, flat_plane-painted, later_uses-next}
use Rattle.mls_layout.proofs.ShownUses.{grid_picture-outside}
use Rattle.mls_layout.proofs.flattening.flatten.Goals as goal

pub loop-index-init : goal.loop-index-init
loop-index-init c =
    let uses = c.args.uses.now in
    record {
      painted = λ x y inside.
          over-space (uses_layout (cell_layouts c.args.workspace.now.pool uses.library.now) uses.list.now c.args.number) (grid_picture c.clear.new.self c.args.block) x y
          (ap (λ (p : Picture). p x y) c.clear.ensures);
      pool = refl;
    }

pub loop-index-preserved : goal.loop-index-preserved
loop-index-preserved c =
    record {
      painted =
          later_uses-next c.args.workspace.now.pool c.args.uses.now c.args.number c.loop-index.index c.args.block c.loop-index.workspace.pool
          (grid_picture c.loop-index.workspace.grid c.args.block) (grid_picture c.paint_use.new.workspace.grid c.args.block) c.loop-index.invariant.pool
          c.paint_use.ensures.painted c.loop-index.invariant.painted;
      pool = c.paint_use.ensures.pool ∙ c.loop-index.invariant.pool;
    }

pub returns-clause-shown : goal.returns-clause-shown
returns-clause-shown c =
    let pool = c.args.workspace.now.pool in
    let owner = c.args.plane.now in
    let plane = c.requires.flat.plane in
    let so_far = c.loop-index.invariant in
    let grid = grid_picture c.paint_tiles.new.grid c.args.block in
    let flat = flat_plane pool c.args.uses.now c.args.number owner in
    let show = ShowMoved-own pool c.loop-index.workspace.pool owner c.args.block c.find_meeting.new.scratch.tiles c.tiles.result.now plane so_far.pool c.tiles.ensures
    c.find_meeting.ensures.found in
    fun_ext (λ x. fun_ext (λ y. elim (cases_Bool (holds c.args.block x y)) [
      | inl inside ↦
          flat_plane-painted pool c.args.uses.now c.args.number c.loop-index.index owner (grid_picture c.loop-index.workspace.grid c.args.block) grid x y plane
          c.loop-index-test.false (so_far.painted x y inside) (c.paint_tiles.ensures.painted (picture_in pool owner) show x y inside)
          ∙ sym (cond-true (holds c.args.block x y) (flat x y) 0 inside)
      | inr outside ↦ grid_picture-outside c.paint_tiles.new.grid c.args.block x y outside ∙ sym (cond-false (holds c.args.block x y) (flat x y) 0 outside)
    ]))
