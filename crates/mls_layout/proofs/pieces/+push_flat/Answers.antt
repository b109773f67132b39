use Rattle.std.proofs.Common.{◌≡◌, List, ap, subst, sym, ◌∙◌}
use Rattle.std.proofs.lemmas.Result.{on_ok_weaker}
use Rattle.mls_geom.specs.Rects.{IsRectangleIn, IsWithin, Rect}
use Rattle.mls_geom.specs.declared.piece.Piece.{Piece}
use Rattle.mls_tilepool.specs.Pools.{Pool}
use Rattle.mls_paint.specs.Planes.{picture_in}
use Rattle.mls_layout.specs.Grids.{AppendsCover}
use Rattle.mls_layout.specs.Uses.{cell_layouts, flat_plane, uses_layout}
use Rattle.mls_layout.proofs.CoveredBlocks.{AppendsCover-agree, AppendsCover-joined}
use Rattle.mls_layout.proofs.FlatLayouts.{over-space}
use Rattle.mls_layout.proofs.pieces.+push_flat.Goals as goal
use Rattle.mls_layout.proofs.pieces.+push_flat.Goals.{else-eq-via-then-eq+in_ok-push_swept+else-branch, else-eq-via-else-eq}

within : (e part : Rect) → IsRectangleIn e part → IsWithin e part
within e part legal = record { left = legal.left_in; bottom = legal.bottom_in; right = legal.right_in; top = legal.top_in }

pub returns-then-not-meet-clause-appended : goal.returns-then-not-meet-clause-appended
returns-then-not-meet-clause-appended t c =
    let pool = c.args.workspace.now.pool in
    let uses = c.args.uses.now in
    let own = picture_in pool c.args.plane.now in
    let others = uses_layout (cell_layouts pool uses.library.now) uses.list.now c.args.number in
    on_ok_weaker c.push_own.result
    (AppendsCover-agree c.args.zone own (flat_plane pool uses c.args.number c.args.plane.now) c.args.out.now.items c.push_own.new.out.items
    (λ x y inside. sym (over-space own others x y (c.meet.ensures.apart c.if-not-meet.true pool c.requires.cells c.args.number x y inside))))
    c.push_own.ensures.appended

pub returns-clause-appended : goal.returns-clause-appended
returns-clause-appended t c =
    let zone = c.args.zone in
    let pool = c.args.workspace.now.pool in
    let owner = c.args.plane.now in
    let uses = c.args.uses.now in
    let number = c.args.number in
    let one = c.cut-one.result.0 in
    let other = c.cut-one.result.1 in
    let old = c.args.out.now.items in
    let mid = c.push_flat.new.out.items in
    let new = c.push_flat-2.new.out.items in
    let picture = flat_plane pool uses number owner in
    let parts = c.cut-one.ensures in
    let same_pool : c.else-eq.workspace.pool ≡ pool = elim c.else-eq.branch [
      | else-eq-via-then-eq+in_ok-push_swept+else-branch w ↦ ap (λ workspace. workspace.pool) w.workspace-is ∙ w.in_ok-push_swept.ensures.pool
      | else-eq-via-else-eq w ↦ ap (λ workspace. workspace.pool) w.workspace-is
    ] in
    let same_out : c.else-eq.out.items ≡ old = elim c.else-eq.branch [
      | else-eq-via-then-eq+in_ok-push_swept+else-branch w ↦ ap (λ out. out.items) w.out-is ∙ w.in_ok-push_swept.ensures.none w.if-branch.false
      | else-eq-via-else-eq w ↦ ap (λ out. out.items) w.out-is
    ] in
    let first = subst (λ (list : List Piece). AppendsCover one picture list mid) same_out
    (subst (λ (p : Pool). AppendsCover one (flat_plane p uses number owner) c.else-eq.out.items mid) same_pool c.in_ok-push_flat.ensures.appended) in
    on_ok_weaker c.push_flat-2.result
    (λ appended.
    AppendsCover-joined zone one other picture old mid new (within zone one parts.one_in) (within zone other parts.other_in) parts.whole first
    (subst (λ (p : Pool). AppendsCover other (flat_plane p uses number owner) mid new) (c.in_ok-push_flat.ensures.pool ∙ same_pool) appended))
    c.push_flat-2.ensures.appended
