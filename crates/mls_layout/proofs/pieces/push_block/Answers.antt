use Rattle.std.proofs.Common.{◌≡◌, ℕ, true, ap, subst, ◌∙◌}
use Rattle.std.proofs.lemmas.Bool.{cond-true}
use Rattle.std.proofs.lemmas.Result.{on_ok_weaker}
use Rattle.mls_geom.specs.Pictures.{Picture}
use Rattle.mls_geom.specs.Rects.{holds}
use Rattle.mls_tilepool.specs.Pools.{Pool}
use Rattle.mls_layout.specs.Grids.{AppendsCover, grid_picture}
use Rattle.mls_layout.specs.Uses.{flat_plane}
use Rattle.mls_layout.proofs.CoveredBlocks.{AppendsCover-agree}
use Rattle.mls_layout.proofs.pieces.push_block.Goals as goal

pub returns-clause-appended : goal.returns-clause-appended
returns-clause-appended c =
    let block = c.args.block in
    let picture = flat_plane c.args.workspace.now.pool c.args.uses.now c.args.number c.args.plane.now in
    let swept = c.in_ok-push_swept.ensures in
    let grid = grid_picture c.flatten.new.workspace.grid block in
    let shown : (x y : ℕ) → holds block x y ≡ true → grid x y ≡ picture x y = λ x y inside.
    ap (λ (p : Picture). p x y) c.flatten.ensures.shown
    ∙ cond-true (holds block x y) (flat_plane c.push_swept.new.workspace.pool c.args.uses.now c.args.number c.args.plane.now x y) 0 inside
    ∙ ap (λ (pool : Pool). flat_plane pool c.args.uses.now c.args.number c.args.plane.now x y) swept.pool in
    on_ok_weaker c.push_pieces.result
    (λ appended.
    subst (λ old. AppendsCover block picture old c.push_pieces.new.out.items) (swept.none c.if-branch.false)
    (AppendsCover-agree block grid picture c.push_swept.new.out.items c.push_pieces.new.out.items
    shown appended))
    c.push_pieces.ensures
