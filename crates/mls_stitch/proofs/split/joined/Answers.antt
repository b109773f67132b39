-- Two rectangles that share a whole side are one together.
use Rattle.std.proofs.Common.{◌∙◌, subst, subst₂, sym}
use Rattle.mls_stitch.proofs.Common.{Rect, IsRectangleIn, world}
use Rattle.mls_stitch.specs.Splits.{JoinAlong}
use Rattle.mls_stitch.proofs.CutBlocks.{legal-joined_x, legal-joined_y}
use Rattle.mls_stitch.proofs.split.joined.Goals as goal

pub between-rect-requires : goal.between-rect-requires
between-rect-requires c =
    subst₂ (λ (e f : Rect). IsRectangleIn world (record { left = e.left; bottom = e.bottom; right = f.right; top = e.top })) (sym (c.area.view_is ∙ c.area-area.ensures.value))
    (sym (c.end.view_is ∙ c.area-end.ensures.value))
    (legal-joined_x c.args.first c.args.second c.area-area.ensures.legal c.area-end.ensures.legal (subst (λ axis. JoinAlong axis c.args.first c.args.second) c.in-X.is c.requires))

pub between-rect-requires-in-Y : goal.between-rect-requires-in-Y
between-rect-requires-in-Y c =
    subst₂ (λ (e f : Rect). IsRectangleIn world (record { left = e.left; bottom = e.bottom; right = e.right; top = f.top })) (sym (c.area.view_is ∙ c.area-area.ensures.value))
    (sym (c.end.view_is ∙ c.area-end.ensures.value))
    (legal-joined_y c.args.first c.args.second c.area-area.ensures.legal c.area-end.ensures.legal (subst (λ axis. JoinAlong axis c.args.first c.args.second) c.in-Y.is c.requires))
