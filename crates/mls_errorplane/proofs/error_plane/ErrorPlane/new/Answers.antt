use Rattle.std.proofs.Common.{ap, sym, ◌∙◌}
use Rattle.mls_errorplane.proofs.Common.{Picture, is_marked, marks_picture, picture_in}
use Rattle.mls_errorplane.proofs.RectCounts.{marked_count-space}
use Rattle.mls_errorplane.proofs.error_plane.ErrorPlane.new.Goals as goal

pub returns-clause-marks : goal.returns-clause-marks
returns-clause-marks c =
    let space = rw c.unwrap-plane.ensures at c.space_plane.ensures.space in
    record {
      strips = rw c.unwrap-plane.ensures at c.space_plane.ensures.strips;
      marks = space ∙ sym (ap (λ (p : Picture). marks_picture (is_marked p)) space);
      counted = marked_count-space (picture_in c.space_plane.new.pool c.unwrap-plane.result) space;
    }
