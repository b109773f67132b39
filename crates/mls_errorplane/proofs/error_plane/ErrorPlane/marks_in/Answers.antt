use Rattle.std.proofs.Common.{List, ◌++◌, subst, ap, ◌∙◌, rules}
use Rattle.mls_errorplane.proofs.Common.{AreCoveredStrips, ErrorPlane, Piece, is_marked, laid, marks_picture, picture_in, strips_of, world}
use Rattle.mls_errorplane.specs.ErrorsIn.{squares_in}
use Rattle.mls_errorplane.proofs.error_plane.ErrorPlane.marks_in.Goals as goal

pub returns-clause-strips : goal.returns-clause-strips
returns-clause-strips c =
    let (strips, added, are) = c.in_ok-push_covered.ensures.appended (search rules) in
    let covered = subst (λ (list : List Piece). AreCoveredStrips world (laid list) strips) c.deref.ensures.value are in
    let pool = c.args.workspace.now.pool in
    added ∙ ap (λ (list : List Piece). list ++ strips) c.new-strips.ensures.items ∙ c.list_marks.ensures.marks strips covered
    ∙ ap (λ (errors : ErrorPlane). strips_of world (marks_picture (squares_in c.args.rect (is_marked (picture_in pool errors.owner))))) c.self.view_is
