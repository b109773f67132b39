use Rattle.std.proofs.Common.{◌≡◌, ◌++◌, ◌∙◌, List, ap, subst}
use Rattle.mls_session.proofs.Common.{Design, ErrorPlane, Rect, areas_in, checking_of, empty_layout, marked_line_count, marked_text, marks_picture, squares_in}
use Rattle.mls_session.proofs.design.Design.error_text.Goals as goal

pub returns-clause-count : goal.returns-clause-count
returns-clause-count c =
    let tech = c.args.tech.now in
    let pool = c.args.workspace.now.pool in
    let picture = marks_picture (squares_in c.args.rect (checking_of pool c.self.inside.errors).marks) in
    let strips = c.deref-4.ensures.value ∙ c.in_ok-marks.ensures.strips in
    let areas = c.deref-3.ensures.value ∙ c.in_ok-areas.ensures in
    subst
    (λ (e : ErrorPlane). c.error_line_count.result ≡ marked_line_count tech empty_layout (areas_in c.args.rect e.dirty) (marks_picture (squares_in c.args.rect (checking_of pool e).marks)))
    (ap (λ (d : Design). d.errors) c.self.view_is)
    (c.error_line_count.ensures tech picture strips ∙ ap (λ (list : List Rect). marked_line_count tech empty_layout list picture) areas)

pub returns-clause-text : goal.returns-clause-text
returns-clause-text c =
    let tech = c.args.tech.now in
    let pool = c.args.workspace.now.pool in
    let out = c.args.out.now.items in
    let picture = marks_picture (squares_in c.args.rect (checking_of pool c.self.inside.errors).marks) in
    let strips = c.deref-2.ensures.value ∙ c.in_ok-marks.ensures.strips in
    let areas = c.deref.ensures.value ∙ c.in_ok-areas.ensures in
    subst
    (λ (e : ErrorPlane). c.push_errors.new.out.items ≡ out ++ marked_text tech empty_layout (areas_in c.args.rect e.dirty) (marks_picture (squares_in c.args.rect (checking_of pool e).marks)))
    (ap (λ (d : Design). d.errors) c.self.view_is)
    ((c.in_default.ensures picture strips).text ∙ ap (λ (list : List Rect). out ++ marked_text tech empty_layout list picture) areas)
