use Rattle.std.proofs.Common.{◌≡◌, ◌+◌, ℕ, List, None, refl, ap, ◌∙◌, sym, subst, arith}
use Rattle.mls_session.proofs.Common.{AddsOwner, CellUse, Checking, Design, Designed, HasRightMarks, Layout, Rect, blank, checking_of, config_of, designed_of, no_squares, opening, opening_checking, plane_reserve, unreserved}
use Rattle.mls_session.proofs.ErrorPlanes.{IsHome-added, differs, layout-added}
use Rattle.mls_session.proofs.Openings.{AddsOwners-plane, HasRightMarks-opening}
use Rattle.mls_session.proofs.design.Design.open.Goals as goal

-- the error plane has as many tiles as each other plane
reserved : (c : goal.After-result-1) → AddsOwner c.space_planes.new.workspace.pool c.new-errors.new.workspace.pool c.new-errors.result.owner (plane_reserve c.args.setup.now.quota)
reserved c = subst (AddsOwner c.space_planes.new.workspace.pool c.new-errors.new.workspace.pool c.new-errors.result.owner) c.plane_reserve.ensures.value c.new-errors.ensures.added

abbrev opened : goal.After-result-1 → Design
opened c = record { box = None; planes = c.in_ok-planes.planes.items; uses = c.in_ok-uses.uses.items; quota = c.args.setup.now.quota; errors = c.new-errors.result }

begins : (c : goal.After-result-1) → designed_of c.new-errors.new.workspace.pool (opened c) ≡ opening c.args.setup.now.rules
begins c =
    let mid = c.space_planes.new.workspace.pool in
    let new = c.new-errors.new.workspace.pool in
    let planes = c.in_ok-planes.planes.items in
    let layout = layout-added mid new c.args.setup.now.quota planes c.new-errors.result.owner c.in_ok-planes.ensures.home (reserved c) ∙ c.in_ok-planes.ensures.blank in
    let known : checking_of new c.new-errors.result ≡ opening_checking c.args.setup.now.rules =
    c.new-errors.ensures.begins ∙ ap (λ (areas : List Rect). record { marks = no_squares; dirty = areas }) c.in_ok-dirty.ensures in
    let own : Layout → List CellUse → Checking → Designed = λ paint uses k. record { drawn = record { box = None; paint = paint; uses = uses }; checking = k } in
    ap (λ paint. own paint c.in_ok-uses.uses.items (checking_of new c.new-errors.result)) layout
    ∙ ap (λ uses. own blank.paint uses (checking_of new c.new-errors.result)) c.in_ok-uses.ensures.items
    ∙ ap (own blank.paint blank.uses) known

pub returns-clause-opening : goal.returns-clause-opening
returns-clause-opening c = begins c

pub returns-clause-marks_right : goal.returns-clause-marks_right
returns-clause-marks_right c =
    let config = config_of c.args.setup.now c.new-errors.new.workspace.pool in
    subst (HasRightMarks config) (sym (begins c)) (HasRightMarks-opening config)

pub returns-clause-home : goal.returns-clause-home
returns-clause-home c =
    IsHome-added c.space_planes.new.workspace.pool c.new-errors.new.workspace.pool c.args.setup.now.quota c.in_ok-planes.planes.items c.new-errors.result.owner c.in_ok-planes.ensures.home (reserved c) (opened c)
    refl refl refl c.new-errors.ensures.marks

pub returns-clause-added : goal.returns-clause-added
returns-clause-added c =
    let quota = c.args.setup.now.quota in
    let planes = c.in_ok-planes.planes.items in
    let mid = c.space_planes.new.workspace.pool in
    let new = c.new-errors.new.workspace.pool in
    let owner = c.new-errors.result.owner in
    let apart = differs mid new quota planes owner c.in_ok-planes.ensures.home (reserved c) in
    let taken : unreserved new + plane_reserve quota ≡ unreserved mid = ap (λ (n : ℕ). unreserved new + n) (sym c.plane_reserve.ensures.value) ∙ c.new-errors.ensures.taken in
    AddsOwners-plane c.args.workspace.now.pool mid new planes owner (plane_reserve quota) c.in_ok-planes.ensures.added apart (reserved c) taken

pub invariant_of-result : goal.invariant_of-result
invariant_of-result c = (c.plane_reserve.ensures.legal, omega (arith, c.in_ok-uses.ensures.exact))
