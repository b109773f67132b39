-- Each turn plans the pieces of one plane more, unless it would have too many tiles.
use Rattle.std.proofs.Common.{◌≡◌, ◌≢◌, ◌||◌, ◌<◌, ℕ, get_or, length, refl, sym, ap, subst, ◌∙◌, arith}
use Rattle.std.proofs.lemmas.Bool.{false≢true}
use Rattle.std.proofs.lemmas.List.{get_or_default}
use Rattle.mls_session.proofs.Common.{ArePlanned, CanChange, Design, IsPlanFor, ListsChange, Pool, changed_layout, layout_in, no_plan, overlaid, picture_in, plan_of, planned_pieces}
use Rattle.mls_session.proofs.ChangedQuotas.{exceeds, exceeds-fits, exceeds-more, exceeds_quota-more, exceeds_quota-none}
use Rattle.mls_library.proofs.FirstPlanes.{any_more}
use Rattle.mls_session.proofs.HomePlanes.{HasStrips-lent}
use Rattle.mls_session.proofs.ListedPieces.{ArePlanned-more, ListsChange-more, lent-changed, listed-changed}
use Rattle.mls_session.proofs.design.Design.plan_change.Goals as goal

pub list_pieces-requires-clause-strips : goal.list_pieces-requires-clause-strips
list_pieces-requires-clause-strips c =
    let owner = c.index-plane.result.now in
    HasStrips-lent c.args.workspace.now.pool c.loop-i.workspace.pool c.args.self.now c.loop-i.i owner c.loop-i.invariant.pool c.requires.home.layout (omega (arith, ap (λ (kept : Design). length kept.planes) c.self.view_is))
    (c.index-plane.ensures ∙ ap (λ (kept : Design). get_or kept.planes c.loop-i.i owner) c.self.view_is)

pub list_pieces-requires-clause-can_change : goal.list_pieces-requires-clause-can_change
list_pieces-requires-clause-can_change c = subst (λ (pool : Pool). CanChange pool c.args.change.now) (sym c.loop-i.invariant.pool) c.requires.can_change

pub plan-requires-clause-strips : goal.plan-requires-clause-strips
plan-requires-clause-strips c =
    let owner = c.index-plane.result.now in
    HasStrips-lent c.args.workspace.now.pool c.loop-i.workspace.pool c.args.self.now c.loop-i.i owner c.loop-i.invariant.pool c.requires.home.layout (omega (arith, ap (λ (kept : Design). length kept.planes) c.self.view_is))
    (c.index-plane.ensures ∙ ap (λ (kept : Design). get_or kept.planes c.loop-i.i owner) c.self.view_is)

pub returns-in_default-clause-fits : goal.returns-in_default-clause-fits
returns-in_default-clause-fits c = λ config count same.
    let pool = c.args.workspace.now.pool in
    let design = c.args.self.now in
    let change = c.args.change.now in
    let i = c.loop-i.i in
    let owner = c.index-plane.result.now in
    let is : owner ≡ get_or design.planes i owner = c.index-plane.ensures ∙ ap (λ (kept : Design). get_or kept.planes i owner) c.self.view_is in
    let whole = ap (λ (kept : Design). length kept.planes) c.self.view_is in
    let within : i < length design.planes = omega (arith, whole) in
    let limit = c.get-limit.ensures.value ∙ ap (λ (kept : Design). kept.quota) c.self.view_is in
    let mid = c.loop-i.workspace.pool in
    let over = c.deref.result.now in
    let layout = changed_layout pool change (layout_in pool design.planes) in
    let made : overlaid (picture_in mid owner) over ≡ layout i =
    lent-changed pool mid design change i owner c.list_pieces.new.pieces.items within is c.loop-i.invariant.pool c.list_pieces.ensures.picture over
    c.deref.ensures.value in
    exceeds_quota-more config layout (length design.planes) design.quota i count same within
    (exceeds-more layout design.quota i c.get-limit.result (overlaid (picture_in mid owner) over) limit made
    (c.in_default.ensures.too_many.0 refl))

pub loop-i-preserved : goal.loop-i-preserved
loop-i-preserved c =
    let pool = c.args.workspace.now.pool in
    let design = c.args.self.now in
    let change = c.args.change.now in
    let turn = c.loop-i in
    let i = turn.i in
    let owner = c.index-plane.result.now in
    let is : owner ≡ get_or design.planes i owner = c.index-plane.ensures ∙ ap (λ (kept : Design). get_or kept.planes i owner) c.self.view_is in
    let whole = ap (λ (kept : Design). length kept.planes) c.self.view_is in
    let within : i < length design.planes = omega (arith, whole) in
    let limit = c.get-limit.ensures.value ∙ ap (λ (kept : Design). kept.quota) c.self.view_is in
    let mid = turn.workspace.pool in
    let over = c.deref.result.now in
    let list = c.list_pieces.new.pieces in
    let layout = changed_layout pool change (layout_in pool design.planes) in
    let made : overlaid (picture_in mid owner) over ≡ layout i =
    lent-changed pool mid design change i owner list.items within is turn.invariant.pool c.list_pieces.ensures.picture over
    c.deref.ensures.value in
    let planned = c.in-Ok.ensures in
    let owner_is : get_or design.planes i 0 ≡ owner = get_or_default design.planes i 0 owner within ∙ sym is in
    let kept : (plane : ℕ) → plane ≢ i → plan_of c.plan.new.scratch plane ≡ plan_of turn.workspace.scratch plane = λ plane other.
    c.plan.ensures.others plane other ∙ ap (λ plans. get_or plans plane no_plan) c.list_pieces.ensures.plans in
    record {
      pool = turn.invariant.pool;
      few =
          any_more (exceeds design.quota layout) i ∙ ap (λ before. before || exceeds design.quota layout i) turn.invariant.few
          ∙ exceeds-fits layout design.quota i c.get-limit.result (overlaid (picture_in mid owner) over) limit made (λ more. false≢true (planned.too_many.1 more));
      lists =
          ListsChange-more pool change (layout_in pool design.planes) i (planned_pieces turn.workspace.scratch) (planned_pieces c.plan.new.scratch)
          (ap (overlaid (layout_in pool design.planes i)) (planned.over ∙ c.deref.ensures.value) ∙ listed-changed pool mid design change i owner list.items within is turn.invariant.pool c.list_pieces.ensures.picture)
          (λ plane other. ap (λ plan. plan.over) (kept plane other)) turn.invariant.lists;
      planned =
          ArePlanned-more pool design.planes i turn.workspace.scratch c.plan.new.scratch
          (subst (λ o. IsPlanFor pool o (plan_of c.plan.new.scratch i)) (sym owner_is) (subst (λ (now : Pool). IsPlanFor now owner (plan_of c.plan.new.scratch i)) turn.invariant.pool planned.plan))
          kept turn.invariant.planned;
    }

pub returns-clause-fits : goal.returns-clause-fits
returns-clause-fits c = λ config count same.
    let pool = c.args.workspace.now.pool in
    let design = c.args.self.now in
    let whole = ap (λ (kept : Design). length kept.planes) c.self.view_is in
    exceeds_quota-none config (changed_layout pool c.args.change.now (layout_in pool design.planes)) (length design.planes) design.quota c.loop-i.i count same
    (omega (arith, whole)) c.loop-i.invariant.few

pub returns-clause-lists : goal.returns-clause-lists
returns-clause-lists c = λ passed.
    let pool = c.args.workspace.now.pool in
    let design = c.args.self.now in
    let whole = ap (λ (kept : Design). length kept.planes) c.self.view_is in
    let all : c.loop-i.i ≡ length design.planes = omega (arith, whole) in
    subst (λ n. ListsChange pool c.args.change.now n (layout_in pool design.planes) (planned_pieces c.loop-i.workspace.scratch)) all c.loop-i.invariant.lists

pub returns-clause-planned : goal.returns-clause-planned
returns-clause-planned c = λ passed.
    let design = c.args.self.now in
    let whole = ap (λ (kept : Design). length kept.planes) c.self.view_is in
    let all : c.loop-i.i ≡ length design.planes = omega (arith, whole) in
    subst (λ n. ArePlanned c.args.workspace.now.pool design.planes n c.loop-i.workspace.scratch) all c.loop-i.invariant.planned
