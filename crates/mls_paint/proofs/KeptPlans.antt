-- The plan that is kept at a place.
use Rattle.std.proofs.Common.{◌≡◌, ℕ, ◌<◌, List, length, get_or, sym, ap, ◌∙◌, subst, arith}
use Rattle.std.proofs.lemmas.List.{get_or_default}
use Rattle.mls_geom.specs.declared.piece.Piece.{Piece}
use Rattle.mls_tilepool.specs.Pools.{Pool}
use Rattle.mls_paint.specs.Changes.{IsWorkedOut}
use Rattle.mls_paint.specs.Planes.{HasStrips}
use Rattle.mls_paint.specs.Plans.{IsPlanFor, Plan, most_plans, no_plan}
use Rattle.mls_paint.specs.Scratches.{Scratch, plan_of}
use Rattle.mls_paint.proofs.PaintedPlanes.{IsReady}

-- is the one that is read there
plan_read : (plans : List Plan) (place : ℕ) (plan : Plan) → place < length plans → plan ≡ get_or plans place plan → get_or plans place no_plan ≡ plan
plan_read plans place plan within is = get_or_default plans place no_plan plan within ∙ sym is

-- so it has worked out what that one has
pub IsReady-read :
    {pool : Pool} {owner place : ℕ} {plans : List Plan} {plan : Plan} {names : List ℕ} {put : List Piece} (scratch : Scratch) → scratch.plans ≡ plans
    → length plans ≡ most_plans → place < most_plans → plan ≡ get_or plans place plan → HasStrips pool owner → IsPlanFor pool owner (plan_of scratch place)
    → IsWorkedOut plan.tiles plan.over names put → IsReady pool owner (plan_of scratch place) names put
IsReady-read {pool} {owner} {place} {plans} {plan} {names} {put} scratch kept number within is strips planned worked =
    let same : plan_of scratch place ≡ plan = ap (λ list. get_or list place no_plan) kept ∙ plan_read plans place plan (omega arith) is in
    record { strips = strips; planned = planned; worked = subst (λ p. IsWorkedOut p.tiles p.over names put) (sym same) worked }
