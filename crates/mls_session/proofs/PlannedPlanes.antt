-- Planes that are painted in turn, each by the plan that is kept for it.
use Rattle.std.proofs.Common.{◌≡◌, ℕ, ◌+◌, ◌<◌, ◌≤◌, List, length, get_or, IfSome, sym, ap, subst, ◌∙◌}
use Rattle.std.proofs.lemmas.List.{get_or_default}
use Rattle.mls_session.proofs.Common.{ArePlanned, AreSearched, ChangesOnly, Design, FitsQuota, HasStrips, IsPlanFor, ListTouched, Picture, Plan, Pool, Scratch, block_at, layout_in, no_plan, overlaid, painted_over, picture_in, plan_of, planned_pieces, room_of, tile_count, tiles_of, world}
use Rattle.mls_session.proofs.ChangedPlanes.{IsMade, IsMade-more, picture_in-IsMade, tiles_of-IsMade}
use Rattle.mls_session.proofs.HomePlanes.{count-at}

-- it is the turn of the plane of this owner, under an index: the planes before are painted by the plans that were kept at first, which are still kept
pub record IsTurn (old mid : Pool) (design : Design) (first now : Scratch) (i owner : ℕ) : Type 0 where
  pub within : i < length design.planes
  pub is : owner ≡ get_or design.planes i owner
  pub plans : now.plans ≡ first.plans
  pub made : IsMade old mid design (painted_over (planned_pieces first) (layout_in old design.planes)) i

pub IsTurn-lent :
    {old mid : Pool} {design : Design} {planes : List ℕ} {i owner : ℕ} (first now : Scratch) → IsMade old mid design (painted_over (planned_pieces first) (layout_in old design.planes)) i
    → now.plans ≡ first.plans → planes ≡ design.planes → owner ≡ get_or planes i owner → i < length design.planes → IsTurn old mid design first now i owner
IsTurn-lent {old} {mid} {design} {planes} {i} {owner} first now made plans same is within =
    record { within = within; is = is ∙ ap (λ list. get_or list i owner) same; plans = plans; made = made }

-- a plan is one for a plane that has the same tiles
IsPlanFor-tiles : (old new : Pool) (owner : ℕ) (plan : Plan) → tiles_of new owner ≡ tiles_of old owner → IsPlanFor old owner plan → IsPlanFor new owner plan
IsPlanFor-tiles old new owner plan same made = record {
  touched = subst (λ tiles. ListTouched (block_at tiles) plan.over plan.tiles) (sym same) made.touched;
  searched = subst (λ tiles. AreSearched (block_at tiles) plan.searched plan.tiles) (sym same) made.searched;
}

plan-IsTurn : {old mid : Pool} {design : Design} {first now : Scratch} {i owner : ℕ} → IsTurn old mid design first now i owner → plan_of now i ≡ plan_of first i
plan-IsTurn {old} {mid} {design} {first} {now} {i} {owner} turn = ap (λ plans. get_or plans i no_plan) turn.plans

-- so there is a plan for the plane as it is
pub IsPlanFor-IsTurn :
    {old mid : Pool} {design : Design} {first now : Scratch} {i owner : ℕ} → IsTurn old mid design first now i owner
    → ArePlanned old design.planes (length design.planes) first → IsPlanFor mid owner (plan_of now i)
IsPlanFor-IsTurn {old} {mid} {design} {first} {now} {i} {owner} turn planned =
    let owner_is : get_or design.planes i 0 ≡ owner = get_or_default design.planes i 0 owner turn.within ∙ sym turn.is in
    let at_first = subst (λ o. IsPlanFor old o (plan_of first i)) owner_is (planned i turn.within) in
    subst (IsPlanFor mid owner) (sym (plan-IsTurn turn))
    (IsPlanFor-tiles old mid owner (plan_of first i) (tiles_of-IsMade old mid design _ i owner turn.made turn.within turn.is) at_first)

-- which makes of it what is wanted
picture-IsTurn :
    {old mid : Pool} {design : Design} {first now : Scratch} {i owner : ℕ} → IsTurn old mid design first now i owner
    → overlaid (picture_in mid owner) (plan_of now i).over ≡ painted_over (planned_pieces first) (layout_in old design.planes) i
picture-IsTurn {old} {mid} {design} {first} {now} {i} {owner} turn =
    ap (λ (picture : Picture). overlaid picture (plan_of now i).over) (picture_in-IsMade old mid design _ i owner turn.made turn.within turn.is)
    ∙ ap (λ plan. overlaid (layout_in old design.planes i) plan.over) (plan-IsTurn turn)

-- and that fits its reserve, if it fits the quota
pub room-IsTurn :
    {old mid : Pool} {design : Design} {first now : Scratch} {i owner : ℕ} → IsTurn old mid design first now i owner
    → FitsQuota (length design.planes) design.quota (painted_over (planned_pieces first) (layout_in old design.planes))
    → IfSome (room_of mid owner) (λ room. tile_count world (overlaid (picture_in mid owner) (plan_of now i).over) ≤ room)
room-IsTurn {old} {mid} {design} {first} {now} {i} {owner} turn fits =
    count-at mid design i owner (tile_count world (overlaid (picture_in mid owner) (plan_of now i).over)) turn.made.home turn.within turn.is
    (subst (λ picture. tile_count world picture ≤ design.quota) (sym (picture-IsTurn turn)) (fits i turn.within))

-- once it is painted, so is one plane more
pub IsMade-IsTurn :
    {old mid new : Pool} {design : Design} {first now : Scratch} {i owner : ℕ} → IsTurn old mid design first now i owner → ChangesOnly mid new owner → HasStrips new owner
    → picture_in new owner ≡ overlaid (picture_in mid owner) (plan_of now i).over
    → IsMade old new design (painted_over (planned_pieces first) (layout_in old design.planes)) (i + 1)
IsMade-IsTurn {old} {mid} {new} {design} {first} {now} {i} {owner} turn only strips shows =
    IsMade-more old mid design _ i owner turn.made turn.within turn.is new only strips (shows ∙ picture-IsTurn turn)
