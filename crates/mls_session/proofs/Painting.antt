-- Painting a type is repainting the plane on which it lies.
use Rattle.std.proofs.Common.{◌≡◌, ℕ, ◌<◌, List, [], ◌∷◌, length, get_or, Option, Some}
use Rattle.mls_session.proofs.Common.{AreAtHome, ChangesOnly, Config, Design, Drawn, Piece, Pool, Quota, Rect, Reply, drawn_of, overlaid, paint_step, picture_in, plane_of_type, repaint_step, tile_count, world}
use Rattle.mls_session.specs.declared.reply.Reply.TheVariants.{Done, Refused}
use Rattle.mls_session.proofs.RepaintedPlanes.{repaint_step-Done, repaint_step-Refused}

-- the box of a design is painted with a type: the plane on which that lies, its owner, and the piece
pub record IsPainting (config : Config) (design : Design) (named : Option ℕ) (e : Rect) (kind plane owner : ℕ) (pieces : List Piece) : Type 0 where
  pub is_set : design.box ≡ Some e
  pub is_known : named ≡ Some kind
  pub lies_on : plane_of_type config.tech.type_planes kind ≡ Some plane
  pub one : pieces ≡ record { rect = e; kind = kind } ∷ []
  pub same_quota : config.quota ≡ design.quota
  pub within : plane < length design.planes
  pub is : owner ≡ get_or design.planes plane owner

paint_step-repaint_step : (config : Config) (own : Drawn) (box : Option Rect) (named : Option ℕ) (e : Rect) (kind plane : ℕ) (pieces : List Piece) (next : Drawn × Reply)
    → box ≡ Some e → named ≡ Some kind → plane_of_type config.tech.type_planes kind ≡ Some plane → pieces ≡ record { rect = e; kind = kind } ∷ []
    → repaint_step config own plane (overlaid (own.paint plane) pieces) ≡ next → paint_step config own box named ≡ next
paint_step-repaint_step config own box named e kind plane pieces next is_set is_known lies_on one repainted =
    rw (is_set, is_known, lies_on) (rw one at repainted)

module _ (config : Config) (old : Pool) (design : Design) (named : Option ℕ) (e : Rect) (kind plane owner : ℕ) (pieces : List Piece) (painting : IsPainting config design named e kind plane owner pieces) where
  -- a plane that would have too many tiles is left
  pub paint_step-Refused :
      design.quota < tile_count world (overlaid (picture_in old owner) pieces) → paint_step config (drawn_of old design) design.box named ≡ (drawn_of old design, Refused Quota)
  paint_step-Refused many =
      paint_step-repaint_step config (drawn_of old design) design.box named e kind plane pieces (drawn_of old design, Refused Quota) painting.is_set painting.is_known painting.lies_on painting.one
      (repaint_step-Refused config old design plane owner pieces painting.same_quota painting.within painting.is many)

  -- any other shows the box
  pub paint_step-Done :
      (new : Pool) (after : Design) → AreAtHome old design.quota design.planes → after.box ≡ design.box → after.planes ≡ design.planes → after.uses ≡ design.uses → ChangesOnly old new owner
      → picture_in new owner ≡ overlaid (picture_in old owner) pieces → ¬ (design.quota < tile_count world (overlaid (picture_in old owner) pieces))
      → paint_step config (drawn_of old design) design.box named ≡ (drawn_of new after, Done)
  paint_step-Done new after home same_box same_planes same_uses changed shows few =
      paint_step-repaint_step config (drawn_of old design) design.box named e kind plane pieces (drawn_of new after, Done) painting.is_set painting.is_known painting.lies_on painting.one
      (repaint_step-Done config old new design after.box after.planes after.uses plane owner pieces painting.same_quota home painting.within painting.is same_box same_planes same_uses changed shows few)
