-- What an edit of a design's layout leads to, once what it changed awaits checking.
use Rattle.std.proofs.Common.{◌≡◌, ℕ, ◌<◌, Bool, true, not, List, Option, Some, sym, ap, ◌∙◌}
use Rattle.mls_session.proofs.Common.{CellUse, ChangesAmong, ChangesOnly, Config, Layout, Piece, Pool, Rect, change_step, checking_of, dirty_after, edit_step, exceeds_quota, layout_in, overlaid, paint_step, picture_in, tile_count, world}
use Rattle.mls_paint.proofs.OwnerFrames.{ChangesAmong-ChangesOnly}
use Rattle.mls_session.specs.Designs.{Design, IsHome, designed_of, drawn_of}
use Rattle.mls_session.specs.declared.reply.Reply.TheVariants.{Done}
use Rattle.mls_session.proofs.ChangedQuotas.{change_step-Done}
use Rattle.mls_session.proofs.CommandSteps.{edit_step-Done}
use Rattle.mls_session.proofs.ErrorPlanes.{checking_of-kept}
use Rattle.mls_session.proofs.Painting.{IsPainting, paint_step-Done}

-- the areas that await checking are those that did, and what the edit changed
module _ (config : Config) (old new : Pool) (before after : Design) (rect : Option Rect) (home : IsHome old before) (only : ChangesAmong old new before.planes) (dirtied : checking_of new after.errors ≡ dirty_after config.rules rect Done (checking_of new before.errors)) where
  checking : checking_of new after.errors ≡ dirty_after config.rules rect Done (checking_of old before.errors)
  checking = dirtied ∙ ap (dirty_after config.rules rect Done) (checking_of-kept old new before home.errors only)

  -- all planes are changed
  pub change-Done :
      (layout : Layout) (fits : Bool) → fits ≡ not (exceeds_quota config layout) → fits ≡ true → layout_in new before.planes ≡ layout
      → after.box ≡ before.box → after.planes ≡ before.planes → after.uses ≡ before.uses
      → edit_step config (designed_of old before) rect (change_step config (drawn_of old before) layout) ≡ (designed_of new after, Done)
  change-Done layout fits tested passed shows box planes uses =
      let drawn : drawn_of new after ≡ record { box = before.box; paint = layout; uses = before.uses } =
      ap (λ (b : Option Rect). record { box = b; paint = layout_in new after.planes; uses = after.uses }) box
      ∙ ap (λ (owners : List ℕ). record { box = before.box; paint = layout_in new owners; uses = after.uses }) planes
      ∙ ap (λ (l : Layout). record { box = before.box; paint = l; uses = after.uses }) shows
      ∙ ap (λ (placed : List CellUse). record { box = before.box; paint = layout; uses = placed }) uses in
      edit_step-Done config (designed_of old before) (designed_of new after) rect (change_step config (drawn_of old before) layout)
      (change_step-Done config (drawn_of old before) (drawn_of new after) layout fits tested passed drawn) checking

-- one plane is painted
pub paint-Done :
    (config : Config) (old new : Pool) (before after : Design) (named : Option ℕ) (e : Rect) (kind plane owner : ℕ) (pieces : List Piece)
    → IsPainting config before named e kind plane owner pieces → IsHome old before → ChangesOnly old new owner → picture_in new owner ≡ overlaid (picture_in old owner) pieces
    → ¬ (before.quota < tile_count world (overlaid (picture_in old owner) pieces)) → after.box ≡ before.box → after.planes ≡ before.planes
    → after.uses ≡ before.uses → checking_of new after.errors ≡ dirty_after config.rules (Some e) Done (checking_of new before.errors)
    → edit_step config (designed_of old before) before.box (paint_step config (drawn_of old before) before.box named) ≡ (designed_of new after, Done)
paint-Done config old new before after named e kind plane owner pieces painting home changed shows few box planes uses dirtied =
    let only = ChangesAmong-ChangesOnly old new before.planes owner (plane, painting.within, sym painting.is) changed in
    edit_step-Done config (designed_of old before) (designed_of new after) before.box (paint_step config (drawn_of old before) before.box named)
    (paint_step-Done config old before named e kind plane owner pieces painting new after home.layout box planes uses changed shows few)
    (dirtied ∙ ap (dirty_after config.rules (Some e) Done) (checking_of-kept old new before home.errors only)
    ∙ ap (λ (rect : Option Rect). dirty_after config.rules rect Done (checking_of old before.errors)) (sym painting.is_set))
