-- Placing a cell: the step, and the design to which it leads.
use Rattle.std.proofs.Common.{◌≡◌, ℕ, ℤ, ◌≤◌, ◌<◌, nat_le, true, false, Option, Some, List, [], ◌∷◌, ◌++◌, length, refl, sym, ap, ◌∙◌, arith}
use Rattle.std.proofs.lemmas.Bool.Decides.{nat_tests}
use Rattle.mls_session.proofs.Common.{CellOutside, CellUse, Config, Design, Drawn, Layout, Pool, Rect, TooManyUses, cell_at, checking_of, designed_of, dirty_after, drawn_of, edit_step, get_step, layout_in, layout_leaves_world, most_uses}
use Rattle.mls_session.specs.declared.reply.Reply.TheVariants.{Done, Refused}
use Rattle.mls_session.proofs.CommandSteps.{edit_step-Done}

-- ---- the step
module _ (config : Config) (own : Drawn) (id : ℕ) (layout : Layout) (dx dy : ℤ) (planes : ℕ) (found : cell_at config (Some id) ≡ Some layout) (count : config.tech.plane_count ≡ planes) where
  pub get_step-CellOutside : layout_leaves_world planes layout dx dy ≡ true → get_step config own (Some id) dx dy ≡ (own, Refused CellOutside)
  get_step-CellOutside leaves = rw (found, count, leaves) refl

  module _ (stays : layout_leaves_world planes layout dx dy ≡ false) where
    pub get_step-TooManyUses : most_uses ≤ length own.uses → get_step config own (Some id) dx dy ≡ (own, Refused TooManyUses)
    get_step-TooManyUses many =
        let test : nat_le most_uses (length own.uses) ≡ true = grind (arith, nat_tests, many) in
        rw (found, count, stays, test) refl

    pub get_step-Done :
        length own.uses < most_uses
        → get_step config own (Some id) dx dy ≡ (record own { uses = own.uses ++ record { cell = id; dx = dx; dy = dy } ∷ [] }, Done)
    get_step-Done few =
        let test : nat_le most_uses (length own.uses) ≡ false = grind (arith, nat_tests, few) in
        rw (found, count, stays, test) refl

-- ---- the design
-- one use more, and what it shows awaits checking
pub place-Done :
    (config : Config) (pool : Pool) (before after : Design) (rect : Option Rect) (id : ℕ) (layout : Layout) (dx dy : ℤ) (planes : ℕ)
    → cell_at config (Some id) ≡ Some layout → config.tech.plane_count ≡ planes → layout_leaves_world planes layout dx dy ≡ false
    → length before.uses < most_uses → after.box ≡ before.box → after.planes ≡ before.planes
    → after.uses ≡ before.uses ++ record { cell = id; dx = dx; dy = dy } ∷ []
    → checking_of pool after.errors ≡ dirty_after config.rules rect Done (checking_of pool before.errors)
    → edit_step config (designed_of pool before) rect (get_step config (drawn_of pool before) (Some id) dx dy) ≡ (designed_of pool after, Done)
place-Done config pool before after rect id layout dx dy planes found count stays few box same uses dirtied =
    let drawn : drawn_of pool after ≡ record { box = before.box; paint = layout_in pool before.planes; uses = before.uses ++ record { cell = id; dx = dx; dy = dy } ∷ [] } =
    ap (λ (b : Option Rect). record { box = b; paint = layout_in pool after.planes; uses = after.uses }) box
    ∙ ap (λ (owners : List ℕ). record { box = before.box; paint = layout_in pool owners; uses = after.uses }) same
    ∙ ap (λ (placed : List CellUse). record { box = before.box; paint = layout_in pool before.planes; uses = placed }) uses in
    edit_step-Done config (designed_of pool before) (designed_of pool after) rect (get_step config (drawn_of pool before) (Some id) dx dy)
    (get_step-Done config (drawn_of pool before) id layout dx dy planes found count stays few ∙ ap (λ (own : Drawn). (own, Done)) (sym drawn)) dirtied
