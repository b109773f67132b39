-- A session's own machine: what each command and each check step does to its own state, as total functions of that state alone. Running out of
-- memory is not part of it, and stands beside it. This project's own.
use Rattle.std.specs.Prelude.{◌≡◌, ◌≢◌, ℕ, zero, suc, ◌+◌, ◌==◌, ◌||◌, if◌then◌else◌, ◌⊎◌, Option, Some, None, List, [], length, All, option_and_then, option_map}
use Rattle.std.specs.Option.{option_map_or}
use Rattle.mls_session.specs.Common.{Checking, EdgeRule, ShowsOwnTypes, area_of, check_step, exceeds, rect_of}
use Rattle.mls_session.specs.Own.{Config, Designed, box_step, cell_at, check_in, count_step, dump_step, dumped_in, edit_step, erase_step, get_step, layout_of, opening, paint_step, save_step, what_step, why_step}
use Rattle.mls_session.specs.declared.command.Command.{Command}
use Rattle.mls_session.specs.declared.command.Command.TheVariants.{Box, Paint, Erase, Dump, GetCell, What, Save, Check, CatchUp, Why, Count}
use Rattle.mls_session.specs.declared.reply.Reply.{Reply}
use Rattle.mls_session.specs.declared.reply.Reply.TheVariants.{Done, Refused, Stopped}
use Rattle.mls_session.specs.declared.refusal.Refusal.TheVariants.{JournalFull, Memory, Quota}

-- what no step of a session changes: that of its design, and how many entries its journal may have
pub record Terms : Type 0 where
  pub config : Config
  pub journal : ℕ

-- each cell shows types on their own planes alone
abbrev pub HaveOwnCells : Terms → Type 0
HaveOwnCells terms = All (ShowsOwnTypes terms.config.tech) terms.config.cells

-- a session's own state: its design, and how many entries its journal has
pub record OwnState : Type 0 where
  pub design : Designed
  pub entries : ℕ

-- how a session begins
abbrev pub beginning : List EdgeRule → OwnState
beginning rules = record { design = opening rules; entries = 0 }

-- ---- check steps
-- what is known of the layout once the first piece is checked
abbrev pub next_checking : Config → Designed → Checking
next_checking config own = check_step config.rules (layout_of config own.drawn) own.checking

-- the first piece is checked, unless no area awaits checking, or the error plane would then have more tiles than the quota
unfoldable pub checked : Config → Designed → Option Designed
checked config own =
    if length own.checking.dirty == 0 || exceeds config.quota (next_checking config own).marks then None
    else Some (record own { checking = next_checking config own })

-- this many check steps one after another, none of them refused
abbrev pub checked_times : ℕ → Config → Designed → Option Designed
checked_times zero config own = Some own
checked_times (suc count) config own = option_and_then (checked_times count config) (checked config own)

-- the reply to catching up that goes no farther: no area is left, or the next step is refused
abbrev pub ending : Designed → Reply
ending own = if length own.checking.dirty == 0 then Done else Stopped Quota (length own.checking.dirty)

-- at most this many check steps, until there is none that is accepted
abbrev pub caught_up : ℕ → Config → Designed → Designed × Reply
caught_up zero config own = (own, ending own)
caught_up (suc count) config own = option_map_or (caught_up count config) (checked config own) (own, ending own)

-- each step leaves fewer squares in the areas, so there are no more steps than squares
abbrev pub catch_up_step : Config → Designed → Designed × Reply
catch_up_step config own = caught_up (area_of own.checking.dirty) config own

-- ---- commands
-- the state to which a command leads, and its reply
unfoldable pub design_step : Config → Designed → Command → Designed × Reply
design_step config own (Box left bottom right top) = edit_step config own None (box_step own.drawn (rect_of left bottom right top))
design_step config own (Paint kind) = edit_step config own own.drawn.box (paint_step config own.drawn own.drawn.box kind)
design_step config own (Erase kinds) = edit_step config own own.drawn.box (erase_step config own.drawn own.drawn.box kinds)
design_step config own (Dump cell dx dy) = edit_step config own (dumped_in config (cell_at config cell) dx dy) (dump_step config own.drawn (cell_at config cell) dx dy)
design_step config own (GetCell cell dx dy) = edit_step config own (dumped_in config (cell_at config cell) dx dy) (get_step config own.drawn cell dx dy)
design_step config own What = edit_step config own None (what_step config own.drawn own.drawn.box)
design_step config own Save = save_step config own
design_step config own Check = edit_step config own own.drawn.box (check_in own.drawn own.drawn.box)
design_step config own CatchUp = catch_up_step config own
design_step config own Why = why_step config own own.drawn.box
design_step config own Count = count_step own

-- memory ran out: `why`, and `what` where cells are placed, change nothing, and catching up keeps the check steps that it did, with some areas left
abbrev pub DesignRunsOut : Config → Designed → Command → Reply → Designed → Type 0
DesignRunsOut config old CatchUp reply new =
    (count : ℕ) × (checked_times count config old ≡ Some new) × (new.checking.dirty ≢ []) × (reply ≡ Stopped Memory (length new.checking.dirty))
DesignRunsOut config old Why reply new = (old.drawn.box ≢ None) × (reply ≡ Refused Memory) × (new ≡ old)
DesignRunsOut config old (Box left bottom right top) reply new = ⊥
DesignRunsOut config old (Paint kind) reply new = ⊥
DesignRunsOut config old (Erase kinds) reply new = ⊥
DesignRunsOut config old (Dump cell dx dy) reply new = ⊥
DesignRunsOut config old (GetCell cell dx dy) reply new = ⊥
DesignRunsOut config old What reply new = (old.drawn.box ≢ None) × (old.drawn.uses ≢ []) × (reply ≡ Refused Memory) × (new ≡ old)
DesignRunsOut config old Save reply new = ⊥
DesignRunsOut config old Check reply new = ⊥
DesignRunsOut config old Count reply new = ⊥

-- the command has this reply and leads from the old state to the new one, by its step or because memory ran out
abbrev pub DesignSteps : Config → Designed → Command → Reply → Designed → Type 0
DesignSteps config old command reply new = (design_step config old command ≡ (new, reply)) ⊎ DesignRunsOut config old command reply new

-- a command that is not refused for a full journal adds an entry to it
unfoldable pub own_step : Terms → OwnState → Command → OwnState × Reply
own_step terms own command =
    if own.entries == terms.journal then (own, Refused JournalFull)
    else (record { design = (design_step terms.config own.design command).0; entries = own.entries + 1 }, (design_step terms.config own.design command).1)

-- a check step changes the design alone, or is refused
unfoldable pub own_check : Terms → OwnState → Option OwnState
own_check terms own = option_map (λ design. record own { design = design }) (checked terms.config own.design)

-- this many check steps one after another, none of them refused
abbrev pub checks : Terms → ℕ → OwnState → Option OwnState
checks terms zero own = Some own
checks terms (suc count) own = option_and_then (checks terms count) (own_check terms own)
