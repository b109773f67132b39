-- The words of private contracts. A caller needs none of them.
use Rattle.std.specs.Prelude.{◌≡◌, ℕ, ℤ, Result, Ok, Err, ◌+◌, ◌*◌, ◌^◌, ◌++◌, ◌<◌, ◌≤◌, false, true, if◌then◌else◌, Option, Some, None, List, [], ◌∷◌, IfSome, get_or, length, map, All}
use Rattle.std.specs.List.{range_with_len}
use Rattle.mls_session.specs.Common.{CaughtUp, IsDirtyList, IsFrozen, IsPlanFor, Layout, Outcome, Picture, Piece, Pool, Rect, Scratch, Stepped, Tech, area_of, layer_lines, layout_in, overlaid, picture_in, plan_of, plane_of_type, room_of, strips_on, tile_count, world}
use Rattle.mls_session.specs.Bounds.{moved_rect}
use Rattle.mls_session.specs.Changes.{dumped, erased, leaves_world}
use Rattle.mls_session.specs.Designs.{Design, IsHome, KeepsPlanes, designed_of, drawn_of}
use Rattle.mls_errorplane.specs.declared.catching_up.CaughtUp.TheVariants.{Done as AllChecked, Full as MarksFull, Memory as OutOfMemory}
use Rattle.mls_errorplane.specs.declared.error_plane.Outcome.TheVariants.{Finished}
use Rattle.mls_errorplane.specs.declared.error_plane.Stepped.TheVariants.{Done as StepDone}
use Rattle.mls_session.specs.Own.{Config, Designed, layout_of}
use Rattle.mls_session.specs.OwnSteps.{checked_times, design_step}
use Rattle.mls_session.specs.Journals.{is_memory, is_refusal, said_of}
use Rattle.mls_session.specs.Setups.{config_of}
use Rattle.mls_session.specs.declared.change.Change.{Change}
use Rattle.mls_session.specs.declared.change.Change.TheVariants.{Erase as EraseChange, Dump as DumpChange}
use Rattle.mls_session.specs.declared.command.Command.{Command}
use Rattle.mls_session.specs.declared.command.Command.TheVariants.{CatchUp}
use Rattle.mls_session.specs.declared.executed.Executed.{Executed}
use Rattle.mls_session.specs.declared.journal.Entry.{Entry}
use Rattle.mls_session.specs.declared.journal.Said.{Said}
use Rattle.mls_session.specs.declared.refusal.Refusal.{Refusal}
use Rattle.mls_session.specs.declared.refusal.Refusal.TheVariants.{CellOutside, Memory, Quota}
use Rattle.mls_session.specs.declared.reply.Reply.{Reply}
use Rattle.mls_session.specs.declared.setup.Setup.{Setup}
use Rattle.mls_session.specs.declared.reply.Reply.TheVariants.{Done, Stopped}

-- the layout that a design shows, with the cells of a setup's library
abbrev pub layout_shown : Setup → Pool → Design → Layout
layout_shown setup pool design = layout_of (config_of setup pool) (drawn_of pool design)

-- the command takes the design from one state to the other, with this reply
abbrev pub StepsTo : Setup → Pool → Pool → Design → Command → Reply → Design → Type 0
StepsTo setup old new before command reply after =
    design_step (config_of setup old) (designed_of old before) command ≡ (designed_of new after, reply)

-- where bounds lie that are moved, unless they leave the world
abbrev pub bounds_placed : Option Rect → Result (Option Rect) Refusal
bounds_placed None = Err CellOutside
bounds_placed (Some rect) = Ok (Some rect)

abbrev pub placed_bounds : Option Rect → ℤ → ℤ → Result (Option Rect) Refusal
placed_bounds None dx dy = Ok None
placed_bounds (Some bounds) dx dy = bounds_placed (moved_rect bounds dx dy)

-- what a change makes of what a plane shows
abbrev pub changed : Pool → Change → ℕ → Picture → Picture
changed pool (EraseChange rect kinds) plane below = erased below rect kinds
changed pool (DumpChange planes dx dy) plane below = dumped below (layout_in pool planes.now plane) dx dy

-- what it makes of a layout
abbrev pub changed_layout : Pool → Change → Layout → Layout
changed_layout pool change layout plane = changed pool change plane (layout plane)

-- what a layout shows once the pieces of each plane are painted over it
abbrev pub painted_over : (ℕ → List Piece) → Layout → Layout
painted_over pieces layout plane = overlaid (layout plane) (pieces plane)

-- painted over the layout's first planes, these pieces make the change
abbrev pub ListsChange : Pool → Change → ℕ → Layout → (ℕ → List Piece) → Type 0
ListsChange pool change planes layout pieces = (plane : ℕ) → plane < planes → painted_over pieces layout plane ≡ changed_layout pool change layout plane

-- the pieces of the plan that is kept for each plane
abbrev pub planned_pieces : Scratch → ℕ → List Piece
planned_pieces scratch plane = (plan_of scratch plane).over

-- a plan is kept for each of the first planes, of these owners
abbrev pub ArePlanned : Pool → List ℕ → ℕ → Scratch → Type 0
ArePlanned pool owners count scratch = (plane : ℕ) → plane < count → IsPlanFor pool (get_or owners plane 0) (plan_of scratch plane)

-- a list of this capacity has room for as many pieces as the owner has reserved tiles
abbrev pub HasCapacityFor : Pool → ℕ → ℕ → Type 0
HasCapacityFor pool owner capacity = IfSome (room_of pool owner) (λ room. room ≤ capacity)

-- the planes that the change reads are frozen, and no square of them that isn't space leaves the world
abbrev pub CanChange : Pool → Change → Type 0
CanChange pool (EraseChange rect kinds) = Unit {0}
CanChange pool (DumpChange planes dx dy) = All (IsFrozen pool) planes.now × All (λ owner. leaves_world (picture_in pool owner) dx dy ≡ false) planes.now

-- the change reads at most this many planes
abbrev pub ReadsAtMost : ℕ → Change → Type 0
ReadsAtMost count (EraseChange rect kinds) = Unit {0}
ReadsAtMost count (DumpChange planes dx dy) = length planes.now ≤ count

-- none of the first planes of the layout has more tiles than the quota
abbrev pub FitsQuota : ℕ → ℕ → Layout → Type 0
FitsQuota planes quota layout = (plane : ℕ) → plane < planes → tile_count world (layout plane) ≤ quota

-- these are the strips of a plane of the layout, by bottom and then left
abbrev pub ListsPlane : Layout → List Piece → ℕ → Type 0
ListsPlane layout strips plane = strips ≡ strips_on layout plane

-- the design's planes lie in the pool, and the pieces are the strips of the plane that is listed, if one is
pub record IsListing (pool : Pool) (design : Design) (listed : Option ℕ) (pieces : List Piece) : Type 0 where
  pub home : IsHome pool design
  pub lists : IfSome listed (ListsPlane (layout_in pool design.planes) pieces)

-- the type has a plane, whose strips are these, and its section has this number of lines
pub record IsSection (tech : Tech) (layout : Layout) (kind : ℕ) (strips : List Piece) (lines : ℕ) : Type 0 where
  pub plane : ℕ
  pub place : plane_of_type tech.type_planes kind ≡ Some plane
  pub strips_are : ListsPlane layout strips plane
  pub count : lines ≡ length (layer_lines tech kind strips)

-- these are the strips of the layout's first planes, a list for each
abbrev pub ListsPlanes : Layout → List (List Piece) → Type 0
ListsPlanes layout lists = lists ≡ map (strips_on layout) (range_with_len 0 (length lists))

-- ---- journals
-- the entries, how many there may be, and how many check steps were done since the last one
pub record Journal : Type 0 where
  pub entries : List Entry
  pub limit : ℕ
  pub checks : ℕ

-- with one entry more
abbrev pub after_note : Journal → Said → Journal
after_note journal said = record journal { entries = journal.entries ++ record { checks_before = journal.checks; said = said } ∷ []; checks = 0 }

-- with more check steps
abbrev pub after_steps : Journal → ℕ → Journal
after_steps journal steps = record journal { checks = journal.checks + steps }

-- a command where memory ran out is no entry
abbrev pub after_command : Journal → Command → Executed → Journal
after_command journal command executed =
    if is_refusal is_memory executed.reply then after_steps journal executed.steps else after_note journal (said_of command executed.reply)

-- each check step leaves fewer squares in the areas, so the steps that were done since the last entry and those to come are no more than these
abbrev pub most_checks : ℕ
most_checks = 65 * 2 ^ 42

-- the areas are legal and few, and so is the number of check steps since the last entry
pub record IsCounted (dirty : List Rect) (checks : ℕ) : Type 0 where
  pub areas : IsDirtyList dirty
  pub few : checks + area_of dirty ≤ most_checks

-- ---- check steps
-- what they keep of a design: what is drawn, and its planes
pub record KeepsDrawn (old new : Pool) (before after : Design) : Type 0 where
  pub drawn : drawn_of new after ≡ drawn_of old before
  pub planes : KeepsPlanes old new before after

-- how many were done
abbrev pub done_steps : Stepped → ℕ
done_steps StepDone = 1
done_steps _ = 0

abbrev pub finished_steps : Outcome → ℕ
finished_steps Finished = 1
finished_steps _ = 0

-- ---- catching up
-- the reply where this number of areas is left
abbrev pub caught_up_reply : ℕ → CaughtUp → Reply
caught_up_reply pending AllChecked = Done
caught_up_reply pending MarksFull = Stopped Quota pending
caught_up_reply pending (OutOfMemory steps) = Stopped Memory pending

-- how many check steps were done before memory ran out
abbrev pub steps_of : CaughtUp → ℕ
steps_of (OutOfMemory steps) = steps
steps_of _ = 0

-- where memory ran out while catching up, the check steps that were done are counted, and lead to the new state; other commands do none
abbrev pub Counts : Config → Designed → Command → Executed → Designed → Type 0
Counts config old CatchUp executed new = is_refusal is_memory executed.reply ≡ true → checked_times executed.steps config old ≡ Some new
Counts config old _ executed new = executed.steps ≡ 0
