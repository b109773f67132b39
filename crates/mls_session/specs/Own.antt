-- What a design's commands do to a box, a layout and what is known of it. This project's own.
use Rattle.std.specs.Prelude.{ℕ, ℤ, ◌==◌, nat_le, nat_lt, if◌then◌else◌, Bool, not, Option, Some, None, Result, Ok, Err, List, [], ◌∷◌, ◌++◌, length, slice_get, count_by, sum_by, option_and_then}
use Rattle.std.specs.List.{list_all, list_any, range_with_len}
use Rattle.mls_session.specs.Common.{CellUse, Checking, EdgeRule, Layout, Picture, Rect, RectFault, SquareSet, Tech, columns, dirtied, empty_picture, flattened, members, most_flat_tiles, most_uses, opening_checking, painted, plane_of_type, rows, saved_line_count, set_of, shows, tile_count, violated_rules, world}
use Rattle.mls_geom.specs.declared.rect.RectFault.TheVariants.{Empty, Outside}
use Rattle.mls_session.specs.Bounds.{dumped_rect}
use Rattle.mls_session.specs.Changes.{dumped, erased, layout_leaves_world}
use Rattle.mls_session.specs.declared.reply.Reply.{Reply}
use Rattle.mls_session.specs.declared.reply.Reply.TheVariants.{Done, Kinds, Saved, Count as Counted, Why as WhyRules, Refused}
use Rattle.mls_session.specs.declared.refusal.Refusal.TheVariants.{EmptyBox, OutsideWorld, NoBox, UnknownType, Quota, UnknownCell, CellOutside, TooManyUses}

-- what no command changes: the technology, its compiled rules, the layouts of the library's cells, and the most tiles that a plane may have, and one of
-- a cell
pub record Config : Type 0 where
  pub tech : Tech
  pub rules : List EdgeRule
  pub cells : List Layout
  pub quota : ℕ
  pub cell_tiles : ℕ

-- the box, if one is set, the own paint, and the cells that are placed, in the order in which they were
pub record Drawn : Type 0 where
  pub box : Option Rect
  pub paint : Layout
  pub uses : List CellUse

-- no box, nothing but space, and no uses
abbrev pub blank : Drawn
blank = record { box = None; paint = λ plane. empty_picture; uses = [] }

-- the layout: the own paint where that isn't space, and else what the uses show
abbrev pub layout_of : Config → Drawn → Layout
layout_of config drawn = flattened config.cells drawn.uses drawn.paint

-- what is drawn, and what is known of which squares of the layout the rules forbid: the marked squares, and the areas that await checking
pub record Designed : Type 0 where
  pub drawn : Drawn
  pub checking : Checking

-- how a design begins
abbrev pub opening : List EdgeRule → Designed
opening rules = record { drawn = blank; checking = opening_checking rules }

-- ---- the own paint that commands make
-- the layout with one plane's picture in place of its own
abbrev pub with_plane : Layout → ℕ → Picture → Layout
with_plane layout plane picture p = if p == plane then picture else layout p

-- on each plane the squares of the rectangle that have one of these types are erased
abbrev pub erased_layout : Layout → Rect → ℕ → Layout
erased_layout layout e kinds plane = erased (layout plane) e kinds

-- on each plane the squares of the cell that aren't space are painted, moved
abbrev pub dumped_layout : Layout → Layout → ℤ → ℤ → Layout
dumped_layout layout cell dx dy plane = dumped (layout plane) (cell plane) dx dy

-- some of the first planes of the layout has more tiles than these
abbrev pub exceeds_tiles : ℕ → ℕ → Layout → Bool
exceeds_tiles most planes layout = list_any (λ plane. nat_lt most (tile_count world (layout plane))) (range_with_len 0 planes)

-- some plane of the technology has more tiles than are listed of one with the cells that are placed
abbrev pub exceeds_listed : Config → Layout → Bool
exceeds_listed config layout = exceeds_tiles (most_flat_tiles config.quota config.cell_tiles) config.tech.plane_count layout

-- some plane of the technology would have more tiles than the quota
abbrev pub exceeds_quota : Config → Layout → Bool
exceeds_quota config layout = list_any (λ plane. nat_lt config.quota (tile_count world (layout plane))) (range_with_len 0 config.tech.plane_count)

-- ---- what is shown
-- some square of the rectangle has this type on one of the first planes
abbrev pub shows_type : ℕ → Layout → Rect → ℕ → Bool
shows_type planes layout e kind = list_any (λ plane. shows (layout plane) e kind) (range_with_len 0 planes)

-- the types of the rectangle, space among them, on the first planes
unfoldable pub types_in : ℕ → Layout → Rect → ℕ
types_in planes layout e = set_of (shows_type planes layout e)

-- each kind of the set is a type of the technology, or space
abbrev pub are_types : Tech → ℕ → Bool
are_types tech kinds = list_all (λ kind. nat_le kind (length tech.type_planes)) (members kinds)

-- ---- the commands
-- the box becomes the rectangle, or is refused by its first fault
abbrev pub box_step : Drawn → Result Rect RectFault → Drawn × Reply
box_step own (Ok e) = (record own { box = Some e }, Done)
box_step own (Err Empty) = (own, Refused EmptyBox)
box_step own (Err Outside) = (own, Refused OutsideWorld)

-- the plane's own paint becomes the picture, unless it would have more tiles than the quota
abbrev pub repaint_step : Config → Drawn → ℕ → Picture → Drawn × Reply
repaint_step config own plane picture =
    if nat_lt config.quota (tile_count world picture) then (own, Refused Quota)
    else (record own { paint = with_plane own.paint plane picture }, Done)

-- the box is painted with the type, on the type's plane
abbrev pub paint_on : Config → Drawn → Rect → ℕ → Option ℕ → Drawn × Reply
paint_on config own e kind None = (own, Refused UnknownType)
paint_on config own e kind (Some plane) = repaint_step config own plane (painted (own.paint plane) (record { rect = e; kind = kind }))

abbrev pub paint_in : Config → Drawn → Rect → Option ℕ → Drawn × Reply
paint_in config own e None = (own, Refused UnknownType)
paint_in config own e (Some kind) = paint_on config own e kind (plane_of_type config.tech.type_planes kind)

abbrev pub paint_step : Config → Drawn → Option Rect → Option ℕ → Drawn × Reply
paint_step config own None kind = (own, Refused NoBox)
paint_step config own (Some e) kind = paint_in config own e kind

-- the own paint becomes another one on all planes, unless one of them would have more tiles than the quota
abbrev pub change_step : Config → Drawn → Layout → Drawn × Reply
change_step config own layout = if exceeds_quota config layout then (own, Refused Quota) else (record own { paint = layout }, Done)

-- these types are erased in the box, on each plane
abbrev pub erase_in : Config → Drawn → Rect → Option ℕ → Drawn × Reply
erase_in config own e None = (own, Refused UnknownType)
erase_in config own e (Some kinds) =
    if not (are_types config.tech kinds) then (own, Refused UnknownType) else change_step config own (erased_layout own.paint e kinds)

abbrev pub erase_step : Config → Drawn → Option Rect → Option ℕ → Drawn × Reply
erase_step config own None kinds = (own, Refused NoBox)
erase_step config own (Some e) kinds = erase_in config own e kinds

-- the cell is dumped on all planes, unless a square of it would leave the world
abbrev pub dump_step : Config → Drawn → Option Layout → ℤ → ℤ → Drawn × Reply
dump_step config own None dx dy = (own, Refused UnknownCell)
dump_step config own (Some cell) dx dy =
    if layout_leaves_world config.tech.plane_count cell dx dy then (own, Refused CellOutside)
    else change_step config own (dumped_layout own.paint cell dx dy)

-- the cell of this number is placed, unless a square of it would leave the world, or there are as many uses as there may be
abbrev pub get_in : Config → Drawn → ℕ → Option Layout → ℤ → ℤ → Drawn × Reply
get_in config own id None dx dy = (own, Refused UnknownCell)
get_in config own id (Some cell) dx dy =
    if layout_leaves_world config.tech.plane_count cell dx dy then (own, Refused CellOutside)
    else (if nat_le most_uses (length own.uses) then (own, Refused TooManyUses)
    else (record own { uses = own.uses ++ record { cell = id; dx = dx; dy = dy } ∷ [] }, Done))

abbrev pub get_step : Config → Drawn → Option ℕ → ℤ → ℤ → Drawn × Reply
get_step config own None dx dy = (own, Refused UnknownCell)
get_step config own (Some id) dx dy = get_in config own id (slice_get config.cells id) dx dy

-- the types in the box
abbrev pub what_step : Config → Drawn → Option Rect → Drawn × Reply
what_step config own None = (own, Refused NoBox)
what_step config own (Some e) = (own, Kinds (types_in config.tech.plane_count (layout_of config own) e))

-- the layout of the cell of this number
abbrev pub cell_at : Config → Option ℕ → Option Layout
cell_at config cell = option_and_then (slice_get config.cells) cell

-- ---- areas that await checking
-- where an edit is accepted, the rectangle that it changed, if it changed one, awaits checking
abbrev pub dirty_after : List EdgeRule → Option Rect → Reply → Checking → Checking
dirty_after rules (Some rect) Done checking = dirtied rules rect checking
dirty_after rules _ _ checking = checking

abbrev pub edit_step : Config → Designed → Option Rect → Drawn × Reply → Designed × Reply
edit_step config own rect step = (record { drawn = step.0; checking = dirty_after config.rules rect step.1 own.checking }, step.1)

-- the smallest rectangle round the squares other than space of the cell, moved
abbrev pub dumped_in : Config → Option Layout → ℤ → ℤ → Option Rect
dumped_in config None dx dy = None
dumped_in config (Some cell) dx dy = dumped_rect config.tech.plane_count cell dx dy

-- the box changes nothing of what is drawn
abbrev pub check_in : Drawn → Option Rect → Drawn × Reply
check_in drawn None = (drawn, Refused NoBox)
check_in drawn (Some e) = (drawn, Done)

-- ---- marks
-- the number of marked squares of the world
unfoldable pub total_marks : SquareSet → ℕ
total_marks marks = sum_by (λ y. count_by (λ x. marks x y) (columns world)) (rows world)

-- how many squares are marked, and how many areas await checking
abbrev pub count_step : Designed → Designed × Reply
count_step own = (own, Counted (total_marks own.checking.marks) (length own.checking.dirty))

-- the rules that forbid a square of the box, in the layout as it is now
abbrev pub why_step : Config → Designed → Option Rect → Designed × Reply
why_step config own None = (own, Refused NoBox)
why_step config own (Some e) = (own, WhyRules (violated_rules config.rules e (layout_of config own.drawn)))

-- the number of lines of the own paint's text
abbrev pub save_step : Config → Designed → Designed × Reply
save_step config own = (own, Saved (saved_line_count config.tech own.drawn.paint))
