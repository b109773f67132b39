-- What a caller sees of a design, its own state, and its planes in the pool.
use Rattle.std.specs.Prelude.{◌≡◌, ◌≢◌, ℕ, Bool, true, false, if◌then◌else◌, Option, Some, None, IfSome, List, [], ◌∷◌, ◌++◌, length, ⊤, All, AllPairs, Contains}
use Rattle.mls_session.specs.Common.{AreRightIn, CellUse, ChangesAmong, Checked, ErrorPlane, HasStrips, IsChecked, Pool, Rect, ShowsMarks, checking_of, layout_in, room_of}
use Rattle.mls_library.specs.Libraries.{HavePlanes, IsHome as AreCellsHome, ShowOwnTypes}
use Rattle.mls_session.specs.Own.{Config, Designed, Drawn, layout_of}
use Rattle.mls_session.specs.Quotas.{plane_reserve}
use Rattle.mls_session.specs.declared.command.Command.{Command}
use Rattle.mls_session.specs.declared.command.Command.TheVariants.{Box, Paint, Erase, Dump, GetCell, What, Save, Check, CatchUp, Why as WhyCommand, Count as CountCommand}
use Rattle.mls_session.specs.declared.setup.Setup.{Setup}
use Rattle.mls_session.specs.declared.reply.Reply.{Reply}
use Rattle.mls_session.specs.declared.reply.Reply.TheVariants.{Done, Kinds, Saved, Count, Why, Refused, Stopped}

-- the box, the owners of the planes of own paint, the cells that are placed, the most tiles that a plane may have, and the error plane
pub record Design : Type 0 where
  pub box : Option Rect
  pub planes : List ℕ
  pub uses : List CellUse
  pub quota : ℕ
  pub errors : ErrorPlane

-- the own paint and the marks are what the tiles of the design's planes show
abbrev pub drawn_of : Pool → Design → Drawn
drawn_of pool design = record { box = design.box; paint = layout_in pool design.planes; uses = design.uses }

abbrev pub designed_of : Pool → Design → Designed
designed_of pool design = record { drawn = drawn_of pool design; checking = checking_of pool design.errors }

-- the owners of the layout's planes, and last that of the error plane
abbrev pub owners_of : Design → List ℕ
owners_of design = design.planes ++ design.errors.owner ∷ []

-- the design was opened with this setup, or with one of as many planes and the same quota
pub record IsMadeFor (setup : Setup) (design : Design) : Type 0 where
  pub planes : length design.planes ≡ setup.tech.plane_count
  pub quota : design.quota ≡ setup.quota

-- each plane of a layout lies in the pool in maximal strips, with its reserve, under an owner of its own
pub record AreAtHome (pool : Pool) (quota : ℕ) (planes : List ℕ) : Type 0 where
  pub strips : All (λ owner. HasStrips pool owner) planes
  pub reserves : All (λ owner. room_of pool owner ≡ Some (plane_reserve quota)) planes
  pub apart : AllPairs (λ a b. a ≢ b) planes

-- the error plane shows marks and nothing else, with its reserve, under an owner that none of the layout's planes has
pub record HasErrorPlane (pool : Pool) (design : Design) : Type 0 where
  pub marks : ShowsMarks pool design.errors
  pub reserve : room_of pool design.errors.owner ≡ Some (plane_reserve design.quota)
  pub apart : All (λ plane. plane ≢ design.errors.owner) design.planes

-- so the design's planes lie in the pool
pub record IsHome (pool : Pool) (design : Design) : Type 0 where
  pub layout : AreAtHome pool design.quota design.planes
  pub errors : HasErrorPlane pool design

-- what every call keeps: the design has the planes and the quota that it had, its planes are at home, and only their tiles have changed
pub record KeepsPlanes (old new : Pool) (before after : Design) : Type 0 where
  pub home : IsHome new after
  pub only : ChangesAmong old new (owners_of before)
  pub planes : after.planes ≡ before.planes
  pub errors : after.errors.owner ≡ before.errors.owner
  pub quota : after.quota ≡ before.quota

-- the library's cells lie in the pool, under other owners than these, and each has a plane for each of the technology's, and shows types on their own planes
pub record CanDump (setup : Setup) (pool : Pool) (owners : List ℕ) : Type 0 where
  pub home : AreCellsHome pool setup.library
  pub apart : All (λ cell. All (λ owner. ¬ (Contains owners owner)) cell.planes) setup.library
  pub planes : HavePlanes setup.tech.plane_count setup.library
  pub own_types : ShowOwnTypes setup.tech pool setup.library

-- what most calls need: the design was opened with this setup, and its planes lie in the pool beside those of the library's cells
pub record IsReady (setup : Setup) (pool : Pool) (design : Design) : Type 0 where
  pub home : IsHome pool design
  pub made_for : IsMadeFor setup design
  pub can_dump : CanDump setup pool (owners_of design)

-- the fact, if the reply is a refusal
abbrev pub OnRefused : Reply → Type 0 → Type 0
OnRefused Done P = ⊤
OnRefused (Kinds kinds) P = ⊤
OnRefused (Saved lines) P = ⊤
OnRefused (Count errors pending) P = ⊤
OnRefused (Why violated) P = ⊤
OnRefused (Refused refusal) P = P
OnRefused (Stopped refusal pending) P = ⊤

-- outside the areas that await checking, the marked squares are exactly those of the layout that the rules forbid
abbrev pub HasRightMarks : Config → Designed → Type 0
HasRightMarks config own = IsChecked config.rules (layout_of config own.drawn) own.checking

-- in the rectangles that earlier checks left, if there were any, the marked squares are exactly those of the layout that the rules forbid
abbrev pub KnowsRight : Config → Designed → Option Checked → Type 0
KnowsRight config own checked = IfSome checked (AreRightIn config.rules (layout_of config own.drawn) own.checking.marks)

-- a command leaves the layout and the marks as they are, whatever its reply
abbrev pub leaves_marks : Command → Bool
leaves_marks (Box left bottom right top) = true
leaves_marks What = true
leaves_marks Save = true
leaves_marks Check = true
leaves_marks WhyCommand = true
leaves_marks CountCommand = true
leaves_marks (Paint kind) = false
leaves_marks (Erase kinds) = false
leaves_marks (Dump cell dx dy) = false
leaves_marks (GetCell cell dx dy) = false
leaves_marks CatchUp = false

-- where they are known to be so after a command: where they were, if it leaves them
abbrev pub known_after : Command → Option Checked → Option Checked
known_after command checked = if leaves_marks command then checked else None
