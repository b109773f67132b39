-- A server as its users see it: the sessions that are open, each with what it keeps, and how much of the pool is left. No tile, no owner, no buffer.
-- This project's own.
use Rattle.std.specs.Prelude.{◌≡◌, ℕ, ◌<◌, ◌≤◌, ◌+◌, ◌-◌, ◌==◌, true, not, if◌then◌else◌, Option, Some, None, List, [], ◌∷◌, ◌++◌, length, map}
use Rattle.std.specs.List.{All, AllPairs, filter}
use Rattle.std.specs.Option.{option_map}
use Rattle.mls_session.specs.mls_checker.Forbids.{forbidden}
use Rattle.mls_session.specs.mls_library.SavedCells.{ReadsAs, saved_text}
use Rattle.mls_geom.specs.Rects.{holds}
use Rattle.mls_geom.specs.World.{world}
use Rattle.mls_session.specs.Designs.{HasRightMarks}
use Rattle.mls_session.specs.Journals.{IsLegal, Kept, kept_at_opening}
use Rattle.mls_session.specs.Own.{layout_of}
use Rattle.mls_text.specs.Words.{same_word}
use Rattle.mls_server.specs.Settings.{Setting, config_for, session_reserve, terms_for}

-- an open session: its id, its name, and what it keeps
pub record Seat : Type 0 where
  pub id : ℕ
  pub name : List ℕ
  pub kept : Kept

-- the setting, how many ids were given so far, the open sessions in the order in which they were opened, and how many tiles of the pool are unreserved
pub record World : Type 0 where
  pub setting : Setting
  pub given : ℕ
  pub seats : List Seat
  pub room : ℕ

-- ---- open sessions
abbrev pub seat_in : List Seat → ℕ → Option Seat
seat_in [] id = None
seat_in (seat ∷ seats) id = if seat.id == id then Some seat else seat_in seats id

-- what the session of this id keeps, if it is open
abbrev pub kept_in : World → ℕ → Option Kept
kept_in on id = option_map (λ seat. seat.kept) (seat_in on.seats id)

-- the id of the open session of this name
abbrev pub named_in : List Seat → List ℕ → Option ℕ
named_in [] name = None
named_in (seat ∷ seats) name = if same_word seat.name name then Some seat.id else named_in seats name

abbrev pub session_named : World → List ℕ → Option ℕ
session_named on name = named_in on.seats name

-- ---- how events change a world
-- the session of this id keeps something else, and all others what they kept
abbrev pub keeping : ℕ → Kept → Seat → Seat
keeping id kept seat = if seat.id == id then record seat { kept = kept } else seat

abbrev pub with_kept : World → ℕ → Kept → World
with_kept on id kept = record on { seats = map (keeping id kept) on.seats }

-- a session is opened under the next id
abbrev pub with_session : World → List ℕ → World
with_session on name = record {
  setting = on.setting;
  given = on.given + 1;
  seats = on.seats ++ record { id = on.given + 1; name = name; kept = kept_at_opening on.setting.rules } ∷ [];
  room = on.room - session_reserve on.setting;
}

-- the session of this id is no longer open
abbrev pub without_session : World → ℕ → World
without_session on id = record on { seats = filter (λ seat. not (seat.id == id)) on.seats; room = on.room + session_reserve on.setting }

-- ---- what every world keeps
-- outside the areas that await checking, the marked squares of each open session are exactly those of its layout that the rules forbid
abbrev pub MarksAreRight : World → Type 0
MarksAreRight on = All (λ seat. HasRightMarks (config_for on.setting) seat.kept.own.design) on.seats

-- where no area of an open session awaits checking, the marked squares of the world are exactly those of its layout that the rules forbid
abbrev pub MarksAreExact : World → Type 0
MarksAreExact on = All
    (λ seat. seat.kept.own.design.checking.dirty ≡ [] → (x y : ℕ) → holds world x y ≡ true
    → seat.kept.own.design.checking.marks x y ≡ forbidden on.setting.rules (layout_of (config_for on.setting) seat.kept.own.design.drawn) x y)
    on.seats

-- the journal of each open session is legal
abbrev pub JournalsAreLegal : World → Type 0
JournalsAreLegal on = All (λ seat. IsLegal (terms_for on.setting) seat.kept) on.seats

-- the text of each open session's own paint reads as that
abbrev pub SavesReadBack : World → Type 0
SavesReadBack on = All
    (λ seat. ReadsAs on.setting.tech (saved_text on.setting.tech seat.kept.own.design.drawn.paint) seat.kept.own.design.drawn.paint)
    on.seats

-- the journal of each open session has as many entries as its own state says, and no more than it may have
abbrev pub JournalsHaveRoom : World → Type 0
JournalsHaveRoom on = All (λ seat. (length seat.kept.journal ≡ seat.kept.own.entries) × (seat.kept.own.entries ≤ on.setting.journal)) on.seats

-- no two open sessions have the same id, and none has one that wasn't given
pub record IsNumbered (on : World) : Type 0 where
  pub rising : AllPairs (λ a b. a.id < b.id) on.seats
  pub given : All (λ seat. (1 ≤ seat.id) × (seat.id ≤ on.given)) on.seats
