-- What a caller sees of a session, what it keeps, and its planes in the pool.
use Rattle.std.specs.Prelude.{◌≡◌, ℕ, List, length}
use Rattle.mls_tilepool.specs.Pools.{Pool}
use Rattle.mls_session.specs.Designs as design
use Rattle.mls_session.specs.Designs.{CanDump, Design, HasRightMarks, designed_of}
use Rattle.mls_session.specs.Journals.{IsLegal, Kept}
use Rattle.mls_session.specs.OwnSteps.{OwnState}
use Rattle.mls_session.specs.Setups.{config_of, terms_of}
use Rattle.mls_session.specs.declared.journal.Entry.{Entry}
use Rattle.mls_session.specs.declared.setup.Setup.{Setup}

-- its design, its journal, how many entries this may have, and how many check steps were done since the last entry
pub record Session : Type 0 where
  pub design : Design
  pub journal : List Entry
  pub limit : ℕ
  pub checks : ℕ

-- the layout and the marks are what the tiles of the session's planes show
abbrev pub state_of : Pool → Session → OwnState
state_of pool session = record { design = designed_of pool session.design; entries = length session.journal }

abbrev pub kept_of : Pool → Session → Kept
kept_of pool session = record { own = state_of pool session; journal = session.journal; checks = session.checks }

-- the owners of the layout's planes, and last that of the error plane
abbrev pub owners_of : Session → List ℕ
owners_of session = design.owners_of session.design

-- the session was opened with this setup, or with one of as many planes, the same quota and the same limit
pub record IsMadeFor (setup : Setup) (session : Session) : Type 0 where
  pub design : design.IsMadeFor setup session.design
  pub limit : session.limit ≡ setup.limit

-- the session's planes lie in the pool
abbrev pub IsHome : Pool → Session → Type 0
IsHome pool session = design.IsHome pool session.design

-- what most calls need: the session was opened with this setup, and its planes lie in the pool beside those of the library's cells
pub record IsReady (setup : Setup) (pool : Pool) (session : Session) : Type 0 where
  pub home : IsHome pool session
  pub made_for : IsMadeFor setup session
  pub can_dump : CanDump setup pool (owners_of session)

-- what every call keeps: the session's planes are those that it had and are at home, only their tiles have changed, and its journal may have as many
-- entries as it could
pub record KeepsPlanes (old new : Pool) (before after : Session) : Type 0 where
  pub planes : design.KeepsPlanes old new before.design after.design
  pub limit : after.limit ≡ before.limit

-- and what most of them leave true: a legal journal is legal, right marks are right, and the planes are kept
pub record StaysSound (setup : Setup) (old new : Pool) (before after : Session) : Type 0 where
  pub legal : IsLegal (terms_of setup old) (kept_of old before) → IsLegal (terms_of setup old) (kept_of new after)
  pub marks_right : HasRightMarks (config_of setup old) (state_of old before).design → HasRightMarks (config_of setup old) (state_of new after).design
  pub planes : KeepsPlanes old new before after
