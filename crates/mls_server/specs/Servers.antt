-- What a server keeps, and the world that it shows. This project's own.
use Rattle.std.specs.Prelude.{◌≡◌, ℕ, ◌<◌, ◌≤◌, ◌==◌, if◌then◌else◌, List, [], ◌∷◌, length, map}
use Rattle.std.specs.List.{All, AllPairs, Contains, position_or_len}
use Rattle.mls_session.specs.Designs.{CanDump, HasRightMarks, KnowsRight}
use Rattle.mls_session.specs.Journals.{IsLegal}
use Rattle.mls_session.specs.Sessions.{IsReady, kept_of, owners_of, state_of}
use Rattle.mls_session.specs.Setups.{config_of, terms_of}
use Rattle.mls_session.specs.declared.setup.Setup.{Setup}
use Rattle.mls_tilepool.specs.Pools.{Pool, unreserved}
use Rattle.mls_server.specs.Settings.{Setting, named_layouts}
use Rattle.mls_server.specs.declared.server.OpenSession.{OpenSession}
use Rattle.mls_server.specs.Worlds.{Seat, World}

-- the setup of each session, the pool of all tiles, how many ids were given, and the open sessions by name, in the order in which they were opened
pub record Server : Type 0 where
  pub setup : Setup
  pub pool : Pool
  pub given : ℕ
  pub sessions : List (List ℕ × OpenSession)

abbrev pub seat_for : Pool → List ℕ × OpenSession → Seat
seat_for pool entry = record { id = entry.1.id; name = entry.0; kept = kept_of pool entry.1.session }

abbrev pub setting_of : Server → Setting
setting_of server = record {
  tech = server.setup.tech;
  rules = server.setup.rules;
  quota = server.setup.quota;
  journal = server.setup.limit;
  cell_tiles = server.setup.cell_tiles;
  cells = named_layouts server.pool server.setup.library;
}

-- what the tiles of the pool show
abbrev pub world_of : Server → World
world_of server = record { setting = setting_of server; given = server.given; seats = map (seat_for server.pool) server.sessions; room = unreserved server.pool }

-- the owners of the planes of the session of this id, if it is open
abbrev pub owners_in : List (List ℕ × OpenSession) → ℕ → List ℕ
owners_in [] id = []
owners_in (entry ∷ entries) id = if entry.1.id == id then owners_of entry.1.session else owners_in entries id

abbrev pub owners_under : Server → ℕ → List ℕ
owners_under server id = owners_in server.sessions id

-- the place of the first open session of this id, or their number where there is none
abbrev pub place_in : List (List ℕ × OpenSession) → ℕ → ℕ
place_in entries id = position_or_len (λ entry. entry.1.id == id) entries

-- it is this place
pub record IsPlaceOf (server : Server) (id place : ℕ) : Type 0 where
  pub first : place ≡ place_in server.sessions id
  pub within : place < length server.sessions

-- ---- what every server keeps
-- the session was opened with this setup, its planes lie in the pool beside those of the cells, its marks are right by the rules, and where earlier checks
-- are known to have left right marks too, and its journal is legal
pub record IsOpenIn (setup : Setup) (pool : Pool) (opened : OpenSession) : Type 0 where
  pub ready : IsReady setup pool opened.session
  pub marks_right : HasRightMarks (config_of setup pool) (state_of pool opened.session).design
  pub knows_right : KnowsRight (config_of setup pool) (state_of pool opened.session).design opened.checked
  pub legal : IsLegal (terms_of setup pool) (kept_of pool opened.session)

-- no owner is of both
abbrev pub AreApart : List ℕ → List ℕ → Type 0
AreApart a b = (owner : ℕ) → Contains a owner → ¬ (Contains b owner)

-- so were all open sessions, no two of which have an owner or an id in common; no id is greater than the number of those that were given
pub record AreOpen (setup : Setup) (pool : Pool) (given : ℕ) (sessions : List (List ℕ × OpenSession)) : Type 0 where
  pub cells_home : CanDump setup pool []
  pub made : All (λ entry. IsOpenIn setup pool entry.1) sessions
  pub apart : AllPairs (λ a b. AreApart (owners_of a.1.session) (owners_of b.1.session)) sessions
  pub rising : AllPairs (λ a b. a.1.id < b.1.id) sessions
  pub within : All (λ entry. (1 ≤ entry.1.id) × (entry.1.id ≤ given)) sessions
  pub few : length sessions ≤ 64
