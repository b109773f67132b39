-- What every server keeps is true of the world that it shows: its marks are right, its journals are legal, what it saves reads back, and its sessions are
-- numbered.
use Rattle.std.proofs.Common.{◌≡◌, ℕ, ◌<◌, ◌≤◌, List, length, refl, subst}
use Rattle.std.proofs.lemmas.List.Elements.{All-map, All-weaker}
use Rattle.std.specs.Prelude.{IfSome}
use Rattle.mls_geom.proofs.Ascending.{AllPairs-map}
use Rattle.mls_geom.specs.Layouts.{Layout}
use Rattle.mls_tech.specs.Readings.{HasNames}
use Rattle.mls_text.specs.Lines.{IsUnbroken}
use Rattle.mls_session.specs.mls_library.SavedCells.{ReadsAs, saved_text}
use Rattle.mls_session.specs.Designs.{HasRightMarks}
use Rattle.mls_session.specs.Journals.{IsLegal}
use Rattle.mls_session.specs.OwnSteps.{Terms}
use Rattle.mls_session.specs.Sessions.{Session, kept_of}
use Rattle.mls_session.specs.Setups.{terms_of}
use Rattle.mls_server.specs.Servers.{IsOpenIn, Server, seat_for, setting_of, world_of}
use Rattle.mls_server.specs.declared.server.OpenSession.{OpenSession}
use Rattle.mls_server.specs.Settings.{config_for, terms_for}
use Rattle.mls_server.specs.Worlds.{IsNumbered, JournalsAreLegal, JournalsHaveRoom, MarksAreRight, SavesReadBack, Seat}
use Rattle.mls_session.proofs.JournalRooms.{IsLegal-within}
use Rattle.mls_session.proofs.OwnTypes.{holds_paint, legal_own, own_cells}
use Rattle.mls_session.proofs.mls_library.SavedCells.{saved-reads-back}
use Rattle.mls_server.proofs.OtherSessions.{AreOpenIn}
use Rattle.mls_server.proofs.SessionTerms.{terms_of-setting}

module _ (server : Server) (made : AreOpenIn server) where
  abbrev IsMade : List ℕ × OpenSession → Type 0
  IsMade entry = IsOpenIn server.setup server.pool entry.1

  within :
      (session : Session) → IsLegal (terms_of server.setup server.pool) (kept_of server.pool session) → (kept_of server.pool session).own.entries ≤ server.setup.limit
  within session legal = IsLegal-within (terms_of server.setup server.pool) (kept_of server.pool session) legal

  pub MarksAreRight-of : MarksAreRight (world_of server)
  MarksAreRight-of =
      All-map (λ (seat : Seat). HasRightMarks (config_for (setting_of server)) seat.kept.own.design) (seat_for server.pool) server.sessions
      (All-weaker IsMade (λ (entry : List ℕ × OpenSession). HasRightMarks (config_for (setting_of server)) (kept_of server.pool entry.1.session).own.design)
      (λ entry is.
      subst (λ (terms : Terms). HasRightMarks terms.config (kept_of server.pool entry.1.session).own.design) (terms_of-setting server) is.marks_right)
      server.sessions made.made)

  pub JournalsAreLegal-of : JournalsAreLegal (world_of server)
  JournalsAreLegal-of =
      All-map (λ (seat : Seat). IsLegal (terms_for (setting_of server)) seat.kept) (seat_for server.pool) server.sessions
      (All-weaker IsMade (λ (entry : List ℕ × OpenSession). IsLegal (terms_for (setting_of server)) (kept_of server.pool entry.1.session))
      (λ entry is.
      subst (λ (terms : Terms). IsLegal terms (kept_of server.pool entry.1.session)) (terms_of-setting server) is.legal)
      server.sessions made.made)

  pub JournalsHaveRoom-of : JournalsHaveRoom (world_of server)
  JournalsHaveRoom-of =
      All-map (λ (seat : Seat). (length seat.kept.journal ≡ seat.kept.own.entries) × (seat.kept.own.entries ≤ server.setup.limit)) (seat_for server.pool) server.sessions
      (All-weaker IsMade
      (λ (entry : List ℕ × OpenSession).
      (length (kept_of server.pool entry.1.session).journal ≡ (kept_of server.pool entry.1.session).own.entries) × ((kept_of server.pool entry.1.session).own.entries ≤ server.setup.limit))
      (λ entry is. (refl, within entry.1.session is.legal)) server.sessions made.made)

  pub IsNumbered-of : IsNumbered (world_of server)
  IsNumbered-of = record {
    rising = AllPairs-map (λ (a b : Seat). a.id < b.id) (seat_for server.pool) server.sessions made.rising;
    given = All-map (λ (seat : Seat). (1 ≤ seat.id) × (seat.id ≤ server.given)) (seat_for server.pool) server.sessions made.within;
  }

  -- own paint holds types on their own planes alone, and so its text reads as that, where types have names that are words
  pub SavesReadBack-of : HasNames server.setup.tech.types server.setup.tech.type_planes → IfSome server.setup.tech.name IsUnbroken → SavesReadBack (world_of server)
  SavesReadBack-of names unbroken =
      All-map (λ (seat : Seat). ReadsBack seat.kept.own.design.drawn.paint) (seat_for server.pool) server.sessions
      (All-weaker IsMade (λ (entry : List ℕ × OpenSession). ReadsBack (kept_of server.pool entry.1.session).own.design.drawn.paint)
      (λ entry is.
      let cells = own_cells server.setup server.pool made.cells_home.own_types in
      let own = legal_own (terms_of server.setup server.pool) cells (kept_of server.pool entry.1.session) is.legal in
      saved-reads-back server.setup.tech _ names unbroken (holds_paint server.pool entry.1.session.design.planes is.ready.home.layout.strips server.setup.tech own))
      server.sessions made.made)
    where
      ReadsBack : Layout → Type 0
      ReadsBack layout = ReadsAs server.setup.tech (saved_text server.setup.tech layout) layout
