-- What stays of sessions, of the cells and of the world, as only tiles and reserves of other owners change.
use Rattle.std.proofs.Common.{◌≡◌, ◌≢◌, ℕ, List, [], ◌∷◌, length, map, get_or, None, All, Contains, sym, ap, subst, subst₂, ◌∙◌, arith}
use Rattle.std.proofs.lemmas.List.Elements.{All-contains, All-push, Contains-append_left, Contains-get_or, Contains-push}
use Rattle.mls_session.specs.mls_errorplane.ErrorPlanes.{ShowsMarks, marks_picture}
use Rattle.mls_session.specs.mls_errorplane.MarkPlanes.{is_marked, marked_count}
use Rattle.mls_geom.specs.Layouts.{Layout}
use Rattle.mls_geom.specs.World.{world}
use Rattle.mls_geom.specs.Pictures.{Picture}
use Rattle.mls_session.specs.mls_layout.Uses.{cell_layouts}
use Rattle.mls_session.specs.mls_library.Libraries.{Library, cell_layout}
use Rattle.mls_session.specs.mls_library.SavedCells.{ShowsOwnTypes}
use Rattle.mls_session.specs.mls_library.Libraries.{IsHome as AreCellsHome}
use Rattle.mls_session.proofs.mls_library.KeptCells.{IsCellApart, IsCellApart-AddsOwners, IsHome-kept, IsKept, cell_layout-kept}
use Rattle.mls_paint.specs.Owners.{AddsOwners, ChangesAmong, RemovesOwners}
use Rattle.mls_paint.specs.Planes.{HasStrips, layout_in, picture_in}
use Rattle.mls_paint.proofs.OwnerFrames.{HasStrips-kept, has_room-HasStrips, not_added, room_of-ChangesAmong}
use Rattle.mls_session.specs.Designs.{CanDump, HasRightMarks, KnowsRight}
use Rattle.mls_session.specs.Journals.{IsLegal, Kept}
use Rattle.mls_session.specs.OwnSteps.{Terms}
use Rattle.mls_session.specs.Sessions.{IsHome, Session, kept_of, owners_of}
use Rattle.mls_session.specs.Setups.{terms_of}
use Rattle.mls_session.specs.declared.setup.Setup.{Setup}
use Rattle.mls_tilepool.specs.Pools.{Pool, room_of, unreserved}
use Rattle.mls_server.specs.Servers.{AreApart, AreOpen, IsOpenIn, Server, seat_for, setting_of, world_of}
use Rattle.mls_server.specs.declared.server.OpenSession.{OpenSession}
use Rattle.mls_server.specs.Settings.{NamedLayout, named_layout, named_layouts}
use Rattle.mls_server.specs.Worlds.{Seat}
use Rattle.mls_server.proofs.ReplacedSessions.{Entry, map_same}
use Rattle.mls_server.proofs.SessionTerms.{terms-same}

-- ---- what every server keeps
abbrev pub AreOpenIn : Server → Type 0
AreOpenIn server = AreOpen server.setup server.pool server.given server.sessions

-- ---- owners that are kept
-- all owners but these have the tiles and the reserves that they had
pub record KeepsOthers (old new : Pool) (owners : List ℕ) : Type 0 where
  pub kept : (other : ℕ) → ¬ (Contains owners other) → IsKept old new other

pub others-ChangesAmong : {old new : Pool} {owners : List ℕ} → ChangesAmong old new owners → KeepsOthers old new owners
others-ChangesAmong {old} {new} {owners} changed = record {
  kept = λ other apart. record { tiles = changed.others other apart; room = room_of-ChangesAmong old new owners other changed };
}

pub others-AddsOwners : {old new : Pool} {owners : List ℕ} {tiles : ℕ} → AddsOwners old new owners tiles → KeepsOthers old new owners
others-AddsOwners added = record { kept = λ other apart. record { tiles = added.others other apart; room = added.rooms other apart } }

pub others-RemovesOwners : {old new : Pool} {owners : List ℕ} {tiles : ℕ} → RemovesOwners old new owners tiles → KeepsOthers old new owners
others-RemovesOwners removed = record { kept = λ other apart. record { tiles = removed.others other apart; room = removed.rooms other apart } }

-- owners that are added are no cell's, and no session's that is at home
pub cells_apart-AddsOwners :
    {old new : Pool} {owners : List ℕ} {tiles : ℕ} → AddsOwners old new owners tiles → (cells : Library) → AreCellsHome old cells → All (IsCellApart owners) cells
cells_apart-AddsOwners {old} {new} {owners} {tiles} added cells home k d within =
    IsCellApart-AddsOwners old new owners tiles added (get_or cells k d) (home.each k d within)

pub apart-AddsOwners :
    {old new : Pool} {owners : List ℕ} {tiles : ℕ} → AddsOwners old new owners tiles → (session : Session) → IsHome old session → AreApart (owners_of session) owners
apart-AddsOwners {old} {new} {owners} {tiles} added session home owner among =
    not_added old new owners owner tiles added (All-contains (λ o. room_of old o ≢ None) (owners_of session) owner live among)
  where
    live : All (λ o. room_of old o ≢ None) (owners_of session)
    live =
        All-push (λ o. room_of old o ≢ None) session.design.planes session.design.errors.owner
        (λ k d within. has_room-HasStrips old (get_or session.design.planes k d) (home.layout.strips k d within))
        (has_room-HasStrips old session.design.errors.owner home.errors.marks.strips)

module _ {old new : Pool} {owners : List ℕ} (others : KeepsOthers old new owners) where
  -- ---- cells none of whose owners is among these
  module _ (cells : Library) (apart : All (IsCellApart owners) cells) where
    cells_kept : All (λ cell. All (IsKept old new) cell.planes) cells
    cells_kept k d within i o below = others.kept (get_or (get_or cells k d).planes i o) (apart k d within i o below)

    layouts_kept : All (λ cell. cell_layout new cell ≡ cell_layout old cell) cells
    layouts_kept k d within = cell_layout-kept old new (get_or cells k d) (cells_kept k d within)

    pub named_layouts-apart : named_layouts new cells ≡ named_layouts old cells
    named_layouts-apart =
        map_same (named_layout new) (named_layout old) cells
        (λ k d within. ap (λ (layout : Layout). record { name = (get_or cells k d).name; layout = layout }) (layouts_kept k d within))

    pub cell_layouts-apart : cell_layouts new cells ≡ cell_layouts old cells
    cell_layouts-apart = map_same (cell_layout new) (cell_layout old) cells layouts_kept

  pub CanDump-apart : {setup : Setup} {list : List ℕ} → All (IsCellApart owners) setup.library → CanDump setup old list → CanDump setup new list
  CanDump-apart {setup} apart can = record {
    home = IsHome-kept old new setup.library (cells_kept setup.library apart) can.home;
    apart = can.apart;
    planes = can.planes;
    own_types = λ k d within. subst (ShowsOwnTypes setup.tech) (sym (layouts_kept setup.library apart k d within)) (can.own_types k d within);
  }

  -- planes of owners that are kept show what they showed
  layout_in-same : (planes : List ℕ) → All (IsKept old new) planes → layout_in new planes ≡ layout_in old planes
  layout_in-same planes kept = cell_layout-kept old new (record { name = []; planes = planes; bounds = None }) kept

  -- ---- a session none of whose owners is among these
  module _ (session : Session) (apart : AreApart (owners_of session) owners) where
    abbrev planes_of : List ℕ
    planes_of = session.design.planes

    abbrev errors_of : ℕ
    errors_of = session.design.errors.owner

    planes_kept : All (IsKept old new) planes_of
    planes_kept k d within =
        others.kept (get_or planes_of k d) (apart (get_or planes_of k d) (Contains-append_left planes_of (errors_of ∷ []) _ (Contains-get_or planes_of k d within)))

    errors_kept : IsKept old new errors_of
    errors_kept = others.kept errors_of (apart errors_of (Contains-push planes_of errors_of))

    errors_shown : picture_in new errors_of ≡ picture_in old errors_of
    errors_shown =
        ap (λ (layout : Layout). layout 0)
        (layout_in-same (errors_of ∷ []) (All-push (IsKept old new) [] errors_of (λ k d within. absurd (omega (arith, within))) errors_kept))

    -- what it keeps, with this own paint and these marks
    abbrev kept_with : Layout → Picture → Kept
    kept_with layout picture = record {
      own = record {
        design = record {
          drawn = record { box = session.design.box; paint = layout; uses = session.design.uses };
          checking = record { marks = is_marked picture; dirty = session.design.errors.dirty };
        };
        entries = length session.journal;
      };
      journal = session.journal;
      checks = session.checks;
    }

    -- it keeps what it kept
    kept_of-apart : kept_of new session ≡ kept_of old session
    kept_of-apart =
        ap (λ (layout : Layout). kept_with layout (picture_in new errors_of)) (layout_in-same planes_of planes_kept)
        ∙ ap (λ (picture : Picture). kept_with (layout_in old planes_of) picture) errors_shown

    strips-apart : (owner : ℕ) → IsKept old new owner → HasStrips old owner → HasStrips new owner
    strips-apart owner is = HasStrips-kept old new owner is.tiles is.room

    ShowsMarks-apart : ShowsMarks old session.design.errors → ShowsMarks new session.design.errors
    ShowsMarks-apart shows = record {
      strips = strips-apart errors_of errors_kept shows.strips;
      marks = subst (λ (picture : Picture). picture ≡ marks_picture (is_marked picture)) (sym errors_shown) shows.marks;
      counted = shows.counted ∙ ap (marked_count world) (sym errors_shown);
    }

    IsHome-apart : IsHome old session → IsHome new session
    IsHome-apart home = record {
      layout = record {
        strips = λ k d within. strips-apart (get_or planes_of k d) (planes_kept k d within) (home.layout.strips k d within);
        reserves = λ k d within. (planes_kept k d within).room ∙ home.layout.reserves k d within;
        apart = home.layout.apart;
      };
      errors = record {
        marks = ShowsMarks-apart home.errors.marks;
        reserve = errors_kept.room ∙ home.errors.reserve;
        apart = home.errors.apart;
      };
    }

  -- so all that is known of it stays true
  module _ (opened : OpenSession) (apart : AreApart (owners_of opened.session) owners) {setup : Setup} (cells_apart : All (IsCellApart owners) setup.library)
      (made : IsOpenIn setup old opened) where
    terms_of-apart : terms_of setup new ≡ terms_of setup old
    terms_of-apart = terms-same setup (cell_layouts-apart setup.library cells_apart)

    as_before : (P : Terms → Kept → Type 0) → P (terms_of setup old) (kept_of old opened.session) → P (terms_of setup new) (kept_of new opened.session)
    as_before P p = subst₂ P (sym terms_of-apart) (sym (kept_of-apart opened.session apart)) p

    pub IsOpenIn-apart : IsOpenIn setup new opened
    IsOpenIn-apart = record {
      ready = record {
        home = IsHome-apart opened.session apart made.ready.home;
        made_for = made.ready.made_for;
        can_dump = CanDump-apart cells_apart made.ready.can_dump;
      };
      marks_right = as_before (λ terms kept. HasRightMarks terms.config kept.own.design) made.marks_right;
      knows_right = as_before (λ terms kept. KnowsRight terms.config kept.own.design opened.checked) made.knows_right;
      legal = as_before (λ terms kept. IsLegal terms kept) made.legal;
    }

  pub seat_for-apart : (entry : Entry) → AreApart (owners_of entry.1.session) owners → seat_for new entry ≡ seat_for old entry
  seat_for-apart entry apart = ap (λ (kept : Kept). record { id = entry.1.id; name = entry.0; kept = kept }) (kept_of-apart entry.1.session apart)

-- ---- a server's world, by its seats and what is left of the pool
pub world_of-apart :
    (server : Server) {new : Pool} {owners : List ℕ} → KeepsOthers server.pool new owners → All (IsCellApart owners) server.setup.library → (given : ℕ) (entries : List Entry)
    (seats : List Seat) (room : ℕ) → map (seat_for new) entries ≡ seats → unreserved new ≡ room
    → world_of (record server { pool = new; given = given; sessions = entries }) ≡ record { setting = setting_of server; given = given; seats = seats; room = room }
world_of-apart server {new} others apart given entries seats room seated left =
    ap (λ (cells : List NamedLayout). record {
      setting = record (setting_of server) { cells = cells };
      given = given;
      seats = map (seat_for new) entries;
      room = unreserved new;
    }) (named_layouts-apart others server.setup.library apart)
    ∙ ap (λ (on : List Seat). record { setting = setting_of server; given = given; seats = on; room = unreserved new }) seated
    ∙ ap (λ (n : ℕ). record { setting = setting_of server; given = given; seats = seats; room = n }) left
