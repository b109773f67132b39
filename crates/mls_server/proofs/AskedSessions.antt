-- One open session is asked for something: what it keeps, and what the server and its world are afterwards.
use Rattle.std.proofs.Common.{◌≡◌, ℕ, ◌<◌, ◌≤◌, ◌==◌, Bool, true, false, cond, List, [], ◌∷◌, length, map, get_or, position, slice_get, Option, Some, None, Result, Ok, Err, IfOk, OnErr, inl, inr, refl, sym, ap, subst, subst₂, ◌∙◌, arith}
use Rattle.std.specs.Option.{ok_or, option_map, option_map_or}
use Rattle.std.specs.Result.{IsErr}
use Rattle.std.proofs.lemmas.Bool.{cases_lt}
use Rattle.std.proofs.lemmas.Option.{slice_get-map}
use Rattle.indexmap.specs.Layout.{length-set_value_at, set_value_at}
use Rattle.mls_paint.specs.Owners.{ChangesAmong}
use Rattle.mls_paint.proofs.OwnerFrames.{unreserved-ChangesAmong}
use Rattle.mls_session.specs.mls_errorplane.declared.checked.Checked.{Checked}
use Rattle.mls_session.specs.mls_library.SavedCells.{saved_text}
use Rattle.mls_session.specs.Designs.{CanDump, KnowsRight}
use Rattle.mls_session.specs.Journals.{Kept}
use Rattle.mls_session.specs.OwnSteps.{Terms}
use Rattle.mls_session.specs.declared.journal.Entry.{Entry as JournalEntry}
use Rattle.mls_session.specs.declared.look.Look.{Look}
use Rattle.mls_session.specs.declared.look.Looked.{Looked}
use Rattle.mls_session.specs.declared.reply.Reply.{Reply}
use Rattle.mls_session.specs.Sessions.{IsReady, KeepsPlanes, Session, StaysSound, kept_of, owners_of, state_of}
use Rattle.mls_session.specs.Setups.{terms_of}
use Rattle.mls_tilepool.specs.Pools.{Pool}
use Rattle.mls_server.specs.Events.{LooksAt, OnSeat, SavesText, own_text}
use Rattle.mls_server.specs.Servers.{AreApart, IsOpenIn, IsPlaceOf, Server, owners_under, place_in, seat_for, setting_of, world_of}
use Rattle.mls_server.specs.declared.fault.NotOpen.{NotOpen}
use Rattle.mls_server.specs.declared.server.OpenSession.{OpenSession}
use Rattle.mls_server.specs.Settings.{terms_for}
use Rattle.mls_server.specs.Worlds.{Seat, World, kept_in, seat_in, with_kept}
use Rattle.mls_server.proofs.KeptSessions.{IsOpenIn-kept, KeepsPlanes-same, others-kept, owners_of-kept}
use Rattle.mls_server.proofs.OtherSessions.{AreOpenIn, CanDump-apart, IsOpenIn-apart, KeepsOthers, seat_for-apart, world_of-apart}
use Rattle.mls_server.proofs.ReplacedSessions.{All-at, All-replaced, AllBut, AllPairs-replaced, Entry, HasOtherId, IsAt, IsAt-values, StaysApart, at-get_or, at-within, found-id, others-differ, owners_in-at, place-found, place-missing, same-replaced, seat_in-at, seat_in-none, seats-replaced}
use Rattle.mls_server.proofs.SessionTerms.{terms_of-setting}

-- where the scan of the sessions finds one of the id, that is the place, and else none is open
pub place_found :
    (on : Server) (id : ℕ) (found : Option ℕ) (fault : NotOpen) → found ≡ position (λ asked. asked.id == id) (map (λ entry. entry.1) on.sessions)
    → IfOk (ok_or found fault) (λ place. IsPlaceOf on id place) × OnErr (ok_or found fault) (kept_in (world_of on) id ≡ None)
place_found on id (Some place) fault scan = let (first, within) = place-found on.sessions id place (sym scan) in (record { first = first; within = within }, tt)
place_found on id None fault scan = (tt, ap (option_map (λ seat. seat.kept)) (seat_in-none id on.pool on.sessions (place-missing on.sessions id (sym scan))))

-- where none is open, nothing is saved, and nothing is shown
pub saves-none : (on : World) (id : ℕ) (result : Result Reply NotOpen) → IsErr result → kept_in on id ≡ None → SavesText on id result [] on
saves-none on id (Ok reply) is none = absurd cc
saves-none on id (Err fault) is none = (none, refl, refl)

pub looks-none : (on : World) (id : ℕ) (look : Look) (result : Result Looked NotOpen) → IsErr result → kept_in on id ≡ None → LooksAt on id look result []
looks-none on id look (Ok looked) is none = absurd cc
looks-none on id look (Err fault) is none = (none, refl)

-- what no call of a session changes
abbrev pub own_terms : Server → Terms
own_terms server = terms_of server.setup server.pool

-- the server's session at this place is the one of this id, and no other has its id or one of its owners
pub record IsAsked (now server : Server) (id place : ℕ) (before : OpenSession) : Type 0 where
  pub shows : server ≡ now
  pub are : AreOpenIn server
  pub found : IsAt server.sessions place before
  pub has_id : before.id ≡ id
  pub made : IsOpenIn server.setup server.pool before
  pub terms : own_terms server ≡ terms_for (setting_of now)
  pub kept : kept_in (world_of now) id ≡ Some (kept_of server.pool before.session)
  pub owners : owners_under now id ≡ owners_of before.session
  pub others : AllBut (HasOtherId id) server.sessions place
  pub apart : AllBut (λ entry. AreApart (owners_of entry.1.session) (owners_of before.session)) server.sessions place

-- it is so of a place that is that of the id
pub is_asked :
    {now server : Server} → server ≡ now → AreOpenIn server → {id place : ℕ} → IsPlaceOf now id place → {before : OpenSession}
    → slice_get (map (λ entry. entry.1) server.sessions) place ≡ Some before → IsAsked now server id place before
is_asked {now} {server} shows are {id} {place} is_place {before} scanned = record {
  shows = shows;
  are = are;
  found = at;
  has_id = is;
  made = made;
  terms = terms_of-setting server ∙ ap (λ (on : Server). terms_for (setting_of on)) shows;
  kept = ap (λ (on : Server). kept_in (world_of on) id) (sym shows) ∙ seat_in-at id server.pool server.sessions place before at is differ;
  owners = ap (λ (on : Server). owners_under on id) (sym shows) ∙ owners_in-at id server.pool server.sessions place before at is differ;
  others = differ;
  apart = λ k d within other.
      let here = ap (λ (member : OpenSession). owners_of member.session) (at-get_or server.sessions place before d at) in
      subst (AreApart (owners_of (get_or server.sessions k d).1.session)) here
      (elim (cases_lt k place) [
        | inl less ↦ are.apart k place d less (at-within server.sessions place before at)
        | inr more ↦ (λ owner one two. are.apart place k d (omega (arith, more, other)) within owner two one)
      ]);
}
  where
    at : IsAt server.sessions place before
    at = IsAt-values server.sessions place before scanned

    is : before.id ≡ id
    is = found-id server.sessions id before (subst (λ (n : ℕ). IsAt server.sessions n before) (is_place.first ∙ ap (λ (on : Server). place_in on.sessions id) (sym shows)) at)

    differ : AllBut (HasOtherId id) server.sessions place
    differ = others-differ server.sessions place id before are.rising at is

    made : IsOpenIn server.setup server.pool before
    made = All-at (λ (member : OpenSession). IsOpenIn server.setup server.pool member) server.sessions place before are.made at

-- the same by its entry
pub is_asked-entry :
    {now server : Server} → server ≡ now → AreOpenIn server → {id place : ℕ} → IsPlaceOf now id place → {entry : Entry} → slice_get server.sessions place ≡ Some entry
    → IsAsked now server id place entry.1
is_asked-entry {now} {server} shows are {id} {place} is_place scanned =
    is_asked shows are is_place (slice_get-map (λ (entry : Entry). entry.1) server.sessions place ∙ ap (option_map (λ (entry : Entry). entry.1)) scanned)

module _ {now server : Server} {id place : ℕ} {before : OpenSession} (asked : IsAsked now server id place before) where
  -- ---- what stays beside it, as only its own owners change
  module _ {new : Pool} (others : KeepsOthers server.pool new (owners_of before.session)) where
    pub cells-beside : CanDump server.setup new []
    cells-beside = CanDump-apart others asked.made.ready.can_dump.apart asked.are.cells_home

    pub made-beside : AllBut (λ entry. IsOpenIn server.setup new entry.1) server.sessions place
    made-beside k d within differ =
        IsOpenIn-apart others (get_or server.sessions k d).1 (asked.apart k d within differ) asked.made.ready.can_dump.apart (asked.are.made k d within)

    pub stays-beside : AllBut (StaysApart id server.pool new) server.sessions place
    stays-beside k d within differ = (asked.others k d within differ, seat_for-apart others (get_or server.sessions k d) (asked.apart k d within differ))

  -- ---- what each call of it requires
  pub callable : record { ready : IsReady server.setup server.pool before.session }
  callable = record { ready = asked.made.ready }

  pub own_text-asked : own_text (world_of now) id ≡ saved_text server.setup.tech (kept_of server.pool before.session).own.design.drawn.paint
  own_text-asked =
      ap (λ found. option_map_or (λ keeps. saved_text (setting_of now).tech keeps.own.design.drawn.paint) found []) asked.kept
      ∙ ap (λ (terms : Terms). saved_text terms.config.tech (kept_of server.pool before.session).own.design.drawn.paint) (sym asked.terms)

  -- the server with another pool, and with this of the session
  abbrev pub with_asked : Pool → Session → Server
  with_asked new after = record server { pool = new; sessions = set_value_at server.sessions place (record before { session = after }) }

  -- ---- it is read alone, and the pool stays
  module _ {new : Pool} (pool : new ≡ server.pool) where
    shows-same : with_asked new before.session ≡ server
    shows-same =
        ap (λ (at : Pool). with_asked at before.session) pool
        ∙ ap (λ (sessions : List Entry). record server { sessions = sessions }) (same-replaced server.sessions place before before asked.found refl)

    pub AreOpen-same : AreOpenIn (with_asked new before.session)
    AreOpen-same = subst AreOpenIn (sym shows-same) asked.are

    pub world_of-same : world_of (with_asked new before.session) ≡ world_of now
    world_of-same = ap world_of (shows-same ∙ asked.shows)

    pub keeps-same : {after : Session} → after.design ≡ before.session.design → after.limit ≡ before.session.limit → KeepsPlanes server.pool new before.session after
    keeps-same {after} design limit =
        subst (λ (at : Pool). KeepsPlanes server.pool at before.session after) (sym pool) (KeepsPlanes-same server.pool before.session after asked.made.ready.home design limit)

  -- ---- it changes tiles of its own owners alone
  module _ {new : Pool} {after : Session} (keeps : KeepsPlanes server.pool new before.session after) where
    pub frame-changed : ChangesAmong now.pool new (owners_under now id)
    frame-changed =
        subst₂ (λ (pool : Pool) (owners : List ℕ). ChangesAmong pool new owners) (ap (λ (on : Server). on.pool) asked.shows) (sym asked.owners) keeps.planes.only

    -- whatever earlier checks are known then
    module _ (checked : Option Checked) where
      abbrev member : OpenSession
      member = record before { session = after; checked = checked }

      abbrev pub changed : Server
      changed = record server { pool = new; sessions = set_value_at server.sessions place member }

      pub AreOpen-changed :
          StaysSound server.setup server.pool new before.session after → KnowsRight (own_terms server).config (state_of new after).design checked → AreOpenIn changed
      AreOpen-changed sound knows = record {
        cells_home = cells-beside (others-kept keeps);
        made =
            All-replaced (λ entry. IsOpenIn server.setup new entry.1) member server.sessions place (made-beside (others-kept keeps))
            (λ name. IsOpenIn-kept asked.made member keeps sound knows);
        apart =
            AllPairs-replaced (λ entry. owners_of entry.1.session) before member (λ name. owners_of-kept keeps) AreApart server.sessions place asked.found asked.are.apart;
        rising = AllPairs-replaced (λ entry. entry.1.id) before member (λ name. refl) (λ a b. a < b) server.sessions place asked.found asked.are.rising;
        within =
            All-replaced (λ entry. (1 ≤ entry.1.id) × (entry.1.id ≤ server.given)) member server.sessions place (λ k d within differ. asked.are.within k d within)
            (λ name. All-at (λ (each : OpenSession). (1 ≤ each.id) × (each.id ≤ server.given)) server.sessions place before asked.are.within asked.found);
        few = subst (λ (count : ℕ). count ≤ 64) (sym (length-set_value_at server.sessions place member)) asked.are.few;
      }

      world_of-changed : world_of changed ≡ with_kept (world_of server) id (kept_of new after)
      world_of-changed =
          world_of-apart server (others-kept keeps) asked.made.ready.can_dump.apart server.given (set_value_at server.sessions place member) _ _
          (seats-replaced id server.pool new server.sessions place before asked.found asked.has_id (stays-beside (others-kept keeps)) member refl)
          (unreserved-ChangesAmong server.pool new (owners_of before.session) keeps.planes.only)

      -- whatever the session did
      pub OnSeat-changed :
          {A : Type 0} (Does : Terms → Kept → A → Kept → Type 0) (answer : A) → Does (own_terms server) (kept_of server.pool before.session) answer (kept_of new after)
          → OnSeat (world_of now) id (Does (terms_for (setting_of now))) (Ok answer) (world_of changed)
      OnSeat-changed Does answer does = (
        kept_of server.pool before.session,
        kept_of new after,
        asked.kept,
        subst (λ (terms : Terms). Does terms (kept_of server.pool before.session) answer (kept_of new after)) asked.terms does,
        world_of-changed ∙ ap (λ (on : Server). with_kept (world_of on) id (kept_of new after)) asked.shows,
      )

-- ---- how many entries a journal has
module _ (pool : Pool) (id : ℕ) where
  counted :
      (here : Bool) (seat : Seat) (seats : List Seat) → seat.kept.own.entries ≡ length seat.kept.journal
      → option_map (λ kept. kept.own.entries) (option_map (λ seat. seat.kept) (seat_in seats id)) ≡ option_map (λ kept. length kept.journal) (option_map (λ seat. seat.kept) (seat_in seats id))
      → option_map (λ kept. kept.own.entries) (option_map (λ seat. seat.kept) (cond here (Some seat) (seat_in seats id)))
      ≡ option_map (λ kept. length kept.journal) (option_map (λ seat. seat.kept) (cond here (Some seat) (seat_in seats id)))
  counted true seat seats count rest = ap Some count
  counted false seat seats count rest = rest

  entries-counted :
      (entries : List Entry)
      → option_map (λ kept. kept.own.entries) (option_map (λ seat. seat.kept) (seat_in (map (seat_for pool) entries) id))
      ≡ option_map (λ kept. length kept.journal) (option_map (λ seat. seat.kept) (seat_in (map (seat_for pool) entries) id))
  entries-counted [] = refl
  entries-counted (entry ∷ entries) = counted (entry.1.id == id) (seat_for pool entry) (map (seat_for pool) entries) refl (entries-counted entries)

journal_counted : (found : Option Kept) → option_map length (option_map (λ kept. kept.journal) found) ≡ option_map (λ kept. length kept.journal) found
journal_counted None = refl
journal_counted (Some kept) = refl

pub journal_len-of :
    (server : Server) (id : ℕ) (journal : List JournalEntry) → Some journal ≡ option_map (λ kept. kept.journal) (kept_in (world_of server) id)
    → Some (length journal) ≡ option_map (λ kept. kept.own.entries) (kept_in (world_of server) id)
journal_len-of server id journal is =
    ap (option_map length) is ∙ journal_counted (kept_in (world_of server) id) ∙ sym (entries-counted server.pool id server.sessions)
