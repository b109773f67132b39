-- A session is opened beside others.
use Rattle.std.proofs.Common.{◌≡◌, ℕ, ◌+◌, ◌-◌, ◌*◌, ◌<◌, ◌≤◌, List, [], ◌∷◌, ◌++◌, length, map, get_or, All, None, refl, sym, ap, subst, ◌∙◌, length-append, arith}
use Rattle.std.proofs.lemmas.List.{map-append}
use Rattle.std.proofs.lemmas.List.Elements.{All-push}
use Rattle.std.proofs.lemmas.List.Quantifiers.{all_pairs_push}
use Rattle.mls_session.proofs.mls_library.KeptCells.{IsCellApart}
use Rattle.mls_paint.specs.Owners.{AddsOwners}
use Rattle.mls_session.specs.Designs.{CanDump, HasRightMarks}
use Rattle.mls_session.specs.Journals.{IsLegal, Kept, kept_at_opening}
use Rattle.mls_session.specs.OwnSteps.{Terms}
use Rattle.mls_session.specs.Quotas.{plane_reserve}
use Rattle.mls_session.specs.Sessions.{IsHome, IsMadeFor, Session, kept_of, owners_of, state_of}
use Rattle.mls_session.specs.Setups.{config_of, terms_of}
use Rattle.mls_tilepool.specs.Pools.{Pool, unreserved}
use Rattle.mls_server.specs.Servers.{AreApart, IsOpenIn, Server, seat_for, setting_of, world_of}
use Rattle.mls_server.specs.declared.server.OpenSession.{OpenSession}
use Rattle.mls_server.specs.Settings.{session_reserve}
use Rattle.mls_server.specs.Worlds.{Seat, with_session}
use Rattle.mls_server.proofs.OtherSessions.{AreOpenIn, CanDump-apart, IsOpenIn-apart, KeepsOthers, apart-AddsOwners, cells_apart-AddsOwners, others-AddsOwners, seat_for-apart, world_of-apart}
use Rattle.mls_server.proofs.ReplacedSessions.{Entry, map_same}

-- an empty journal is legal
IsLegal-opening : (terms : Terms) → IsLegal terms (kept_at_opening terms.config.rules)
IsLegal-opening terms = record {
  journalled = λ k d within. absurd (omega (arith, within));
  leads = refl;
}

-- how many planes a session has
pub length-owners_of : (session : Session) (planes : ℕ) → length session.design.planes ≡ planes → length (owners_of session) ≡ planes + 1
length-owners_of session planes same = length-append session.design.planes (session.design.errors.owner ∷ []) ∙ ap (λ n. n + 1) same

module _ (server : Server) (are : AreOpenIn server) (session : Session) {new : Pool} {tiles : ℕ} (added : AddsOwners server.pool new (owners_of session) tiles) where
  others : KeepsOthers server.pool new (owners_of session)
  others = others-AddsOwners added

  cells_apart : All (IsCellApart (owners_of session)) server.setup.library
  cells_apart = cells_apart-AddsOwners added server.setup.library are.cells_home.home

  cells_stay : CanDump server.setup new []
  cells_stay = CanDump-apart others cells_apart are.cells_home

  -- the open sessions have none of its owners
  apart : All (λ entry. AreApart (owners_of entry.1.session) (owners_of session)) server.sessions
  apart k d within = apart-AddsOwners added (get_or server.sessions k d).1.session (are.made k d within).ready.home

  module _ (home : IsHome new session) (made_for : IsMadeFor server.setup session) (right : HasRightMarks (config_of server.setup new) (state_of new session).design)
      (opening : kept_of new session ≡ kept_at_opening server.setup.rules) where
    -- it with the next id; no check is known
    abbrev first_open : OpenSession
    first_open = record { id = server.given + 1; session = session; checked = None }

    IsOpenIn-opened : IsOpenIn server.setup new first_open
    IsOpenIn-opened = record {
      ready = record {
        home = home;
        made_for = made_for;
        can_dump = record { home = cells_stay.home; apart = cells_apart; planes = cells_stay.planes; own_types = cells_stay.own_types };
      };
      marks_right = right;
      knows_right = tt;
      legal = subst (IsLegal (terms_of server.setup new)) (sym opening) (IsLegal-opening (terms_of server.setup new));
    }

    module _ (name : List ℕ) where
      -- its entry
      abbrev last : Entry
      last = (name, first_open)

      -- the server with it
      abbrev pub opened : Server
      opened = record server { pool = new; given = server.given + 1; sessions = server.sessions ++ last ∷ [] }

      pub AreOpen-opened : length server.sessions < 64 → AreOpenIn opened
      AreOpen-opened few = record {
        cells_home = cells_stay;
        made =
            All-push (λ (entry : Entry). IsOpenIn server.setup new entry.1) server.sessions last
            (λ k d within. IsOpenIn-apart others (get_or server.sessions k d).1 (apart k d within) cells_apart (are.made k d within)) IsOpenIn-opened;
        apart = all_pairs_push (λ (a b : Entry). AreApart (owners_of a.1.session) (owners_of b.1.session)) server.sessions last are.apart apart;
        rising =
            all_pairs_push (λ (a b : Entry). a.1.id < b.1.id) server.sessions last are.rising
            (λ k d within. let most = (are.within k d within).1 in omega (arith, most));
        within =
            All-push (λ (entry : Entry). (1 ≤ entry.1.id) × (entry.1.id ≤ server.given + 1)) server.sessions last
            (λ k d within. let most = (are.within k d within).1 in ((are.within k d within).0, omega (arith, most)))
            (omega arith, omega arith);
        few = let more = length-append server.sessions (last ∷ []) in omega (arith, more, few);
      }

      seats-opened :
          map (seat_for new) (server.sessions ++ last ∷ [])
          ≡ map (seat_for server.pool) server.sessions ++ record { id = server.given + 1; name = name; kept = kept_at_opening server.setup.rules } ∷ []
      seats-opened =
          map-append (seat_for new) server.sessions (last ∷ [])
          ∙ ap (λ (seats : List Seat). seats ++ seat_for new last ∷ [])
          (map_same (seat_for new) (seat_for server.pool) server.sessions (λ k d within. seat_for-apart others (get_or server.sessions k d) (apart k d within)))
          ∙ ap (λ (kept : Kept). map (seat_for server.pool) server.sessions ++ record { id = server.given + 1; name = name; kept = kept } ∷ []) opening

      pub world_of-opened : tiles ≡ length (owners_of session) * plane_reserve server.setup.quota → world_of opened ≡ with_session (world_of server) name
      world_of-opened all = world_of-apart server others cells_apart (server.given + 1) (server.sessions ++ last ∷ []) _ _ seats-opened left
        where
          left : unreserved new ≡ unreserved server.pool - session_reserve (setting_of server)
          left =
              let taken = added.taken in
              let reserve : tiles ≡ session_reserve (setting_of server) = all ∙ ap (λ n. n * plane_reserve server.setup.quota) (length-owners_of session server.setup.tech.plane_count made_for.design.planes) in
              omega (arith, taken, reserve)
