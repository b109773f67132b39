-- One of the open sessions is closed: the others stay.
use Rattle.std.proofs.Common.{◌≡◌, ℕ, ◌+◌, ◌*◌, ◌<◌, ◌≤◌, List, length, Contains, ap, subst, ◌∙◌, arith}
use Rattle.std.specs.List.{remove}
use Rattle.std.proofs.lemmas.List.Edits.{length-remove}
use Rattle.std.proofs.lemmas.List.Quantifiers.{all_pairs_remove}
use Rattle.mls_paint.specs.Owners.{RemovesOwners}
use Rattle.mls_session.specs.Quotas.{plane_reserve}
use Rattle.mls_session.specs.Sessions.{owners_of}
use Rattle.mls_tilepool.specs.Pools.{Pool, tiles_of, unreserved}
use Rattle.mls_server.specs.Servers.{AreApart, IsOpenIn, Server, owners_under, setting_of, world_of}
use Rattle.mls_server.specs.declared.server.OpenSession.{OpenSession}
use Rattle.mls_server.specs.Settings.{session_reserve}
use Rattle.mls_server.specs.Worlds.{without_session}
use Rattle.mls_server.proofs.AddedSessions.{length-owners_of}
use Rattle.mls_server.proofs.AskedSessions.{IsAsked, cells-beside, made-beside, stays-beside}
use Rattle.mls_server.proofs.OtherSessions.{AreOpenIn, KeepsOthers, others-RemovesOwners, world_of-apart}
use Rattle.mls_server.proofs.ReplacedSessions.{All-removed, Entry, at-within, seats-removed}

module _ {now server : Server} {id place : ℕ} {closed : OpenSession} (asked : IsAsked now server id place closed) {new : Pool} {tiles : ℕ}
    (removed : RemovesOwners server.pool new (owners_of closed.session) tiles) where
  abbrev pub left : Server
  left = record server { pool = new; sessions = remove server.sessions place }

  others : KeepsOthers server.pool new (owners_of closed.session)
  others = others-RemovesOwners removed

  within-closed : place < length server.sessions
  within-closed = at-within server.sessions place closed asked.found

  pub AreOpen-closed : AreOpenIn left
  AreOpen-closed = record {
    cells_home = cells-beside asked others;
    made = All-removed (λ entry. IsOpenIn server.setup new entry.1) server.sessions place within-closed (made-beside asked others);
    apart = all_pairs_remove (λ (a b : Entry). AreApart (owners_of a.1.session) (owners_of b.1.session)) server.sessions place within-closed asked.are.apart;
    rising = all_pairs_remove (λ (a b : Entry). a.1.id < b.1.id) server.sessions place within-closed asked.are.rising;
    within =
        All-removed (λ entry. (1 ≤ entry.1.id) × (entry.1.id ≤ server.given)) server.sessions place within-closed (λ k d within differ. asked.are.within k d within);
    few = let shorter = length-remove server.sessions place within-closed in let few = asked.are.few in omega (arith, shorter, few);
  }

  pub world_of-closed : tiles ≡ length (owners_of closed.session) * plane_reserve closed.session.design.quota → world_of left ≡ without_session (world_of now) id
  world_of-closed all =
      world_of-apart server others asked.made.ready.can_dump.apart server.given (remove server.sessions place) _ _
      (seats-removed id server.pool new server.sessions place closed asked.found asked.has_id (stays-beside asked others))
      (removed.given_back ∙ ap (λ n. unreserved server.pool + n) reserve)
      ∙ ap (λ (on : Server). without_session (world_of on) id) asked.shows
    where
      reserve : tiles ≡ session_reserve (setting_of server)
      reserve =
          all ∙ ap (λ n. n * plane_reserve closed.session.design.quota) (length-owners_of closed.session server.setup.tech.plane_count asked.made.ready.made_for.design.planes)
          ∙ ap (λ quota. (server.setup.tech.plane_count + 1) * plane_reserve quota) asked.made.ready.made_for.design.quota

  pub frame-closed : (other : ℕ) → ¬ (Contains (owners_under now id) other) → tiles_of new other ≡ tiles_of now.pool other
  frame-closed other apart =
      removed.others other (subst (λ (owners : List ℕ). ¬ (Contains owners other)) asked.owners apart) ∙ ap (λ (on : Server). tiles_of on.pool other) asked.shows
