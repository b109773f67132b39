use Rattle.std.proofs.Common.{◌≡◌, ◌+◌, ◌<◌, ℕ, [], ◌∷◌, ◌++◌, List, length, refl, sym, ap, subst, ◌∙◌, arith, None, OnOk, IsOk, Ok, Err, Result}
use Rattle.std.proofs.lemmas.List.{length-map}
use Rattle.indexmap.specs.IndexMap.{insert_entry}
use Rattle.mls_text.specs.Words.{same_word}
use Rattle.mls_server.proofs.AddedSessions.{AreOpen-opened, world_of-opened}
use Rattle.mls_server.proofs.NamedSessions.{insert_entry-unnamed, lookup-unnamed}
use Rattle.mls_server.proofs.OpenFaults.{Opens-fault, few-none, left-none, room-none, unnamed-none}
use Rattle.mls_server.specs.contracts.server.Server.{the_view}
use Rattle.mls_server.specs.Events.{open_fault}
use Rattle.mls_server.specs.Servers.{AreOpen, Server, world_of}
use Rattle.mls_server.specs.declared.server.OpenSession.{OpenSession}
use Rattle.mls_server.specs.Worlds.{with_session}
use Rattle.mls_server.proofs.server.Server.open.Goals as goal

pub returns-in-Some-clause-opens : goal.returns-in-Some-clause-opens
returns-in-Some-clause-opens c = Opens-fault (world_of c.args.self.now) c.args.name c.in-Some.fault (sym c.in-Some.ensures.fault)

-- there is no fault
no_fault : {now server : Server} → server ≡ now → (name : List ℕ) → None ≡ open_fault (world_of now) name → open_fault (world_of server) name ≡ None
no_fault shows name none = ap (λ (on : Server). open_fault (world_of on) name) shows ∙ sym none

pub open-requires : goal.open-requires
open-requires c = record { room = room-none (world_of (the_view c.self.inside)) c.args.name (no_fault c.self.view_is c.args.name c.in_default.ensures.fault) }

pub overflow_add-given : goal.overflow_add-given
overflow_add-given c =
    let left = left-none (world_of (the_view c.self.inside)) c.args.name (no_fault c.self.view_is c.args.name c.in_default.ensures.fault) in
    omega (arith, left)

-- the new session's entry is the last
added : (c : goal.Joined-unwrap) → c.insert.new.self.entries ≡ c.self.inside.sessions.entries ++ (c.args.name, record { id = c.self.inside.given + 1; session = c.in-Ok-open.session; checked = None }) ∷ []
added c =
    let own = c.self.inside in
    let unnamed = unnamed-none (world_of (the_view own)) c.args.name (no_fault c.self.view_is c.args.name c.in_default.ensures.fault) in
    let absent = lookup-unnamed own.workspace.pool c.args.name own.sessions.entries unnamed in
    let opened : OpenSession = record { id = c.of-id.result; session = c.in-Ok-open.session; checked = None } in
    let room = c.in-Ok.ensures.ok in
    on_ok c.insert.result _ (c.insert.ensures.succeeds (omega (arith, room))) c.insert.ensures.entries
    ∙ ap (λ (entries : List (List ℕ × OpenSession)). insert_entry same_word entries c.args.name opened) c.reserve.ensures.entries
    ∙ insert_entry-unnamed own.workspace.pool c.args.name opened own.sessions.entries absent
    ∙ ap (λ (id : ℕ). own.sessions.entries ++ (c.args.name, record { id = id; session = c.in-Ok-open.session; checked = None }) ∷ []) c.of-id.ensures
  where
    on_ok : {T E : Type 0} (r : Result T E) (P : Type 0) → IsOk r → OnOk r P → P
    on_ok (Ok x) P is p = p
    on_ok (Err e) P is p = absurd cc

pub invariant_of-self-2 : goal.invariant_of-self-2
invariant_of-self-2 c =
    let own = c.self.inside in
    let session = c.in-Ok-open.session in
    let done = c.in-Ok-open.ensures in
    let few = few-none (world_of (the_view own)) c.args.name (no_fault c.self.view_is c.args.name c.in_default.ensures.fault) in
    let fewer : length own.sessions.entries < 64 = subst (λ (count : ℕ). count < 64) (length-map own.sessions.entries _) few in
    subst (AreOpen own.setup c.open.new.workspace.pool (own.given + 1)) (sym (added c))
    (AreOpen-opened (the_view own) c.self.invariant session done.added done.home done.made_for done.marks_right done.opening c.args.name fewer)

pub returns-clause-opens : goal.returns-clause-opens
returns-clause-opens c =
    let server = the_view c.self.inside in
    let session = c.in-Ok-open.session in
    let done = c.in-Ok-open.ensures in (
      sym c.in_default.ensures.fault,
      c.of-id.ensures ∙ ap (λ (now : Server). now.given + 1) c.self.view_is,
      ap (λ (entries : List (List ℕ × OpenSession)). world_of (record server { pool = c.open.new.workspace.pool; given = server.given + 1; sessions = entries })) (added c)
          ∙ world_of-opened server c.self.invariant session done.added done.home done.made_for done.marks_right done.opening c.args.name refl
          ∙ ap (λ (now : Server). with_session (world_of now) c.args.name) c.self.view_is,
    )
