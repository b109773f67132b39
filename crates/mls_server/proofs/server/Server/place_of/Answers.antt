use Rattle.std.proofs.Common.{IfOk, OnErr, Result, ℕ, sym, subst, ◌≡◌, None}
use Rattle.mls_server.specs.Servers.{IsPlaceOf, world_of}
use Rattle.mls_server.specs.Worlds.{kept_in}
use Rattle.mls_server.specs.declared.fault.NotOpen.{NotOpen}
use Rattle.mls_server.proofs.AskedSessions.{place_found}
use Rattle.mls_server.proofs.server.Server.place_of.Goals as goal

pub returns : goal.returns
returns c =
    let now = c.args.self.now in
    let (place, missing) =
    subst (λ (result : Result ℕ NotOpen). IfOk result (λ place. IsPlaceOf now c.args.id place) × OnErr result (kept_in (world_of now) c.args.id ≡ None)) (sym c.ok_or.ensures.value)
    (place_found now c.args.id c.index_of.result _ c.index_of.ensures)
    in
    record { place = place; missing = missing }
