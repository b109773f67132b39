use Rattle.std.proofs.Common.{[], ℕ, List, sym, subst₂, arith}
use Rattle.mls_session.specs.mls_library.Libraries.{Library}
use Rattle.mls_session.specs.declared.setup.Setup.{Setup}
use Rattle.mls_server.specs.Servers.{AreOpen}
use Rattle.mls_server.specs.declared.server.OpenSession.{OpenSession}
use Rattle.mls_server.proofs.IdleServers.{AreOpen-none, home-none}
use Rattle.mls_server.proofs.server.Server.new.Goals as goal

pub invariant_of-result : goal.invariant_of-result
invariant_of-result c =
    let pool = c.in_ok-workspace.workspace.pool in
    let setup : Setup = record { tech = c.args.tech; rules = c.args.rules; library = []; quota = c.args.limits.quota; cell_tiles = c.args.limits.cell_tiles; limit = c.args.limits.journal } in
    subst₂ (λ (cells : Library) (sessions : List (List ℕ × OpenSession)). AreOpen (record setup { library = cells }) pool 0 sessions) (sym c.new-library.ensures) (sym c.new-2.ensures.empty)
    (AreOpen-none setup pool 0 (home-none pool) (λ k d within. absurd (omega (arith, within))) (λ k d within. absurd (omega (arith, within))))
