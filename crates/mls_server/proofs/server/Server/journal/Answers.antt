use Rattle.std.proofs.Common.{Some, option_map, sym, ap, ◌∙◌}
use Rattle.mls_server.proofs.AskedSessions.{is_asked}
use Rattle.mls_server.proofs.server.Server.journal.Goals as goal

pub returns : goal.returns
returns c =
    let is = is_asked c.self.view_is c.self.invariant c.in-Ok.ensures.place c.index.ensures in
    record { value = ap Some c.journal.ensures ∙ sym (ap (option_map (λ kept. kept.journal)) is.kept) }
