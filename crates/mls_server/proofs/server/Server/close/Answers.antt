use Rattle.std.proofs.Common.{ℕ, List, refl, sym, ap, subst, ◌∙◌}
use Rattle.mls_server.specs.contracts.server.Server.{the_view}
use Rattle.mls_server.proofs.AskedSessions.{is_asked-entry}
use Rattle.mls_server.proofs.ClosedSessions.{AreOpen-closed, frame-closed, world_of-closed}
use Rattle.mls_server.specs.Servers.{AreOpen, world_of}
use Rattle.mls_server.specs.declared.server.OpenSession.{OpenSession}
use Rattle.mls_server.proofs.server.Server.close.Goals as goal

pub close-requires : goal.close-requires
close-requires c =
    let is = is_asked-entry c.self.view_is c.self.invariant c.in_ok-place.ensures.place (sym c.shift_remove_index.ensures.entry ∙ c.unwrap-closed.ensures) in
    record { home = is.made.ready.home }

pub invariant_of-self : goal.invariant_of-self
invariant_of-self c =
    let own = c.self.inside in
    let is = is_asked-entry c.self.view_is c.self.invariant c.in_ok-place.ensures.place (sym c.shift_remove_index.ensures.entry ∙ c.unwrap-closed.ensures) in
    subst (AreOpen own.setup c.close.new.pool own.given) (sym c.shift_remove_index.ensures.entries) (AreOpen-closed is c.close.ensures.removed)

pub returns : goal.returns
returns c =
    let is = is_asked-entry c.self.view_is c.self.invariant c.in_ok-place.ensures.place (sym c.shift_remove_index.ensures.entry ∙ c.unwrap-closed.ensures) in
    record {
      closes = (
        λ none. let never = sym is.kept ∙ none in absurd cc,
        ap (λ (entries : List (List ℕ × OpenSession)). world_of (record (the_view c.self.inside) { pool = c.close.new.pool; sessions = entries })) c.shift_remove_index.ensures.entries
            ∙ world_of-closed is c.close.ensures.removed refl,
      );
      frame = frame-closed is c.close.ensures.removed;
    }
