use Rattle.std.proofs.Common.{ℕ, ◌<◌, ◌^◌, subst}
use Rattle.mls_session.proofs.PartialFacts.{of_lent}
use Rattle.mls_text.specs.Lines.{IsUnbroken}
use Rattle.mls_server.proofs.RunLaws.{MarksAreExact-from_right}
use Rattle.mls_server.proofs.SoundWorlds.{IsNumbered-of, JournalsAreLegal-of, JournalsHaveRoom-of, MarksAreRight-of, SavesReadBack-of}
use Rattle.mls_server.specs.contracts.server.Server.{the_view}
use Rattle.mls_server.specs.Servers.{Server, world_of}
use Rattle.mls_server.specs.Worlds.{IsNumbered, JournalsAreLegal, JournalsHaveRoom, MarksAreRight, SavesReadBack}
use Rattle.mls_server.proofs.server.Server.stays_sound.Goals as goal

pub returns : goal.returns
returns c =
    let server = the_view c.self.inside in
    let right = subst (λ (now : Server). MarksAreRight (world_of now)) c.self.view_is (MarksAreRight-of server c.self.invariant) in
    record {
      right = right;
      exact = MarksAreExact-from_right (world_of c.args.self.now) right;
      legal = subst (λ (now : Server). JournalsAreLegal (world_of now)) c.self.view_is (JournalsAreLegal-of server c.self.invariant);
      read_back = subst (λ (now : Server). SavesReadBack (world_of now)) c.self.view_is
          (SavesReadBack-of server c.self.invariant c.types.ensures.named (of_lent IsUnbroken c.name.result server.setup.tech.name c.name.ensures.value c.name.ensures.unbroken));
      numbered = subst (λ (now : Server). IsNumbered (world_of now)) c.self.view_is (IsNumbered-of server c.self.invariant);
      room = subst (λ (now : Server). JournalsHaveRoom (world_of now)) c.self.view_is (JournalsHaveRoom-of server c.self.invariant);
      given = subst (λ (n : ℕ). n < 2 ^ 64) c.ids_given.ensures.value c.ids_given.ensures.fits;
    }
