-- How a script ends whose replies were written. This project's own.
use Rattle.std.proofs.Common.{◌≡◌, ◌≢◌, ℕ, Option, List, refl}
use Rattle.mls_seat_lines.specs.mls_session.OwnSteps.{Terms}
use Rattle.mls_seat_lines.specs.mls_wire.NameBooks.{Names}
use Rattle.mls_seat_lines.specs.mls_wire.Serving.{Gains}
use Rattle.mls_seat_lines.specs.mls_wire.Watches.{HasCause, Watched}
use Rattle.mls_seat_lines.specs.mls_wire.declared.serving.ServeFault.{ServeFault}
use Rattle.mls_seat_lines.specs.mls_wire.declared.serving.ServeFault.TheVariants.{Memory, Read, Write}
use Rattle.mls_lines.specs.Scripts.{AreSomeReplies, EndsStream}

-- reading the lines fails, not the output, and what was written are replies
pub reading_ends :
    {R W : Type 0} (terms : Terms) (book : Names) (script : Option (List ℕ)) (fault : ServeFault) (input : Watched R) (contents : W → Option (List ℕ)) (old new : Watched W)
    → fault ≢ Write → (fault ≡ Read → HasCause input) → Gains (contents old.device) (contents new.device) (AreSomeReplies terms book script)
    → EndsStream terms book script fault input contents old new
reading_ends terms book script Read input contents old new other cause gains = (cause refl, gains)
reading_ends terms book script Memory input contents old new other cause gains = gains
reading_ends terms book script Write input contents old new other cause gains = absurd (other refl)
