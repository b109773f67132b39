use Rattle.std.proofs.Common.{refl, ◌∙◌}
use Rattle.mls_server.specs.Servers.{world_of}
use Rattle.mls_wire.proofs.ServingLemmas.{cut_before, cut_within, done_line, sound_then}
use Rattle.mls_wire.proofs.serving.serve_line.Goals as goal

pub returns-in_err-pushed-clause-cut : goal.returns-in_err-pushed-clause-cut
returns-in_err-pushed-clause-cut g c =
    cut_before _ (world_of c.respond-response.new.server) _ _ _ _ _ (c.respond-response.result, c.respond-response.ensures.executes, refl, refl, refl, sound_then _ c.stays_sound.ensures.right c.stays_sound.ensures.exact c.stays_sound.ensures.legal)
    c.from_residual.result _ c.from_residual.ensures

pub returns-in_err-send-clause-cut : goal.returns-in_err-send-clause-cut
returns-in_err-send-clause-cut g c =
    cut_within _ (world_of c.respond-response.new.server) _ _ _ _ _ (c.respond-response.result, c.respond-response.ensures.executes, refl, refl, refl, sound_then _ c.stays_sound.ensures.right c.stays_sound.ensures.exact c.stays_sound.ensures.legal)
    c.from_residual-in_err-send.result _ _ _ c.from_residual-in_err-send.ensures
    (c.deref.ensures.value ∙ rw c.clear.ensures.items at c.in_ok-pushed.ensures.text) c.in_err-send.ensures.err

pub returns-then-capacity-gt-KEPT_BYTES-clause-done : goal.returns-then-capacity-gt-KEPT_BYTES-clause-done
returns-then-capacity-gt-KEPT_BYTES-clause-done g c =
    done_line _ (world_of c.respond-response.new.server) _ _ _ _ _ (c.respond-response.result, c.respond-response.ensures.executes, refl, refl, refl, sound_then _ c.stays_sound.ensures.right c.stays_sound.ensures.exact c.stays_sound.ensures.legal) _ _ _
    (c.deref.ensures.value ∙ rw c.clear.ensures.items at c.in_ok-pushed.ensures.text) c.in_ok-send.ensures.ok

pub returns-else-capacity-gt-KEPT_BYTES-clause-done : goal.returns-else-capacity-gt-KEPT_BYTES-clause-done
returns-else-capacity-gt-KEPT_BYTES-clause-done g c =
    done_line _ (world_of c.respond-response.new.server) _ _ _ _ _ (c.respond-response.result, c.respond-response.ensures.executes, refl, refl, refl, sound_then _ c.stays_sound.ensures.right c.stays_sound.ensures.exact c.stays_sound.ensures.legal) _ _ _
    (c.deref.ensures.value ∙ rw c.clear.ensures.items at c.in_ok-pushed.ensures.text) c.in_ok-send.ensures.ok
