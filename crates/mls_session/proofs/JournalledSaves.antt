-- What a session keeps after the text of its layout was saved.
use Rattle.std.proofs.Common.{◌≡◌, ◌≢◌, inl, inr, ◌+◌, ◌++◌, [], ℕ, List, length, refl, sym, ap, ◌∙◌, subst, arith, append-nil}
use Rattle.mls_session.proofs.Common.{Design, Designed, Executed, Journal, JournalFull, Kept, Pool, Refusal, Reply, Saves, SavesText, Session, Setup, Terms, after_command, design_step, designed_of, is_memory, kept_of, layout_in, save_step, saved_text, terms_of}
use Rattle.mls_session.specs.declared.command.Command.TheVariants.{Save}
use Rattle.mls_session.specs.declared.reply.Reply.TheVariants.{Saved, Refused}
use Rattle.mls_session.proofs.JournalledCommands.{Does-executed, Does-full, counted, entries-room, kept_with, seen}

-- the text that was appended, and what is kept
abbrev pub SavesMore : Terms → Kept → Reply → List ℕ → List ℕ → Kept → Type 0
SavesMore terms old reply out longer new = (text : List ℕ) × Saves terms old reply text new × (longer ≡ out ++ text)

-- a full journal refuses, and nothing is appended
pub Saves-full : (terms : Terms) (kept : Kept) (out : List ℕ) → kept.own.entries ≡ terms.journal → SavesMore terms kept (Refused JournalFull) out out kept
Saves-full terms kept out full = ([], inl (Does-full terms kept Save full, refl), sym (append-nil out))

module _ (terms : Terms) (own : Designed) (journal : Journal) (steps : ℕ) (out longer : List ℕ) (room : length journal.entries ≢ terms.journal) (none : steps ≡ 0) where
  saved :
      (lines : ℕ) → SavesText terms.config.tech own.drawn.paint (Saved lines) out longer
      → SavesMore terms (kept_with own journal) (Saved lines) out longer (kept_with own (after_command journal Save (record { reply = Saved lines; steps = steps })))
  unfolding design_step
  saved lines (count, appended) =
      let taken : save_step terms.config own ≡ (own, Saved lines) = ap (λ (n : ℕ). (own, Saved n)) (sym count) in (
        saved_text terms.config.tech own.drawn.paint,
        inl (Does-executed terms own own journal Save (record { reply = Saved lines; steps = steps }) room taken, refl),
        appended,
      )

  refused :
      (refusal : Refusal) → SavesText terms.config.tech own.drawn.paint (Refused refusal) out longer
      → SavesMore terms (kept_with own journal) (Refused refusal) out longer (kept_with own (after_command journal Save (record { reply = Refused refusal; steps = steps })))
  refused refusal (memory, same) =
      let with_checks : ℕ → Kept = λ n. kept_with own (record journal { checks = n }) in
      let no_more : journal.checks + steps ≡ journal.checks = omega (arith, none) in
      let executed : Executed = record { reply = Refused refusal; steps = steps } in
      let kept = counted terms own own journal Save executed room (ap (λ (r : Refusal). is_memory r) memory) ∙ ap with_checks no_more in
      ([], inr (room, ap Refused memory, refl, kept), same ∙ sym (append-nil out))

  saves :
      (reply : Reply) → SavesText terms.config.tech own.drawn.paint reply out longer
      → SavesMore terms (kept_with own journal) reply out longer (kept_with own (after_command journal Save (record { reply = reply; steps = steps })))
  saves (Saved lines) text = saved lines text
  saves (Refused refusal) text = refused refusal text
  saves reply text = absurd text

-- where the journal has room
pub Saves-saved :
    (setup : Setup) (pool : Pool) (session : Session) (design : Design) (journal kept : Journal) (executed : Executed) (out longer : List ℕ)
    → seen design journal ≡ session → session.limit ≡ setup.limit → length journal.entries ≢ journal.limit
    → SavesText setup.tech (layout_in pool design.planes) executed.reply out longer → executed.steps ≡ 0 → kept ≡ after_command journal Save executed
    → SavesMore (terms_of setup pool) (kept_of pool session) executed.reply out longer (kept_of pool (seen design kept))
Saves-saved setup pool session design journal kept executed out longer view limit room text none is =
    let terms = terms_of setup pool in
    let own = designed_of pool design in
    subst (λ (s : Session). SavesMore terms (kept_of pool s) executed.reply out longer (kept_of pool (seen design kept))) view
    (subst (λ (j : Journal). SavesMore terms (kept_with own journal) executed.reply out longer (kept_with own j)) (sym is)
    (saves terms own journal executed.steps out longer (entries-room session design journal setup.limit view limit room) none executed.reply text))
