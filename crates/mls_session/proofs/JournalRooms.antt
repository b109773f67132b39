-- No run of commands and check steps makes a journal longer than its limit.
use Rattle.std.proofs.Common.{◌≡◌, inl, inr, ℕ, ◌+◌, ◌≤◌, Option, Some, None, List, [], ◌∷◌, refl, ap, subst, arith, option_and_then}
use Rattle.std.proofs.lemmas.Bool.{cases_eq}
use Rattle.std.proofs.lemmas.Option.{same_Some}
use Rattle.mls_session.proofs.Common.{Command, Entry, IsLegal, Kept, OwnState, Reply, Run, Terms, beginning, checks, own_step, run_from, said_next}
use Rattle.mls_session.proofs.JournalRuns.{Leads-from, checks-entries}
use Rattle.mls_session.proofs.OwnReplies.{own_step-full, own_step-room}

module _ (terms : Terms) where
  -- an own state with no more entries than a journal may have
  abbrev IsWithin : OwnState → Type 0
  IsWithin own = own.entries ≤ terms.journal

  own_step-within : (own : OwnState) (command : Command) → IsWithin own → IsWithin (own_step terms own command).0
  own_step-within own command within = elim (cases_eq own.entries terms.journal) [
    | inl full ↦
        let same : (own_step terms own command).0.entries ≡ own.entries = ap (λ (s : OwnState × Reply). s.0.entries) (own_step-full terms own command full) in
        omega (arith, same, within)
    | inr room ↦
        let more : (own_step terms own command).0.entries ≡ own.entries + 1 = ap (λ (s : OwnState × Reply). s.0.entries) (own_step-room terms own command room) in
        omega (arith, more, within, room)
  ]

  next_within :
      (run last : Run) (command : Command) (rest : List Entry) (count : ℕ) (next : Option OwnState) → checks terms count run.own ≡ next → IsWithin run.own
      → ((from : Run) → IsWithin from.own → run_from terms from rest ≡ Some last → IsWithin last.own)
      → option_and_then (λ own. run_from terms (said_next terms run own command) rest) next ≡ Some last → IsWithin last.own
  next_within run last command rest count None at within after is = absurd cc
  next_within run last command rest count (Some own) at within after is =
      let same : own.entries ≡ run.own.entries = checks-entries terms count run.own own at in
      after (said_next terms run own command) (own_step-within own command (omega (arith, same, within))) is

  run_from-within : (run last : Run) (journal : List Entry) → IsWithin run.own → run_from terms run journal ≡ Some last → IsWithin last.own
  run_from-within run last [] within is = subst (λ (r : Run). IsWithin r.own) (same_Some run last is) within
  run_from-within run last (entry ∷ rest) within is =
      next_within run last entry.said.command rest entry.checks_before (checks terms entry.checks_before run.own) refl within
      (λ from within is. run_from-within from last rest within is) is

  -- the own state of a legal journal has no more entries than the journal may have
  pub IsLegal-within : (kept : Kept) → IsLegal terms kept → kept.own.entries ≤ terms.journal
  IsLegal-within kept legal =
      let led = Leads-from terms kept.journal kept.checks kept.own _ legal.leads in
      let first : Run = record { own = beginning terms.config.rules; replies = [] } in
      let within = run_from-within first led.run kept.journal (omega arith) led.ran in
      let same = checks-entries terms kept.checks led.run.own kept.own led.steps in
      omega (arith, same, within)
