-- What a session keeps after a check step of its design.
use Rattle.std.proofs.Common.{◌≡◌, ℕ, ◌+◌, true, Some, None, length, refl, sym, ap, ◌∙◌, subst, arith, option_map}
use Rattle.mls_session.proofs.Common.{Checking, ChecksOnce, ChecksTimes, Design, Designed, Drawn, Finding, Finishes, HasFinished, HasRightMarks, HasStepped, IsChecked, Journal, Kept, Layout, Outcome, Pool, Setup, Stepped, Steps, StepsOnce, Terms, after_steps, check_step, checked, checked_times, checking_of, config_of, designed_of, done_steps, drawn_of, exceeds, finished_steps, layout_of, own_check, terms_of}
use Rattle.mls_errorplane.specs.declared.error_plane.Outcome.TheVariants as outcome
use Rattle.mls_errorplane.specs.declared.error_plane.Stepped.TheVariants as stepped
use Rattle.mls_session.specs.Sessions.{IsMadeFor, Session, kept_of, state_of}
use Rattle.mls_session.proofs.CheckedDesigns.{checked-done, checked-full, checked_times-Steps, checks-Some}
use Rattle.mls_session.proofs.CountedSteps.{HasStepped-Finished}
use Rattle.mls_session.proofs.JournalledCommands.{kept_with, seen}

module _ (terms : Terms) (old new : Designed) (journal : Journal) (drawn : new.drawn ≡ old.drawn) where
  -- what is drawn is as before, and so the design is where its checking is
  design_of : (checking : Checking) → new.checking ≡ checking → new ≡ record old { checking = checking }
  design_of checking is =
      let whole : Drawn → Checking → Designed = λ d known. record { drawn = d; checking = known } in
      ap (λ d. whole d new.checking) drawn ∙ ap (whole old.drawn) is

  kept : new.checking ≡ old.checking → kept_with new (after_steps journal 0) ≡ kept_with old journal
  kept same =
      let with_checks : ℕ → Kept = λ n. kept_with new (record journal { checks = n }) in
      let none : journal.checks + 0 ≡ journal.checks = omega arith in
      ap with_checks none ∙ ap (λ own. kept_with own journal) (design_of old.checking same)

  own_check_done : checked terms.config old ≡ Some new → own_check terms (kept_with old journal).own ≡ Some (record { design = new; entries = length journal.entries })
  unfolding own_check
  own_check_done done = ap (option_map (λ design. record { design = design; entries = length journal.entries })) done

  ChecksOnce-Done :
      HasStepped terms.config.rules (layout_of terms.config old.drawn) terms.config.quota old.checking stepped.Done new.checking
      → ChecksOnce terms (kept_with old journal) (kept_with new (after_steps journal 1))
  ChecksOnce-Done (some, fits, is) =
      let done : checked terms.config old ≡ Some new = checked-done terms.config old some fits ∙ ap Some (sym (design_of (check_step terms.config.rules (layout_of terms.config old.drawn) old.checking) is)) in
      (record { design = new; entries = length journal.entries }, own_check_done done, refl)

  own_check_full : exceeds terms.config.quota (check_step terms.config.rules (layout_of terms.config old.drawn) old.checking).marks ≡ true → own_check terms (kept_with old journal).own ≡ None
  unfolding own_check
  own_check_full full = ap (option_map (λ design. record { design = design; entries = length journal.entries })) (checked-full terms.config old full)

  steps_once :
      (ended : Stepped) → HasStepped terms.config.rules (layout_of terms.config old.drawn) terms.config.quota old.checking ended new.checking
      → StepsOnce terms (kept_with old journal) ended (kept_with new (after_steps journal (done_steps ended)))
  steps_once stepped.Idle (none, same) = (none, kept same)
  steps_once stepped.Done step = ChecksOnce-Done step
  steps_once stepped.Full (some, full, same) = (some, own_check_full full, kept same)
  steps_once stepped.Memory (some, same) = (some, kept same)

  finishes :
      (finding : Finding) (ended : Outcome)
      → HasFinished terms.config.rules terms.config.tech.plane_count (layout_of terms.config old.drawn) terms.config.quota old.checking finding ended new.checking
      → Finishes terms (kept_with old journal) finding ended (kept_with new (after_steps journal (finished_steps ended)))
  finishes finding outcome.Finished done = (
    done.0,
    ChecksOnce-Done
        (HasStepped-Finished terms.config.rules terms.config.tech.plane_count (layout_of terms.config old.drawn) terms.config.quota old.checking new.checking finding done),
  )
  finishes finding outcome.Stale (stale, same) = (stale, kept same)
  finishes finding outcome.Full (fresh, full, same) = (fresh, own_check_full full, kept same)

  checks_times :
      (count : ℕ) → Steps terms.config.rules (layout_of terms.config old.drawn) terms.config.quota count old.checking new.checking
      → ChecksTimes terms count (kept_with old journal) (kept_with new (after_steps journal count))
  checks_times count steps =
      let done : checked_times count terms.config old ≡ Some new =
      checked_times-Steps terms.config old count new.checking steps ∙ ap Some (sym (design_of new.checking refl)) in
      (record { design = new; entries = length journal.entries }, checks-Some terms count (kept_with old journal).own new done, refl)

-- ---- steps of a session's design
module _ (setup : Setup) (pool new : Pool) (session : Session) (design after : Design) (journal counted : Journal) (view : seen design journal ≡ session) (drawn : drawn_of new after ≡ drawn_of pool design) where
  abbrev layout : Layout
  layout = layout_of (config_of setup pool) (drawn_of pool design)

  -- what is said of the design and the journal is said of the session
  of_session :
      (Says : Kept → Kept → Type 0) (steps : ℕ) → counted ≡ after_steps journal steps
      → Says (kept_with (designed_of pool design) journal) (kept_with (designed_of new after) (after_steps journal steps)) → Says (kept_of pool session) (kept_of new (seen after counted))
  of_session Says steps is said =
      subst (λ (s : Session). Says (kept_of pool s) (kept_of new (seen after counted))) view
      (subst (λ (j : Journal). Says (kept_with (designed_of pool design) journal) (kept_with (designed_of new after) j)) (sym is) said)

  quota : IsMadeFor setup session → design.quota ≡ setup.quota
  quota made_for = subst (λ (s : Session). s.design.quota ≡ setup.quota) (sym view) made_for.design.quota

  -- a check step of the design is one of the session
  pub StepsOnce-stepped :
      IsMadeFor setup session → (ended : Stepped) → counted ≡ after_steps journal (done_steps ended)
      → HasStepped setup.rules (layout_of (config_of setup pool) (drawn_of pool design)) design.quota (checking_of pool design.errors) ended (checking_of new after.errors)
      → StepsOnce (terms_of setup pool) (kept_of pool session) ended (kept_of new (seen after counted))
  StepsOnce-stepped made_for ended is step =
      let here = subst (λ (q : ℕ). HasStepped setup.rules layout q (checking_of pool design.errors) ended (checking_of new after.errors)) (quota made_for) step in
      of_session (λ k l. StepsOnce (terms_of setup pool) k ended l) (done_steps ended) is (steps_once (terms_of setup pool) (designed_of pool design) (designed_of new after) journal drawn ended here)

  -- and so is a finding that it finishes
  pub Finishes-finished :
      IsMadeFor setup session → (finding : Finding) (ended : Outcome) → counted ≡ after_steps journal (finished_steps ended)
      → HasFinished setup.rules (length design.planes) (layout_of (config_of setup pool) (drawn_of pool design)) design.quota (checking_of pool design.errors) finding ended (checking_of new after.errors)
      → Finishes (terms_of setup pool) (kept_of pool session) finding ended (kept_of new (seen after counted))
  Finishes-finished made_for finding ended is done =
      let planes : length design.planes ≡ setup.tech.plane_count = subst (λ (s : Session). length s.design.planes ≡ setup.tech.plane_count) (sym view) made_for.design.planes in
      let here = subst (λ (p : ℕ). HasFinished setup.rules p layout setup.quota (checking_of pool design.errors) finding ended (checking_of new after.errors)) planes
      (subst (λ (q : ℕ). HasFinished setup.rules (length design.planes) layout q (checking_of pool design.errors) finding ended (checking_of new after.errors)) (quota made_for) done) in
      of_session (λ k l. Finishes (terms_of setup pool) k finding ended l) (finished_steps ended) is (finishes (terms_of setup pool) (designed_of pool design) (designed_of new after) journal drawn finding ended here)

  -- so are steps one after another
  pub ChecksTimes-Steps :
      IsMadeFor setup session → (count : ℕ) → counted ≡ after_steps journal count
      → Steps setup.rules (layout_of (config_of setup pool) (drawn_of pool design)) design.quota count (checking_of pool design.errors) (checking_of new after.errors)
      → ChecksTimes (terms_of setup pool) count (kept_of pool session) (kept_of new (seen after counted))
  ChecksTimes-Steps made_for count is steps =
      let here = subst (λ (q : ℕ). Steps setup.rules layout q count (checking_of pool design.errors) (checking_of new after.errors)) (quota made_for) steps in
      of_session (ChecksTimes (terms_of setup pool) count) count is (checks_times (terms_of setup pool) (designed_of pool design) (designed_of new after) journal drawn count here)

  -- marks that stay right in the layout stay right in the session
  pub right_after :
      (IsChecked setup.rules (layout_of (config_of setup pool) (drawn_of pool design)) (checking_of pool design.errors)
      → IsChecked setup.rules (layout_of (config_of setup pool) (drawn_of pool design)) (checking_of new after.errors))
      → HasRightMarks (config_of setup pool) (state_of pool session).design → HasRightMarks (config_of setup pool) (designed_of new after)
  right_after keeps right =
      let config = config_of setup pool in
      subst (λ (d : Drawn). IsChecked config.rules (layout_of config d) (checking_of new after.errors)) (sym drawn)
      (keeps (subst (λ (s : Session). HasRightMarks config (designed_of pool s.design)) (sym view) right))
