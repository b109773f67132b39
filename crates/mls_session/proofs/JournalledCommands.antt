-- What a session keeps after a command of its design.
use Rattle.std.proofs.Common.{◌≡◌, ◌≢◌, inl, inr, ◌+◌, ◌++◌, ◌∷◌, [], ℕ, Bool, true, false, cond, Some, List, length, length-append, refl, sym, ap, ◌∙◌, subst, arith}
use Rattle.std.proofs.lemmas.Bool.{cond-false, cond-true}
use Rattle.mls_session.proofs.Common.{Command, Commands, Counts, Design, DesignRunsOut, DesignSteps, Designed, Does, Entry, Executed, Journal, JournalFull, Kept, OwnState, Pool, Reply, RunsOut, Session, Setup, Terms, after_command, after_note, after_steps, checks, config_of, design_step, designed_of, is_journalled, is_memory, is_refusal, kept_of, noted, own_step, said_of, terms_of}
use Rattle.mls_session.specs.declared.command.Command.TheVariants.{CatchUp, What, Why}
use Rattle.mls_session.specs.declared.reply.Reply.TheVariants.{Refused}
use Rattle.mls_session.proofs.CheckedDesigns.{checks-Some}
use Rattle.mls_session.proofs.OwnReplies.{design_step-is_journalled, design_step-not_memory, own_step-full, own_step-room}

-- what is kept of a design and a journal
abbrev pub kept_with : Designed → Journal → Kept
kept_with own journal =
    record { own = record { design = own; entries = length journal.entries }; journal = journal.entries; checks = journal.checks }

-- a command leaves it to a journal how many entries it may have
pub after_command-limit : (journal : Journal) (command : Command) (executed : Executed) → (after_command journal command executed).limit ≡ journal.limit
after_command-limit journal command executed = either (is_refusal is_memory executed.reply)
  where
    either : (memory : Bool) → (cond memory (after_steps journal executed.steps) (after_note journal (said_of command executed.reply))).limit ≡ journal.limit
    either true = refl
    either false = refl

-- a session with this design and this journal
abbrev pub seen : Design → Journal → Session
seen design journal = record { design = design; journal = journal.entries; limit = journal.limit; checks = journal.checks }

-- a full journal refuses, and nothing changes
pub Does-full :
    (terms : Terms) (kept : Kept) (command : Command) → kept.own.entries ≡ terms.journal → Does terms kept command (Refused JournalFull) kept
Does-full terms kept command full = (kept.own, own_step-full terms kept.own command full, refl)

module _ (terms : Terms) (old new : Designed) (journal : Journal) (command : Command) (executed : Executed) (room : length journal.entries ≢ terms.journal) where
  -- the command took the design's step, so it is noted
  step_taken : design_step terms.config old command ≡ (new, executed.reply)
      → own_step terms (kept_with old journal).own command ≡ (record { design = new; entries = length journal.entries + 1 }, executed.reply)
  step_taken taken =
      let whole : Designed × Reply → OwnState × Reply = λ step. (record { design = step.0; entries = length journal.entries + 1 }, step.1) in
      own_step-room terms (kept_with old journal).own command room ∙ ap whole taken

  journalled : design_step terms.config old command ≡ (new, executed.reply) → is_journalled executed.reply ≡ true
  journalled taken =
      ap (λ (step : Designed × Reply). is_journalled step.1) (sym taken) ∙ design_step-is_journalled terms.config old command

  not_memory : design_step terms.config old command ≡ (new, executed.reply) → is_refusal is_memory executed.reply ≡ false
  not_memory taken =
      ap (λ (step : Designed × Reply). is_refusal is_memory step.1) (sym taken) ∙ design_step-not_memory terms.config old command

  pub Does-executed :
      design_step terms.config old command ≡ (new, executed.reply)
      → Does terms (kept_with old journal) command executed.reply (kept_with new (after_command journal command executed))
  Does-executed taken =
      let entry : Entry = record { checks_before = journal.checks; said = said_of command executed.reply } in
      let more : List Entry = journal.entries ++ entry ∷ [] in
      let own : OwnState = record { design = new; entries = length journal.entries + 1 } in
      let with_len : ℕ → Kept = λ n. record { own = record { design = new; entries = n }; journal = more; checks = 0 } in
      let kept = kept_with old journal in
      let noticed : after_command journal command executed ≡ after_note journal (said_of command executed.reply) =
      cond-false (is_refusal is_memory executed.reply) _ _ (not_memory taken) in
      let written : noted kept own command executed.reply ≡ with_len (length journal.entries + 1) =
      cond-true (is_journalled executed.reply) _ _ (journalled taken) in (
        own,
        step_taken taken,
        ap (kept_with new) noticed ∙ ap with_len (length-append journal.entries (entry ∷ [])) ∙ sym written,
      )

  -- memory ran out, so the check steps are counted
  pub counted :
      is_refusal is_memory executed.reply ≡ true → kept_with new (after_command journal command executed) ≡ kept_with new (after_steps journal executed.steps)
  counted memory = ap (kept_with new) (cond-true (is_refusal is_memory executed.reply) _ _ memory)

-- ---- where memory ran out
module _ (terms : Terms) (old new : Designed) (journal : Journal) (executed : Executed) (room : length journal.entries ≢ terms.journal) where
  RunsOut-executed :
      (command : Command) → DesignRunsOut terms.config old command executed.reply new → Counts terms.config old command executed new
      → RunsOut terms (kept_with old journal) command executed.reply (kept_with new (after_command journal command executed))
  -- `why` changes nothing
  RunsOut-executed Why (boxed, refused, same) none =
      let memory : is_refusal is_memory executed.reply ≡ true = ap (is_refusal is_memory) refused in
      let with_checks : ℕ → Kept = λ n. kept_with new (record journal { checks = n }) in
      let no_more : journal.checks + executed.steps ≡ journal.checks = omega (arith, none) in
      (boxed, refused, counted terms old new journal Why executed room memory ∙ ap with_checks no_more ∙ ap (λ own. kept_with own journal) same)
  -- nor does `what`
  RunsOut-executed What (boxed, placed, refused, same) none =
      let memory : is_refusal is_memory executed.reply ≡ true = ap (is_refusal is_memory) refused in
      let with_checks : ℕ → Kept = λ n. kept_with new (record journal { checks = n }) in
      let no_more : journal.checks + executed.steps ≡ journal.checks = omega (arith, none) in
      (boxed, placed, refused, counted terms old new journal What executed room memory ∙ ap with_checks no_more ∙ ap (λ own. kept_with own journal) same)
  -- catching up keeps the check steps that it did
  RunsOut-executed CatchUp (count, steps, left, stopped) counts =
      let memory : is_refusal is_memory executed.reply ≡ true = ap (is_refusal is_memory) stopped in
      let own : OwnState = record { design = new; entries = length journal.entries } in
      let done : checks terms executed.steps (kept_with old journal).own ≡ Some own =
      checks-Some terms executed.steps (kept_with old journal).own new (counts memory) in
      (executed.steps, own, done, left, stopped, counted terms old new journal CatchUp executed room memory)
  RunsOut-executed _ out none = absurd out

  -- ---- commands
  -- the command of a session whose journal has room, from what its design did
  pub Commands-executed :
      (command : Command) → DesignSteps terms.config old command executed.reply new → Counts terms.config old command executed new
      → Commands terms (kept_with old journal) command executed.reply (kept_with new (after_command journal command executed))
  Commands-executed command (inl taken) counts = inl (Does-executed terms old new journal command executed room taken)
  Commands-executed command (inr out) counts = inr (room, RunsOut-executed command out counts)

-- ---- a session's journal
module _ (session : Session) (design : Design) (journal : Journal) (limit : ℕ) (view : seen design journal ≡ session) (as_made : session.limit ≡ limit) where
  -- it is full
  pub entries-full : length journal.entries ≡ journal.limit → length session.journal ≡ limit
  entries-full full = subst (λ (s : Session). s.limit ≡ limit → length s.journal ≡ limit) view (λ is. full ∙ is) as_made

  -- or has room
  pub entries-room : length journal.entries ≢ journal.limit → length journal.entries ≢ limit
  entries-room room full = room (full ∙ sym (subst (λ (s : Session). s.limit ≡ limit) (sym view) as_made))

-- the command of a session is that of its design, and goes into the journal
pub Commands-session :
    (setup : Setup) (pool new : Pool) (session : Session) (design after : Design) (journal kept : Journal) (command : Command) (executed : Executed)
    → seen design journal ≡ session → session.limit ≡ setup.limit → length journal.entries ≢ journal.limit
    → DesignSteps (config_of setup pool) (designed_of pool design) command executed.reply (designed_of new after)
    → Counts (config_of setup pool) (designed_of pool design) command executed (designed_of new after) → kept ≡ after_command journal command executed
    → Commands (terms_of setup pool) (kept_of pool session) command executed.reply (kept_of new (seen after kept))
Commands-session setup pool new session design after journal kept command executed view limit room step counts is =
    let terms = terms_of setup pool in
    subst (λ (s : Session). Commands terms (kept_of pool s) command executed.reply (kept_of new (seen after kept))) view
    (subst (λ (j : Journal). Commands terms (kept_with (designed_of pool design) journal) command executed.reply (kept_with (designed_of new after) j)) (sym is)
    (Commands-executed terms (designed_of pool design) (designed_of new after) journal executed (entries-room session design journal setup.limit view limit room) command step counts))
