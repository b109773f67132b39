-- Runs of commands and check steps, one after another.
use Rattle.std.proofs.Common.{◌≡◌, ◌+◌, ◌++◌, ℕ, zero, suc, Option, Some, None, List, [], ◌∷◌, refl, sym, ap, ◌∙◌, arith, option_and_then, option_map}
use Rattle.std.proofs.lemmas.Option.{same_Some}
use Rattle.mls_session.proofs.Common.{Command, Designed, Entry, OwnState, Reply, Run, Terms, alone_run, alone_run_with, checked, checks, own_check, run_from, said_next}

module _ (terms : Terms) where
  -- ---- check steps
  -- some steps and then others
  goes_on :
      (count more : ℕ) (mid : OwnState) (next : Option OwnState)
      → ((own : OwnState) → checks terms count own ≡ Some mid → checks terms (count + more) own ≡ checks terms more mid)
      → option_and_then (checks terms count) next ≡ Some mid → option_and_then (checks terms (count + more)) next ≡ checks terms more mid
  goes_on count more mid None after is = absurd cc
  goes_on count more mid (Some own) after is = after own is

  pub checks-after : (count more : ℕ) (old mid : OwnState) → checks terms count old ≡ Some mid → checks terms (count + more) old ≡ checks terms more mid
  checks-after zero more old mid is =
      let none : 0 + more ≡ more = omega arith in
      ap (λ number. checks terms number old) none ∙ ap (checks terms more) (same_Some old mid is)
  checks-after (suc count) more old mid is =
      let one : suc count + more ≡ suc (count + more) = omega arith in
      ap (λ number. checks terms number old) one ∙ goes_on count more mid (own_check terms old) (λ own. checks-after count more own mid) is

  -- and one more
  pub checks-last :
      (count : ℕ) (old mid new : OwnState) → checks terms count old ≡ Some mid → own_check terms mid ≡ Some new → checks terms (count + 1) old ≡ Some new
  checks-last count old mid new is last = checks-after count 1 old mid is ∙ ap (option_and_then (checks terms 0)) last

  -- they add no entry
  kept_entries : (old new : OwnState) (next : Option Designed) → option_map (λ design. record old { design = design }) next ≡ Some new → new.entries ≡ old.entries
  kept_entries old new None is = absurd cc
  kept_entries old new (Some design) is = ap (λ (own : OwnState). own.entries) (sym (same_Some (record old { design = design }) new is))

  pub own_check-entries : (old new : OwnState) → own_check terms old ≡ Some new → new.entries ≡ old.entries
  unfolding own_check
  own_check-entries old new is = kept_entries old new (checked terms.config old.design) is

  next_entries :
      (count : ℕ) (old new : OwnState) (next : Option OwnState) → own_check terms old ≡ next
      → ((own : OwnState) → checks terms count own ≡ Some new → new.entries ≡ own.entries)
      → option_and_then (checks terms count) next ≡ Some new → new.entries ≡ old.entries
  next_entries count old new None at more is = absurd cc
  next_entries count old new (Some own) at more is = more own is ∙ own_check-entries old own at

  pub checks-entries : (count : ℕ) (old new : OwnState) → checks terms count old ≡ Some new → new.entries ≡ old.entries
  checks-entries zero old new is = ap (λ (own : OwnState). own.entries) (sym (same_Some old new is))
  checks-entries (suc count) old new is = next_entries count old new (own_check terms old) refl (λ own. checks-entries count own new) is

  -- ---- commands
  -- some entries and then others
  runs_on :
      (run : Run) (command : Command) (rest more : List Entry) (next : Option OwnState)
      → ((from : Run) → run_from terms from (rest ++ more) ≡ option_and_then (λ to. run_from terms to more) (run_from terms from rest))
      → option_and_then (λ own. run_from terms (said_next terms run own command) (rest ++ more)) next
      ≡ option_and_then (λ to. run_from terms to more) (option_and_then (λ own. run_from terms (said_next terms run own command) rest) next)
  runs_on run command rest more None after = refl
  runs_on run command rest more (Some own) after = after (said_next terms run own command)

  pub run_from-append :
      (run : Run) (journal more : List Entry) → run_from terms run (journal ++ more) ≡ option_and_then (λ to. run_from terms to more) (run_from terms run journal)
  run_from-append run [] more = refl
  run_from-append run (entry ∷ rest) more =
      runs_on run entry.said.command rest more (checks terms entry.checks_before run.own) (λ from. run_from-append from rest more)

  -- the run that a journal's own run and its check steps make
  pub record Leads (journal : List Entry) (since : ℕ) (own : OwnState) (replies : List Reply) : Type 0 where
    pub run : Run
    pub ran : alone_run terms journal ≡ Some run
    pub steps : checks terms since run.own ≡ Some own
    pub replied : run.replies ≡ replies

  steps_lead :
      (journal : List Entry) (since : ℕ) (own : OwnState) (replies : List Reply) (run : Run) (next : Option OwnState) → alone_run terms journal ≡ Some run
      → checks terms since run.own ≡ next → option_map (λ own. record run { own = own }) next ≡ Some (record { own = own; replies = replies })
      → Leads journal since own replies
  steps_lead journal since own replies run None ran at is = absurd cc
  steps_lead journal since own replies run (Some to) ran at is =
      let same = same_Some (record run { own = to }) (record { own = own; replies = replies }) is in
      record { run = run; ran = ran; steps = at ∙ ap (λ (r : Run). Some r.own) same; replied = ap (λ (r : Run). r.replies) same }

  run_leads :
      (journal : List Entry) (since : ℕ) (own : OwnState) (replies : List Reply) (ran : Option Run) → alone_run terms journal ≡ ran
      → option_and_then (λ run. option_map (λ own. record run { own = own }) (checks terms since run.own)) ran ≡ Some (record { own = own; replies = replies })
      → Leads journal since own replies
  run_leads journal since own replies None at is = absurd cc
  run_leads journal since own replies (Some run) at is = steps_lead journal since own replies run (checks terms since run.own) at refl is

  pub Leads-from :
      (journal : List Entry) (since : ℕ) (own : OwnState) (replies : List Reply) → alone_run_with terms journal since ≡ Some (record { own = own; replies = replies })
      → Leads journal since own replies
  Leads-from journal since own replies is = run_leads journal since own replies (alone_run terms journal) refl is

  pub Leads-gives :
      (journal : List Entry) (since : ℕ) (own : OwnState) (replies : List Reply) → Leads journal since own replies
      → alone_run_with terms journal since ≡ Some (record { own = own; replies = replies })
  Leads-gives journal since own replies leads =
      ap (option_and_then (λ (run : Run). option_map (λ own. record run { own = own }) (checks terms since run.own))) leads.ran
      ∙ ap (option_map (λ (own : OwnState). record leads.run { own = own })) leads.steps
      ∙ ap (λ (r : List Reply). Some (record { own = own; replies = r })) leads.replied

  -- with check steps more
  pub Leads-checks :
      (journal : List Entry) (since count : ℕ) (old new : OwnState) (replies : List Reply) → checks terms count old ≡ Some new → Leads journal since old replies
      → Leads journal (since + count) new replies
  Leads-checks journal since count old new replies is leads =
      record { run = leads.run; ran = leads.ran; steps = checks-after since count leads.run.own old leads.steps ∙ is; replied = leads.replied }

  -- with an entry more
  pub Leads-said :
      (journal : List Entry) (entry : Entry) (old : OwnState) (replies : List Reply) → Leads journal entry.checks_before old replies
      → Leads (journal ++ entry ∷ []) 0 (said_next terms (record { own = old; replies = replies }) old entry.said.command).own (said_next terms (record { own = old; replies = replies }) old entry.said.command).replies
  Leads-said journal entry old replies leads = record {
    run = said_next terms (record { own = old; replies = replies }) old entry.said.command;
    ran = run_from-append _ journal (entry ∷ []) ∙ ap (option_and_then (λ (to : Run). run_from terms to (entry ∷ []))) leads.ran
        ∙ ap (option_and_then (λ (own : OwnState). run_from terms (said_next terms leads.run own entry.said.command) [])) leads.steps
        ∙ ap (λ (r : List Reply). Some (said_next terms (record { own = old; replies = r }) old entry.said.command)) leads.replied;
    steps = refl;
    replied = refl;
  }
