-- A legal journal that is played again.
use Rattle.std.proofs.Common.{◌≡◌, ℕ, ◌+◌, Bool, true, cond, List, [], ◌∷◌, ◌++◌, map, replicate, All, Option, Some, None, refl, sym, ap, ◌∙◌, append_assoc, append-nil, arith}
use Rattle.std.specs.List.{flat_map}
use Rattle.std.specs.Option.{option_and_then, option_map}
use Rattle.std.proofs.lemmas.List.Elements.{All-head, All-tail}
use Rattle.std.proofs.lemmas.Option.{same_Some}
use Rattle.mls_server.specs.mls_session.Journals.{IsLegal, Kept, Run, is_journalled, kept_at_opening, noted, run_from, said_next, said_of}
use Rattle.mls_server.specs.mls_session.OwnSteps.{OwnState, Terms, beginning, checks, own_step}
use Rattle.mls_server.specs.mls_session.declared.command.Command.{Command}
use Rattle.mls_server.specs.mls_session.declared.journal.Entry.{Entry}
use Rattle.mls_server.specs.mls_session.declared.reply.Reply.{Reply}
use Rattle.mls_server.proofs.mls_session.JournalRuns.{Leads-from}
use Rattle.mls_server.specs.OwnLists.{alone, asked, at, checked}
use Rattle.mls_server.proofs.AloneRuns.{alone-both, alone-checks, counted}
use Rattle.mls_wire.specs.PlayedJournals.{PlaysAgain, entry_items}

-- a list with the same front
same-rest : (front first second : List Reply) → front ++ first ≡ front ++ second → first ≡ second
same-rest [] first second is = is
same-rest (reply ∷ front) first second is = same-rest front first second (ap rest_of is)
  where
    rest_of : List Reply → List Reply
    rest_of [] = []
    rest_of (r ∷ rs) = rs

same-first : (a b : Reply) (xs ys : List Reply) → a ∷ xs ≡ b ∷ ys → a ≡ b
same-first a b xs ys is = ap (first_of_or a) is
  where
    first_of_or : Reply → List Reply → Reply
    first_of_or other [] = other
    first_of_or other (r ∷ rs) = r

same-others : (a b : Reply) (xs ys : List Reply) → a ∷ xs ≡ b ∷ ys → xs ≡ ys
same-others a b xs ys is = same-rest (a ∷ []) xs ys (is ∙ ap (λ (r : Reply). r ∷ ys) (sym (same-first a b xs ys is)))

module _ (terms : Terms) where
  -- a run only adds replies
  abbrev Adds : Run → Run → Type 0
  Adds run last = (more : List Reply) × (last.replies ≡ run.replies ++ more)

  run_from-adds : (entries : List Entry) (run last : Run) → run_from terms run entries ≡ Some last → Adds run last
  run_from-adds [] run last is = ([], ap (λ (r : Run). r.replies) (sym (same_Some run last is)) ∙ sym (append-nil run.replies))
  run_from-adds (entry ∷ rest) run last is = by (λ from to. run_from-adds rest from to) (checks terms entry.checks_before run.own) is
    where
      by : ((from to : Run) → run_from terms from rest ≡ Some to → Adds from to) → (next : Option OwnState) → option_and_then (λ own. run_from terms (said_next terms run own entry.said.command) rest) next ≡ Some last → Adds run last
      by later None none = absurd cc
      by later (Some own) some =
          let reply = (own_step terms own entry.said.command).1 in
          let (more, adds) = later (said_next terms run own entry.said.command) last some in
          (reply ∷ more, adds ∙ append_assoc run.replies (reply ∷ []) more)

  -- a command that is journalled
  noted-journalled : (kept : Kept) (own : OwnState) (command : Command) (reply : Reply) → is_journalled reply ≡ true
      → noted kept own command reply ≡ record { own = own; journal = kept.journal ++ record { checks_before = kept.checks; said = said_of command reply } ∷ []; checks = 0 }
  noted-journalled kept own command reply is =
      ap (λ (t : Bool).
      cond t (record { own = own; journal = kept.journal ++ record { checks_before = kept.checks; said = said_of command reply } ∷ []; checks = 0 }) (record kept { own = own })) is

  abbrev kept_with : OwnState → List Entry → Kept
  kept_with own journal = record { own = own; journal = journal; checks = 0 }

  -- an entry: its check steps, and then its command, which has the entry's reply
  entry-plays : (own before after : OwnState) (journal : List Entry) (entry : Entry) → checks terms entry.checks_before own ≡ Some before
      → own_step terms before entry.said.command ≡ (after, entry.said.reply) → is_journalled entry.said.reply ≡ true
      → alone terms (at (kept_with own journal)) (entry_items entry) ≡ Some (record { kept = kept_with after (journal ++ entry ∷ []); replies = entry.said.reply ∷ [] })
  entry-plays own before after journal entry checked_up steps journalled =
      let count = entry.checks_before in
      let start = kept_with own journal in
      let mid = counted start count before in
      let said = entry.said in
      let last = kept_with after (journal ++ entry ∷ []) in
      let zero_more : 0 + count ≡ count = omega arith in
      let first = alone-checks terms count start ∙ ap (option_map (λ (o : OwnState). at (counted start count o))) checked_up in
      let second : alone terms (at mid) (asked said.command ∷ []) ≡ Some (record { kept = last; replies = said.reply ∷ [] }) =
      ap (λ (step : OwnState × Reply). Some (record { kept = noted mid step.0 said.command step.1; replies = step.1 ∷ [] })) steps
      ∙ ap (λ (kept : Kept). Some (record { kept = kept; replies = said.reply ∷ [] })) (noted-journalled mid after said.command said.reply journalled)
      ∙ ap (λ (n : ℕ). Some (record { kept = kept_with after (journal ++ record { checks_before = n; said = said } ∷ []); replies = said.reply ∷ [] })) zero_more in
      alone-both terms start mid last (replicate count checked) (asked said.command ∷ []) [] (said.reply ∷ []) first second

  abbrev replies_of : List Entry → List Reply
  replies_of entries = map (λ entry. entry.said.reply) entries

  -- entries play, whatever was there before
  abbrev Play : List Entry → Type 0
  Play entries =
      (own : OwnState) (journal : List Entry) (replies : List Reply) (last : Run) → run_from terms (record { own = own; replies = replies }) entries ≡ Some last
      → last.replies ≡ replies ++ replies_of entries
      → alone terms (at (kept_with own journal)) (flat_map entry_items entries) ≡ Some (record { kept = kept_with last.own (journal ++ entries); replies = replies_of entries })

  one-more : (entry : Entry) (rest : List Entry) → is_journalled entry.said.reply ≡ true → Play rest → (own : OwnState) (journal : List Entry) (replies : List Reply) (last : Run)
      → last.replies ≡ replies ++ replies_of (entry ∷ rest) → (next : Option OwnState) → checks terms entry.checks_before own ≡ next
      → option_and_then (λ o. run_from terms (said_next terms (record { own = own; replies = replies }) o entry.said.command) rest) next ≡ Some last
      → alone terms (at (kept_with own journal)) (flat_map entry_items (entry ∷ rest))
      ≡ Some (record { kept = kept_with last.own (journal ++ entry ∷ rest); replies = replies_of (entry ∷ rest) })
  one-more entry rest journalled play own journal replies last said None checked_up none = absurd cc
  one-more entry rest journalled play own journal replies last said (Some before) checked_up some =
      let command = entry.said.command in
      let step = own_step terms before command in
      let next : Run = said_next terms (record { own = own; replies = replies }) before command in
      let (more, adds) = run_from-adds rest next last some in
      let all = sym (adds ∙ append_assoc replies (step.1 ∷ []) more) ∙ said in
      let list = same-rest replies (step.1 ∷ more) (replies_of (entry ∷ rest)) all in
      let reply = same-first step.1 entry.said.reply more (replies_of rest) list in
      let others = same-others step.1 entry.said.reply more (replies_of rest) list in
      let first = entry-plays own before step.0 journal entry checked_up (ap (λ (r : Reply). (step.0, r)) reply) journalled in
      let later = play step.0 (journal ++ entry ∷ []) (replies ++ step.1 ∷ []) last some (adds ∙ ap (λ (l : List Reply). (replies ++ step.1 ∷ []) ++ l) others) in
      let both = alone-both terms (kept_with own journal) (kept_with step.0 (journal ++ entry ∷ [])) (kept_with last.own ((journal ++ entry ∷ []) ++ rest))
      (entry_items entry) (flat_map entry_items rest) (entry.said.reply ∷ []) (replies_of rest) first later in
      both ∙ ap (λ (entries : List Entry). Some (record { kept = kept_with last.own entries; replies = replies_of (entry ∷ rest) })) (append_assoc journal (entry ∷ []) rest)

  entries-play : (entries : List Entry) → All (λ entry. is_journalled entry.said.reply ≡ true) entries → Play entries
  entries-play [] journalled own journal replies last ran said =
      let same = same_Some (record { own = own; replies = replies }) last ran in
      ap (λ (o : OwnState). Some (at (kept_with o journal))) (ap (λ (r : Run). r.own) same)
      ∙ ap (λ (entries : List Entry). Some (at (kept_with last.own entries))) (sym (append-nil journal))
  entries-play (entry ∷ rest) journalled own journal replies last ran said =
      one-more entry rest (All-head (λ e. is_journalled e.said.reply ≡ true) entry rest journalled)
      (entries-play rest (All-tail (λ e. is_journalled e.said.reply ≡ true) entry rest journalled)) own journal replies last said (checks terms entry.checks_before own) refl ran

-- all of a journal, and the check steps after it
pub plays-again : (terms : Terms) (kept : Kept) → IsLegal terms kept → PlaysAgain terms kept
plays-again terms kept legal =
    let replies = map (λ (entry : Entry). entry.said.reply) kept.journal in
    let leads = Leads-from terms kept.journal kept.checks kept.own replies legal.leads in
    let opening = kept_at_opening terms.config.rules in
    let mid = kept_with terms leads.run.own kept.journal in
    let none : 0 + kept.checks ≡ kept.checks = omega arith in
    let first = entries-play terms kept.journal legal.journalled (beginning terms.config.rules) [] [] leads.run leads.ran leads.replied in
    let second = alone-checks terms kept.checks mid ∙ ap (option_map (λ (own : OwnState). at (counted mid kept.checks own))) leads.steps
    ∙ ap (λ (n : ℕ). Some (at (record kept { checks = n }))) none in
    alone-both terms opening mid kept (flat_map entry_items kept.journal) (replicate kept.checks checked) replies [] first second
    ∙ ap (λ (l : List Reply). Some (record { kept = kept; replies = l })) (append-nil replies)
