-- Whatever a session does keeps its journal legal, and as long as its own state says.
use Rattle.std.proofs.Common.{◌≡◌, ◌≢◌, ◌+◌, ◌++◌, ◌⊎◌, inl, inr, ℕ, true, Some, List, [], ◌∷◌, length, length-append, map, refl, sym, ap, ◌∙◌, subst, arith, option_and_then}
use Rattle.std.proofs.lemmas.Bool.{cases_eq, cond-true}
use Rattle.std.proofs.lemmas.List.{map-append}
use Rattle.std.proofs.lemmas.List.Elements.{All-append, All-cons, All-nil}
use Rattle.mls_session.proofs.Common.{ChecksOnce, Command, Commands, Does, Entry, Finding, Finishes, IsLegal, JournalFull, Kept, Outcome, OwnState, Reply, RunsOut, Saves, Stepped, StepsOnce, Terms, checks, is_journalled, kept_at_opening, noted, own_step, said_of}
use Rattle.mls_errorplane.specs.declared.error_plane.Outcome.TheVariants as outcome
use Rattle.mls_errorplane.specs.declared.error_plane.Stepped.TheVariants as stepped
use Rattle.mls_session.specs.declared.command.Command.TheVariants.{What, Save, CatchUp, Why}
use Rattle.mls_session.specs.declared.reply.Reply.TheVariants.{Refused}
use Rattle.mls_session.proofs.JournalRuns.{Leads, Leads-checks, Leads-from, Leads-gives, Leads-said, checks-entries}
use Rattle.mls_session.proofs.OwnReplies.{own_step-full, own_step-is_journalled, own_step-room}

-- ---- what a command leaves
-- the own state's number of entries is that of the journal
abbrev pub CountsEntries : Kept → Type 0
CountsEntries kept = kept.own.entries ≡ length kept.journal

-- what is kept with one entry more
abbrev pub with_entry : Kept → OwnState → Command → Reply → Kept
with_entry kept own command reply =
    record { own = own; journal = kept.journal ++ record { checks_before = kept.checks; said = said_of command reply } ∷ []; checks = 0 }

-- a full journal leaves all as it was, and else there is one entry more
pub Does-cases :
    (terms : Terms) (old new : Kept) (command : Command) (reply : Reply) → Does terms old command reply new
    → ((old.own.entries ≡ terms.journal) × (reply ≡ Refused JournalFull) × (new ≡ old))
    ⊎ ((own : OwnState) × (old.own.entries ≢ terms.journal) × (own_step terms old.own command ≡ (own, reply)) × (is_journalled reply ≡ true) × (new ≡ with_entry old own command reply))
Does-cases terms old new command reply (own, is, after) = elim (cases_eq old.own.entries terms.journal) [
  | inl full ↦
      let step = sym is ∙ own_step-full terms old.own command full in
      let same : own ≡ old.own = ap (λ (s : OwnState × Reply). s.0) step in
      let refused : reply ≡ Refused JournalFull = ap (λ (s : OwnState × Reply). s.1) step in
      inl (full, refused, after ∙ ap (λ (r : Reply). noted old own command r) refused ∙ ap (λ (o : OwnState). record old { own = o }) same)
  | inr room ↦
      let journalled : is_journalled reply ≡ true =
      ap (λ (s : OwnState × Reply). is_journalled s.1) (sym is) ∙ own_step-is_journalled terms old.own command room in
      inr (own, room, is, journalled, after ∙ cond-true (is_journalled reply) _ _ journalled)
]

-- ---- the journal stays legal
abbrev IsJournalled : Entry → Type 0
IsJournalled entry = is_journalled entry.said.reply ≡ true

abbrev replies_of : List Entry → List Reply
replies_of journal = map (λ entry. entry.said.reply) journal

module _ (terms : Terms) where
  pub opening-legal : IsLegal terms (kept_at_opening terms.config.rules)
  opening-legal = record { journalled = All-nil IsJournalled; leads = refl }

  leads_of : (kept : Kept) → IsLegal terms kept → Leads terms kept.journal kept.checks kept.own (replies_of kept.journal)
  leads_of kept legal = Leads-from terms kept.journal kept.checks kept.own (replies_of kept.journal) legal.leads

  -- by an entry more
  pub with_entry-legal :
      (old : Kept) (own : OwnState) (command : Command) (reply : Reply) → own_step terms old.own command ≡ (own, reply) → is_journalled reply ≡ true
      → IsLegal terms old → IsLegal terms (with_entry old own command reply)
  with_entry-legal old own command reply is journalled legal =
      let entry : Entry = record { checks_before = old.checks; said = said_of command reply } in
      let replies = replies_of old.journal in
      let last = Leads-said terms old.journal entry old.own replies (leads_of old legal) in
      let shown : Leads terms (old.journal ++ entry ∷ []) 0 own (replies ++ reply ∷ []) =
      subst (λ (s : OwnState × Reply). Leads terms (old.journal ++ entry ∷ []) 0 s.0 (replies ++ s.1 ∷ [])) is last in
      record {
        journalled = All-append IsJournalled old.journal (entry ∷ []) legal.journalled (All-cons IsJournalled entry [] journalled (All-nil IsJournalled));
        leads = Leads-gives terms (old.journal ++ entry ∷ []) 0 own (replies_of (old.journal ++ entry ∷ []))
            (subst (Leads terms (old.journal ++ entry ∷ []) 0 own) (sym (map-append (λ (e : Entry). e.said.reply) old.journal (entry ∷ []))) shown);
      }

  -- and by check steps more
  pub with_checks-legal :
      (old : Kept) (count : ℕ) (own : OwnState) → checks terms count old.own ≡ Some own → IsLegal terms old
      → IsLegal terms (record old { own = own; checks = old.checks + count })
  with_checks-legal old count own is legal =
      let replies = replies_of old.journal in
      record {
        journalled = legal.journalled;
        leads = Leads-gives terms old.journal (old.checks + count) own replies (Leads-checks terms old.journal old.checks count old.own own replies is (leads_of old legal));
      }

  module _ (old new : Kept) where
    unchanged : new ≡ old → IsLegal terms old → IsLegal terms new
    unchanged same legal = subst (IsLegal terms) (sym same) legal

    pub Does-legal : (command : Command) (reply : Reply) → Does terms old command reply new → IsLegal terms old → IsLegal terms new
    Does-legal command reply does legal = elim (Does-cases terms old new command reply does) [
      | inl (full, refused, same) ↦ unchanged same legal
      | inr (own, room, is, journalled, same) ↦ subst (IsLegal terms) (sym same) (with_entry-legal old own command reply is journalled legal)
    ]

    RunsOut-legal : (command : Command) (reply : Reply) → RunsOut terms old command reply new → IsLegal terms old → IsLegal terms new
    RunsOut-legal CatchUp reply (count, own, is, some, refused, same) legal = subst (IsLegal terms) (sym same) (with_checks-legal old count own is legal)
    RunsOut-legal Why reply (some, refused, same) legal = unchanged same legal
    RunsOut-legal What reply (some, placed, refused, same) legal = unchanged same legal
    RunsOut-legal _ reply none legal = absurd none

    pub Commands-legal : (command : Command) (reply : Reply) → Commands terms old command reply new → IsLegal terms old → IsLegal terms new
    Commands-legal command reply (inl does) legal = Does-legal command reply does legal
    Commands-legal command reply (inr (room, out)) legal = RunsOut-legal command reply out legal

    pub Saves-legal : (reply : Reply) (text : List ℕ) → Saves terms old reply text new → IsLegal terms old → IsLegal terms new
    Saves-legal reply text (inl (does, shown)) legal = Does-legal Save reply does legal
    Saves-legal reply text (inr (room, refused, none, same)) legal = unchanged same legal

    pub ChecksOnce-legal : ChecksOnce terms old new → IsLegal terms old → IsLegal terms new
    ChecksOnce-legal (own, is, same) legal =
        subst (IsLegal terms) (sym same) (with_checks-legal old 1 own (ap (option_and_then (checks terms 0)) is) legal)

    pub StepsOnce-legal : (ended : Stepped) → StepsOnce terms old ended new → IsLegal terms old → IsLegal terms new
    StepsOnce-legal stepped.Idle (none, same) legal = unchanged same legal
    StepsOnce-legal stepped.Done once legal = ChecksOnce-legal once legal
    StepsOnce-legal stepped.Full (some, refused, same) legal = unchanged same legal
    StepsOnce-legal stepped.Memory (some, same) legal = unchanged same legal

    pub Finishes-legal : (finding : Finding) (ended : Outcome) → Finishes terms old finding ended new → IsLegal terms old → IsLegal terms new
    Finishes-legal finding outcome.Finished (fresh, once) legal = ChecksOnce-legal once legal
    Finishes-legal finding outcome.Stale (stale, same) legal = unchanged same legal
    Finishes-legal finding outcome.Full (fresh, refused, same) legal = unchanged same legal

    -- ---- entries are counted
    uncounted : new ≡ old → CountsEntries old → CountsEntries new
    uncounted same counts = subst CountsEntries (sym same) counts

    Does-entries : (command : Command) (reply : Reply) → Does terms old command reply new → CountsEntries old → CountsEntries new
    Does-entries command reply does counts = elim (Does-cases terms old new command reply does) [
      | inl (full, refused, same) ↦ uncounted same counts
      | inr (own, room, is, journalled, same) ↦
          let entry : Entry = record { checks_before = old.checks; said = said_of command reply } in
          let more : own.entries ≡ old.own.entries + 1 = ap (λ (s : OwnState × Reply). s.0.entries) (sym is ∙ own_step-room terms old.own command room) in
          let longer : length (old.journal ++ entry ∷ []) ≡ length old.journal + 1 = length-append old.journal (entry ∷ []) in
          subst CountsEntries (sym same) (omega (arith, more, longer, counts))
    ]

    stepped_entries : (count : ℕ) (own : OwnState) → checks terms count old.own ≡ Some own → new ≡ record old { own = own; checks = old.checks + count } → CountsEntries old → CountsEntries new
    stepped_entries count own is same counts = subst CountsEntries (sym same) (checks-entries terms count old.own own is ∙ counts)

    RunsOut-entries : (command : Command) (reply : Reply) → RunsOut terms old command reply new → CountsEntries old → CountsEntries new
    RunsOut-entries CatchUp reply (count, own, is, some, refused, same) counts = stepped_entries count own is same counts
    RunsOut-entries Why reply (some, refused, same) counts = uncounted same counts
    RunsOut-entries What reply (some, placed, refused, same) counts = uncounted same counts
    RunsOut-entries _ reply none counts = absurd none

    pub Commands-entries : (command : Command) (reply : Reply) → Commands terms old command reply new → CountsEntries old → CountsEntries new
    Commands-entries command reply (inl does) counts = Does-entries command reply does counts
    Commands-entries command reply (inr (room, out)) counts = RunsOut-entries command reply out counts

    pub Saves-entries : (reply : Reply) (text : List ℕ) → Saves terms old reply text new → CountsEntries old → CountsEntries new
    Saves-entries reply text (inl (does, shown)) counts = Does-entries Save reply does counts
    Saves-entries reply text (inr (room, refused, none, same)) counts = uncounted same counts

    pub ChecksOnce-entries : ChecksOnce terms old new → CountsEntries old → CountsEntries new
    ChecksOnce-entries (own, is, same) counts = stepped_entries 1 own (ap (option_and_then (checks terms 0)) is) same counts

    pub StepsOnce-entries : (ended : Stepped) → StepsOnce terms old ended new → CountsEntries old → CountsEntries new
    StepsOnce-entries stepped.Idle (none, same) counts = uncounted same counts
    StepsOnce-entries stepped.Done once counts = ChecksOnce-entries once counts
    StepsOnce-entries stepped.Full (some, refused, same) counts = uncounted same counts
    StepsOnce-entries stepped.Memory (some, same) counts = uncounted same counts

    pub Finishes-entries : (finding : Finding) (ended : Outcome) → Finishes terms old finding ended new → CountsEntries old → CountsEntries new
    Finishes-entries finding outcome.Finished (fresh, once) counts = ChecksOnce-entries once counts
    Finishes-entries finding outcome.Stale (stale, same) counts = uncounted same counts
    Finishes-entries finding outcome.Full (fresh, refused, same) counts = uncounted same counts
