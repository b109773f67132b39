-- What each session is told in a run of events is what the alone run of its own list says.
use Rattle.std.proofs.Common.{◌≡◌, ◌≢◌, ℕ, ◌++◌, ◌≤◌, ◌<◌, ◌==◌, Bool, true, false, cond, Option, Some, None, Result, Ok, Err, List, [], ◌∷◌, IfSome, inl, inr, refl, sym, ap, ◌∙◌, subst, arith}
use Rattle.std.specs.Option.{unwrap_or}
use Rattle.std.proofs.lemmas.Bool.{eqb-true}
use Rattle.std.proofs.lemmas.Option.{same_Some}
use Rattle.mls_session.specs.mls_checker.Findings.{Finding}
use Rattle.mls_session.specs.mls_errorplane.declared.error_plane.Outcome.{Outcome}
use Rattle.mls_session.specs.mls_errorplane.declared.error_plane.Outcome.TheVariants.{Finished as FindingFinished, Stale, Full as FindingFull}
use Rattle.mls_session.specs.mls_errorplane.declared.error_plane.Stepped.{Stepped as StepEnd}
use Rattle.mls_session.specs.mls_errorplane.declared.error_plane.Stepped.TheVariants.{Idle, Done as StepDone, Full, Memory as StepMemory}
use Rattle.mls_session.specs.mls_errorplane.declared.job.Job.{Job}
use Rattle.mls_session.specs.Journals.{Finishes, Kept, StepsOnce, kept_at_opening}
use Rattle.mls_session.specs.Looks.{Looks}
use Rattle.mls_session.specs.OwnSteps.{Terms}
use Rattle.mls_session.specs.declared.command.Command.{Command as OwnCommand}
use Rattle.mls_session.specs.declared.look.Look.{Look as OwnLook}
use Rattle.mls_session.specs.declared.look.Looked.{Looked as OwnLooked}
use Rattle.mls_session.specs.declared.reply.Reply.{Reply}
use Rattle.mls_session.specs.declared.step_run.StepRun.{StepRun}
use Rattle.mls_server.proofs.AloneRuns.{alone-both}
use Rattle.mls_server.proofs.EventFrames.{Happens-keeps, Happens-leaves, Keeps, Leaves}
use Rattle.mls_server.proofs.OwnEffects.{ChecksOnce-leads, ChecksTimes-leads, Commands-leads, Leads, Saves-leads, none-leads}
use Rattle.mls_server.proofs.Seats.{not_open-beyond, with_kept-same, without_session-same}
use Rattle.mls_server.specs.Events.{Closes, DoesCommand, DoesFinish, DoesGrab, DoesSettle, DoesStep, DoesSteps, Grabs, Happens, LooksAt, Runs, SavesText}
use Rattle.mls_server.specs.OwnLists.{Adds, AddsIf, HasAnswer, IsToldAlone, Item, OwnList, alone, at, is_of, started, told, told_to}
use Rattle.mls_server.specs.Settings.{Setting, terms_for}
use Rattle.mls_server.specs.Worlds.{IsNumbered, World, kept_in, with_kept, without_session}
use Rattle.mls_server.specs.declared.answer.Answer.{Answer}
use Rattle.mls_server.specs.declared.answer.Answer.TheVariants.{Closed, Commanded, Saved, Looked, Grabbed, Finished, Stepped, SteppedTimes, Settled}
use Rattle.mls_server.specs.declared.event.Event.{Event}
use Rattle.mls_server.specs.declared.event.Event.TheVariants.{Open, Close, Command, Save, Look, Grab, Finish, Step, Steps, Settle}
use Rattle.mls_server.specs.declared.fault.GrabFault.{GrabFault}
use Rattle.mls_server.specs.declared.fault.GrabFault.TheVariants.{NotOpen as NoSession, Memory as OutOfMemory}
use Rattle.mls_server.specs.declared.fault.NotOpen.{NotOpen}

-- ---- where a session stands
-- this is what it keeps, if it is open, and as it is opened, if it is not open but may be
record Stands (on : World) (id : ℕ) (kept : Kept) : Type 0 where
  open_at : (found : Kept) → kept_in on id ≡ Some found → found ≡ kept
  unopened : kept_in on id ≡ None → on.given < id → kept ≡ kept_at_opening on.setting.rules

-- the event adds these items to the session's own list, whose run leads where the session then stands
record Adds-here (own_event : Bool) (terms : Terms) (event : Event) (answer : Answer) (id : ℕ) (before : Kept) (new : World) : Type 0 where
  items : List Item
  after : Kept
  adds : AddsIf own_event event answer items after
  answered : own_event ≡ true → HasAnswer terms event answer before after
  leads : alone terms (at before) items ≡ Some (record { kept = after; replies = cond own_event (told answer) [] })
  stands : Stands new id after

-- ---- one event
module _ (old : World) (numbered : IsNumbered old) (id : ℕ) (kept : Kept) (stood : Stands old id kept) where
  -- the session keeps something else
  changed :
      (event : Event) (answer : Answer) (before after : Kept) (new : World) → kept_in old id ≡ Some before → new ≡ with_kept old id after
      → HasAnswer (terms_for old.setting) event answer before after → Leads (terms_for old.setting) (Adds event answer) (told answer) before after
      → Adds-here true (terms_for old.setting) event answer id kept new
  changed event answer before after new is_open is has led = record {
    items = led.items;
    after = after;
    adds = led.adds;
    answered = λ of. subst (λ (from : Kept). HasAnswer (terms_for old.setting) event answer from after) (stood.open_at before is_open) has;
    leads = ap (λ (first : Kept). alone (terms_for old.setting) (at first) led.items) (sym (stood.open_at before is_open)) ∙ led.leads;
    stands = subst (λ (on : World). Stands on id after) (sym is) (record {
      open_at = λ last found. same_Some last after (sym found ∙ with_kept-same old id after before is_open);
      unopened = λ none unused. let found : kept_in (with_kept old id after) id ≡ Some after = with_kept-same old id after before is_open in absurd cc;
    });
  }

  -- nothing changes
  unchanged :
      (event : Event) (answer : Answer) (new : World) → new ≡ old → Adds event answer [] kept → HasAnswer (terms_for old.setting) event answer kept kept → told answer ≡ []
      → Adds-here true (terms_for old.setting) event answer id kept new
  unchanged event answer new is adds has nothing = record {
    items = [];
    after = kept;
    adds = adds;
    answered = λ of. has;
    leads = ap (λ (said : List Reply). Some (record { kept = kept; replies = said })) (sym nothing);
    stands = subst (λ (on : World). Stands on id kept) (sym is) stood;
  }

  -- a session that is closed never opens again
  closed : kept_in old id ≢ None → Stands (without_session old id) id kept
  closed was_open = record {
    open_at = λ last found. let none : kept_in (without_session old id) id ≡ None = without_session-same old id in absurd cc;
    unopened = λ none beyond. absurd (was_open (not_open-beyond old id numbered beyond));
  }

  of_close : (result : Result (Unit {0}) NotOpen) (new : World) → Closes old id result new → Adds-here true (terms_for old.setting) (Close id) (Closed result) id kept new
  of_close (Ok done) new (was_open, is) =
      record {
        items = [];
        after = kept;
        adds = refl;
        answered = λ of. tt;
        leads = refl;
        stands = subst (λ (on : World). Stands on id kept) (sym is) (closed was_open);
      }
  of_close (Err fault) new (none, is) = unchanged (Close id) (Closed (Err fault)) new is refl tt refl

  of_command :
      (command : OwnCommand) (result : Result Reply NotOpen) (new : World) → DoesCommand old id command result new
      → Adds-here true (terms_for old.setting) (Command id command) (Commanded result) id kept new
  of_command command (Ok reply) new (before, after, is_open, does, is) =
      changed (Command id command) (Commanded (Ok reply)) before after new is_open is does (Commands-leads (terms_for old.setting) before command reply after does)
  of_command command (Err fault) new (none, is) = unchanged (Command id command) (Commanded (Err fault)) new is refl tt refl

  of_save :
      (result : Result Reply NotOpen) (text : List ℕ) (new : World) → SavesText old id result text new
      → Adds-here true (terms_for old.setting) (Save id) (Saved result text) id kept new
  of_save (Ok reply) text new (before, after, is_open, saves, is) =
      changed (Save id) (Saved (Ok reply) text) before after new is_open is saves
      (Saves-leads (terms_for old.setting) before reply text after saves)
  of_save (Err fault) text new (none, empty, is) = unchanged (Save id) (Saved (Err fault) text) new is refl empty refl

  of_look :
      (look : OwnLook) (result : Result OwnLooked NotOpen) (text : List ℕ) (new : World) → LooksAt old id look result text → new ≡ old
      → Adds-here true (terms_for old.setting) (Look id look) (Looked result text) id kept new
  of_look look (Ok looked) text new (before, is_open, looks) is =
      unchanged (Look id look) (Looked (Ok looked) text) new is refl
      (subst (λ (from : Kept). Looks (terms_for old.setting) from look looked text) (stood.open_at before is_open) looks) refl
  of_look look (Err fault) text new (none, empty) is = unchanged (Look id look) (Looked (Err fault) text) new is refl empty refl

  of_grab :
      (result : Result (Option Job) GrabFault) (new : World) → DoesGrab old id result new
      → Adds-here true (terms_for old.setting) (Grab id) (Grabbed result) id kept new
  of_grab (Ok job) new (before, is_open, next, is) = unchanged (Grab id) (Grabbed (Ok job)) new is refl (subst (λ (from : Kept). Grabs (terms_for old.setting) from job) (stood.open_at before is_open) next) refl
  of_grab (Err NoSession) new (none, is) = unchanged (Grab id) (Grabbed (Err NoSession)) new is refl tt refl
  of_grab (Err OutOfMemory) new (before, is_open, some, is) = unchanged (Grab id) (Grabbed (Err OutOfMemory)) new is refl tt refl

  Finishes-leads :
      (finding : Finding) (before : Kept) (outcome : Outcome) (after : Kept) → Finishes (terms_for old.setting) before finding outcome after
      → Leads (terms_for old.setting) (Adds (Finish id finding) (Finished (Ok outcome))) [] before after
  Finishes-leads finding before FindingFinished after (fresh, checks) = ChecksOnce-leads (terms_for old.setting) before after checks
  Finishes-leads finding before Stale after (stale, is) = none-leads (terms_for old.setting) before after is
  Finishes-leads finding before FindingFull after (fresh, refused, is) = none-leads (terms_for old.setting) before after is

  of_finish :
      (finding : Finding) (result : Result Outcome NotOpen) (new : World) → DoesFinish old id finding result new
      → Adds-here true (terms_for old.setting) (Finish id finding) (Finished result) id kept new
  of_finish finding (Ok outcome) new (before, after, is_open, finishes, is) =
      changed (Finish id finding) (Finished (Ok outcome)) before after new is_open is finishes (Finishes-leads finding before outcome after finishes)
  of_finish finding (Err fault) new (none, is) = unchanged (Finish id finding) (Finished (Err fault)) new is refl tt refl

  StepsOnce-leads :
      (before : Kept) (end : StepEnd) (after : Kept) → StepsOnce (terms_for old.setting) before end after
      → Leads (terms_for old.setting) (Adds (Step id) (Stepped (Ok end))) [] before after
  StepsOnce-leads before StepDone after checks = ChecksOnce-leads (terms_for old.setting) before after checks
  StepsOnce-leads before Idle after (clean, is) = none-leads (terms_for old.setting) before after is
  StepsOnce-leads before Full after (some, refused, is) = none-leads (terms_for old.setting) before after is
  StepsOnce-leads before StepMemory after (some, is) = none-leads (terms_for old.setting) before after is

  of_step :
      (result : Result StepEnd NotOpen) (new : World) → DoesStep old id result new → Adds-here true (terms_for old.setting) (Step id) (Stepped result) id kept new
  of_step (Ok end) new (before, after, is_open, steps, is) =
      changed (Step id) (Stepped (Ok end)) before after new is_open is steps (StepsOnce-leads before end after steps)
  of_step (Err fault) new (none, is) = unchanged (Step id) (Stepped (Err fault)) new is refl tt refl

  of_steps :
      (most : ℕ) (result : Result StepRun NotOpen) (new : World) → DoesSteps old id most result new
      → Adds-here true (terms_for old.setting) (Steps id most) (SteppedTimes result) id kept new
  of_steps most (Ok run) new (before, after, is_open, (checks, ended), is) =
      changed (Steps id most) (SteppedTimes (Ok run)) before after new is_open is (checks, ended) (ChecksTimes-leads (terms_for old.setting) run.done before after checks)
  of_steps most (Err fault) new (none, is) = unchanged (Steps id most) (SteppedTimes (Err fault)) new is refl tt refl

  of_settle :
      (result : Result ℕ NotOpen) (new : World) → DoesSettle old id result new → Adds-here true (terms_for old.setting) (Settle id) (Settled result) id kept new
  of_settle (Ok count) new (before, after, is_open, checks, is) =
      changed (Settle id) (Settled (Ok count)) before after new is_open is checks (ChecksTimes-leads (terms_for old.setting) count before after checks)
  of_settle (Err fault) new (none, is) = unchanged (Settle id) (Settled (Err fault)) new is refl tt refl

  -- an event of this session, which is of this id
  module _ (answer : Answer) (new : World) where
    abbrev AddsHere : Event → Answer → Type 0
    AddsHere event said = Adds-here true (terms_for old.setting) event said id kept new

    at_id :
        (event : ℕ → Event) (number : ℕ) → (number == id) ≡ true → (Happens old (event id) answer new → AddsHere (event id) answer)
        → Happens old (event number) answer new → AddsHere (event number) answer
    at_id event number of adds happens =
        let same : number ≡ id = eqb-true number id of in
        subst (λ (other : ℕ). AddsHere (event other) answer) (sym same) (adds (subst (λ (other : ℕ). Happens old (event other) answer new) same happens))

    own_event : (event : Event) → is_of id event ≡ true → Happens old event answer new → AddsHere event answer
    own_event (Open name) of happens = absurd cc
    own_event (Close number) of happens =
        at_id (λ other. Close other) number of (λ does. subst (AddsHere (Close id)) (sym does.1) (of_close does.0 new does.2)) happens
    own_event (Command number command) of happens =
        at_id (λ other. Command other command) number of (λ does. subst (AddsHere (Command id command)) (sym does.1) (of_command command does.0 new does.2)) happens
    own_event (Save number) of happens =
        at_id (λ other. Save other) number of (λ does. subst (AddsHere (Save id)) (sym does.2) (of_save does.0 does.1 new does.3)) happens
    own_event (Look number look) of happens =
        at_id (λ other. Look other look) number of
        (λ does. subst (AddsHere (Look id look)) (sym does.2) (of_look look does.0 does.1 new does.3 does.4)) happens
    own_event (Grab number) of happens =
        at_id (λ other. Grab other) number of (λ does. subst (AddsHere (Grab id)) (sym does.1) (of_grab does.0 new does.2)) happens
    own_event (Finish number finding) of happens =
        at_id (λ other. Finish other finding) number of (λ does. subst (AddsHere (Finish id finding)) (sym does.1) (of_finish finding does.0 new does.2)) happens
    own_event (Step number) of happens =
        at_id (λ other. Step other) number of (λ does. subst (AddsHere (Step id)) (sym does.1) (of_step does.0 new does.2)) happens
    own_event (Steps number most) of happens =
        at_id (λ other. Steps other most) number of (λ does. subst (AddsHere (Steps id most)) (sym does.1) (of_steps most does.0 new does.2)) happens
    own_event (Settle number) of happens =
        at_id (λ other. Settle other) number of (λ does. subst (AddsHere (Settle id)) (sym does.1) (of_settle does.0 new does.2)) happens

  -- one of another session, or one that opens this
  left : (new : World) → Keeps old new → Leaves old id new → Stands new id kept
  left new keeps (inl same) = record {
    open_at = λ last found. stood.open_at last (sym same ∙ found);
    unopened = λ none beyond.
        let given : old.given ≤ new.given = keeps.given in
        let early : old.given < id = omega arith in
        stood.unopened (sym same ∙ none) early ∙ ap (λ (setting : Setting). kept_at_opening setting.rules) (sym keeps.setting);
  }
  left new keeps (inr (next, opened)) =
      let beyond : old.given < id = omega arith in
      record {
        open_at = λ last found.
            same_Some last (kept_at_opening old.setting.rules) (sym found ∙ opened) ∙ sym (stood.unopened (not_open-beyond old id numbered beyond) beyond);
        unopened = λ none later. absurd cc;
      }

  Happens-adds : (event : Event) (answer : Answer) (new : World) → Happens old event answer new → Adds-here (is_of id event) (terms_for old.setting) event answer id kept new
  Happens-adds event answer new happens = by_test (is_of id event) refl
    where
      by_test : (test : Bool) → is_of id event ≡ test → Adds-here test (terms_for old.setting) event answer id kept new
      by_test true of = own_event answer new event of happens
      by_test false not_of = record {
        items = [];
        after = kept;
        adds = refl;
        answered = λ of. absurd cc;
        leads = refl;
        stands = left new (Happens-keeps old event answer new happens) (Happens-leaves old numbered id event answer new not_of happens);
      }

-- ---- runs
-- the alone run of an own list has the replies that the session is told
pub OwnList-alone :
    (terms : Terms) (id : ℕ) (kept : Kept) (events : List Event) (answers : List Answer) (items : List Item) (last : Kept)
    → OwnList terms id kept events answers items last → alone terms (at kept) items ≡ Some (record { kept = last; replies = told_to id events answers })
OwnList-alone terms id kept [] answers items last (none, same) =
    ap (alone terms (at kept)) none ∙ ap (λ (reached : Kept). Some (at reached)) (sym same)
OwnList-alone terms id kept (event ∷ events) [] items last never = absurd never
OwnList-alone terms id kept (event ∷ events) (answer ∷ answers) items last (first, rest, mid, adds, answered, ran, list, joined) =
    ap (alone terms (at kept)) joined
    ∙ alone-both terms kept mid last first rest (cond (is_of id event) (told answer) []) (told_to id events answers) ran
    (OwnList-alone terms id mid events answers rest last list)

-- the items of the session's own list, and where it then stands
record IsTold (setting : Setting) (id : ℕ) (kept : Kept) (events : List Event) (answers : List Answer) (new : World) : Type 0 where
  items : List Item
  last : Kept
  own_list : OwnList (terms_for setting) id kept events answers items last
  stands : Stands new id last

Runs-told :
    (id : ℕ) (old new : World) (kept : Kept) (events : List Event) (answers : List Answer) → IsNumbered old → Stands old id kept
    → Runs old events answers new → IsTold old.setting id kept events answers new
Runs-told id old new kept [] [] numbered stood ran =
    record { items = []; last = kept; own_list = (refl, refl); stands = subst (λ (on : World). Stands on id kept) (sym ran) stood }
Runs-told id old new kept [] (answer ∷ answers) numbered stood never = absurd never
Runs-told id old new kept (event ∷ events) [] numbered stood never = absurd never
Runs-told id old new kept (event ∷ events) (answer ∷ answers) numbered stood (mid, happens, ran) =
    let here : Adds-here (is_of id event) (terms_for old.setting) event answer id kept mid = Happens-adds old numbered id kept stood event answer mid happens in
    let keeps : Keeps old mid = Happens-keeps old event answer mid happens in
    let later : IsTold mid.setting id here.after events answers new =
    Runs-told id mid new here.after events answers (keeps.numbered numbered) here.stands ran in
    record {
      items = here.items ++ later.items;
      last = later.last;
      own_list = (
        here.items,
        later.items,
        here.after,
        here.adds,
        here.answered,
        here.leads,
        subst (λ (setting : Setting). OwnList (terms_for setting) id here.after events answers later.items later.last) keeps.setting later.own_list,
        refl,
      );
      stands = later.stands;
    }

-- ---- the headline
started_stands : (old : World) (id : ℕ) → Stands old id (started old id)
started_stands old id = by_kept (kept_in old id) refl
  where
    by_kept : (found : Option Kept) → kept_in old id ≡ found → Stands old id (unwrap_or found (kept_at_opening old.setting.rules))
    by_kept None at_none = record { open_at = λ kept found. absurd cc; unopened = λ none beyond. refl }
    by_kept (Some first) at_some = record {
      open_at = λ kept found. same_Some kept first (sym found ∙ at_some);
      unopened = λ none beyond. absurd cc;
    }

leads_there : (new : World) (id : ℕ) (last : Kept) → Stands new id last → IfSome (kept_in new id) (λ kept. kept ≡ last)
leads_there new id last stands = by_kept (kept_in new id) refl
  where
    by_kept : (found : Option Kept) → kept_in new id ≡ found → IfSome found (λ kept. kept ≡ last)
    by_kept None at_none = tt
    by_kept (Some kept) at_some = stands.open_at kept at_some

-- whatever the other sessions do, and however often memory runs out
pub Runs-IsToldAlone :
    (old new : World) (events : List Event) (answers : List Answer) → IsNumbered old → Runs old events answers new → (id : ℕ)
    → IsToldAlone old id events answers new
Runs-IsToldAlone old new events answers numbered ran id =
    let told_here : IsTold old.setting id (started old id) events answers new =
    Runs-told id old new (started old id) events answers numbered (started_stands old id) ran in
    record {
      items = told_here.items;
      last = told_here.last;
      own_list = told_here.own_list;
      replies = OwnList-alone (terms_for old.setting) id (started old id) events answers told_here.items told_here.last told_here.own_list;
      leads = leads_there new id told_here.last told_here.stands;
    }
