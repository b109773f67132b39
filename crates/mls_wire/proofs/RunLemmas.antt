-- Runs of lines.
use Rattle.std.proofs.Common.{◌≡◌, ℕ, ◌+◌, Option, List, [], ◌∷◌, ◌++◌, Result, Ok, Err, length, refl, sym, ap, subst, ◌∙◌, arith, append_assoc, append-nil}
use Rattle.mls_server.proofs.ToldAlone.{Runs-IsToldAlone}
use Rattle.mls_server.specs.Events.{Runs}
use Rattle.mls_server.specs.Worlds.{IsNumbered, World}
use Rattle.mls_server.specs.declared.answer.Answer.{Answer}
use Rattle.mls_server.specs.declared.event.Event.{Event}
use Rattle.mls_server.specs.declared.event.Event.TheVariants.{Open as OpenEvent, Close as CloseEvent, Look as LookEvent, Step as StepEvent, Steps as StepsEvent}
use Rattle.mls_wire.specs.Runs.{AreToldAlone, Asks, Executes, RunsLine, RunsLines, answers_of, command_event, events_of, says_in}
use Rattle.mls_wire.specs.declared.line.Line.{Line}
use Rattle.mls_wire.specs.declared.line.Line.TheVariants.{Silent, Open, Close, Step, Steps, Audit, Look, Run}
use Rattle.mls_wire.specs.declared.line.LineFault.{LineFault}
use Rattle.mls_wire.specs.declared.response.Response.{Response}

-- one more line at the end
pub RunsLines-snoc : (old mid new : World) (n : ℕ) (lines : List (Option (List ℕ))) (line : Option (List ℕ)) (out text : List ℕ)
    (events asked : List Event) (answers answered : List Answer)
    → RunsLines old n lines out events answers mid → RunsLine mid (n + length lines) line text asked answered new
    → RunsLines old n (lines ++ line ∷ []) (out ++ text) (events ++ asked) (answers ++ answered) new
RunsLines-snoc old mid new n [] line out text events asked answers answered runs run =
    let number : n + 0 ≡ n = omega arith in (
      text,
      asked,
      answered,
      new,
      [],
      [],
      [],
      subst (λ on. RunsLine on n line text asked answered new) runs.3 (subst (λ k. RunsLine mid k line text asked answered new) number run),
      (refl, refl, refl, refl),
      ap (λ l. l ++ text) runs.0 ∙ sym (append-nil text),
      ap (λ l. l ++ asked) runs.1 ∙ sym (append-nil asked),
      ap (λ l. l ++ answered) runs.2 ∙ sym (append-nil answered),
    )
RunsLines-snoc old mid new n (first ∷ lines) line out text events asked answers answered runs run =
    let number : n + length (first ∷ lines) ≡ n + 1 + length lines = omega arith in (
      runs.0,
      runs.1,
      runs.2,
      runs.3,
      runs.4 ++ text,
      runs.5 ++ asked,
      runs.6 ++ answered,
      runs.7,
      RunsLines-snoc runs.3 mid new (n + 1) lines line runs.4 text runs.5 asked runs.6 answered runs.8
          (subst (λ k. RunsLine mid k line text asked answered new) number run),
      ap (λ l. l ++ text) runs.9 ∙ append_assoc runs.0 runs.4 text,
      ap (λ l. l ++ asked) runs.10 ∙ append_assoc runs.1 runs.5 asked,
      ap (λ l. l ++ answered) runs.11 ∙ append_assoc runs.2 runs.6 answered,
    )

-- ---- the events of lines

asks_run : (old new : World) (name : List ℕ) (event : Event) (response : Response) → Asks old name event response new → Runs old (event ∷ []) (answers_of response) new
asks_run old new name event response asks = subst (λ given. Runs old (event ∷ []) (answers_of given) new) (sym asks.1) (new, asks.2, refl)

executed_run : (old new : World) (said : Result Line LineFault) (response : Response) → Executes old said response new → Runs old (events_of said) (answers_of response) new
executed_run old new (Err fault) response did = subst (λ given. Runs old [] (answers_of given) new) (sym did.0) did.1
executed_run old new (Ok Silent) response did = subst (λ given. Runs old [] (answers_of given) new) (sym did.0) did.1
executed_run old new (Ok (Open name)) response did = asks_run old new name (OpenEvent name) response did
executed_run old new (Ok (Close name id)) response did = asks_run old new name (CloseEvent id) response did
executed_run old new (Ok (Step name id)) response did = asks_run old new name (StepEvent id) response did
executed_run old new (Ok (Steps name id most)) response did = asks_run old new name (StepsEvent id most) response did
executed_run old new (Ok (Audit name id)) response did = subst (λ given. Runs old [] (answers_of given) new) (sym did.2) did.3
executed_run old new (Ok (Look name id look)) response did = asks_run old new name (LookEvent id look) response did
executed_run old new (Ok (Run name id command)) response did = asks_run old new name (command_event id command) response did

line_run : (old new : World) (n : ℕ) (line : Option (List ℕ)) (text : List ℕ) (events : List Event) (answers : List Answer)
    → RunsLine old n line text events answers new → Runs old events answers new
line_run old new n line text events answers run =
    subst (λ given. Runs old given answers new) (sym run.3)
    (subst (λ given. Runs old (events_of (says_in old line)) given new) (sym run.4)
    (executed_run old new (says_in old line) run.0 run.1))

runs_append : (old mid new : World) (events more_events : List Event) (answers more_answers : List Answer)
    → Runs old events answers mid → Runs mid more_events more_answers new → Runs old (events ++ more_events) (answers ++ more_answers) new
runs_append old mid new [] more_events [] more_answers runs more = subst (λ on. Runs on more_events more_answers new) runs more
runs_append old mid new [] more_events (answer ∷ answers) more_answers runs more = absurd runs
runs_append old mid new (event ∷ events) more_events [] more_answers runs more = absurd runs
runs_append old mid new (event ∷ events) more_events (answer ∷ answers) more_answers runs more =
    (runs.0, runs.1, runs_append runs.0 mid new events more_events answers more_answers runs.2 more)

-- the events of lines are a run of the server
pub RunsLines-Runs : (old new : World) (n : ℕ) (lines : List (Option (List ℕ))) (out : List ℕ) (events : List Event) (answers : List Answer)
    → RunsLines old n lines out events answers new → Runs old events answers new
RunsLines-Runs old new n [] out events answers runs =
    subst (λ given. Runs old given answers new) (sym runs.1) (subst (λ given. Runs old [] given new) (sym runs.2) runs.3)
RunsLines-Runs old new n (line ∷ lines) out events answers runs =
    subst (λ given. Runs old given answers new) (sym runs.10)
    (subst (λ given. Runs old (runs.1 ++ runs.5) given new) (sym runs.11)
    (runs_append old runs.3 new runs.1 runs.5 runs.2 runs.6
    (line_run old runs.3 n line runs.0 runs.1 runs.2 runs.7) (RunsLines-Runs runs.3 new (n + 1) lines runs.4 runs.5 runs.6 runs.8)))

-- each session is told alone what it is told in the events of lines
pub RunsLines-alone : (old new : World) (n : ℕ) (lines : List (Option (List ℕ))) (out : List ℕ) (events : List Event) (answers : List Answer)
    → IsNumbered old → RunsLines old n lines out events answers new → AreToldAlone old events answers new
RunsLines-alone old new n lines out events answers numbered runs =
    Runs-IsToldAlone old new events answers numbered (RunsLines-Runs old new n lines out events answers runs)
