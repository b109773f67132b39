-- What a line says that runs a command.
use Rattle.std.proofs.Common.{◌≡◌, ℕ, suc, ◌≤◌, true, List, [], ◌∷◌, length, All, Option, Some, None, Result, Ok, Err, IfOk, refl, arith, codes}
use Rattle.std.specs.Prelude.{⊤}
use Rattle.std.proofs.lemmas.Bool.{cond_both}
use Rattle.std.proofs.lemmas.List.Elements.{All-tail, All-weaker}
use Rattle.mls_server.proofs.mls_library.SavedLines.{IsWord}
use Rattle.mls_server.specs.SessionNames.{is_session_name}
use Rattle.mls_server.specs.mls_session.declared.command.Command.{Command}
use Rattle.mls_text.specs.Lines.{IsUnbroken}
use Rattle.mls_text.specs.Words.{begins_with, same_word, words_of}
use Rattle.mls_wire.specs.JournalLines.{command_words}
use Rattle.mls_wire.specs.ReadBack.{NamesReadBack}
use Rattle.mls_wire.specs.NameBooks.{Names, SessionIds}
use Rattle.mls_wire.specs.Says.{asked_by, asked_in, asked_of, asking_says, asks_says, command_of, line_asking, line_says, line_with, open_says, run_by, session_says, words_say}
use Rattle.mls_wire.specs.declared.line.Line.{Line}
use Rattle.mls_wire.specs.declared.line.Line.TheVariants.{Silent, Open, Close, Step, Steps, Audit, Look, Run}
use Rattle.mls_wire.specs.declared.line.LineFault.{LineFault}
use Rattle.mls_wire.specs.declared.line.LineFault.TheVariants.{UnknownCommand, BadName}
use Rattle.mls_wire.specs.declared.parse.Asked.{Asked}
use Rattle.mls_wire.specs.declared.parse.Asked.TheVariants.{Close as AsksClose, Step as AsksStep, Steps as AsksSteps, Audit as AsksAudit, Look as AsksLook}
use Rattle.mls_wire.specs.declared.parse.Asking.{Asking}
use Rattle.mls_wire.proofs.CommandLengths.{IsWithin, command_of-within}
use Rattle.mls_wire.proofs.SpelledCommands.{IsSpelled, choice, command_of-spelled}
use Rattle.mls_wire.proofs.WrittenWords.{IsWord-words_of, unbroken-words_of}
use Rattle.mls_wire.proofs.WrittenLengths.{width, width-words_of}

-- and a line that runs one, which is written in no more bytes
abbrev pub IsRun : Names → SessionIds → (List ℕ → Type 0) → ℕ → Line → Type 0
IsRun book ids Is most (Run name id command) =
    (is_session_name name ≡ true) × (ids name ≡ Some id) × IsSpelled book Is command × (width (name ∷ command_words book command) ≤ most)
IsRun book ids Is most Silent = ⊤
IsRun book ids Is most (Open name) = ⊤
IsRun book ids Is most (Close name id) = ⊤
IsRun book ids Is most (Step name id) = ⊤
IsRun book ids Is most (Steps name id count) = ⊤
IsRun book ids Is most (Audit name id) = ⊤
IsRun book ids Is most (Look name id look) = ⊤

module _ (Is : List ℕ → Type 0) (is-word : (word : List ℕ) → Is word → IsWord word) (book : Names) (ids : SessionIds) (names : NamesReadBack book) (most : ℕ) where
  run_by-run : (name : List ℕ) (command : Command) → is_session_name name ≡ true → IsSpelled book Is command → width (name ∷ command_words book command) ≤ most
      → (session : Option ℕ) → ids name ≡ session → IfOk (run_by name command session) (IsRun book ids Is most)
  run_by-run name command is spelled within None opened = tt
  run_by-run name command is spelled within (Some id) opened = (is, opened, spelled, within)

  line_with-run : (name : List ℕ) (words : List (List ℕ)) → is_session_name name ≡ true → width (name ∷ words) ≤ most → (r : Result Command LineFault)
      → IfOk r (IsSpelled book Is) → IfOk r (IsWithin book names words) → IfOk (line_with ids name r) (IsRun book ids Is most)
  line_with-run name words is fits (Ok command) spelled within = run_by-run name command is spelled (omega (arith, fits, within)) (ids name) refl
  line_with-run name words is fits (Err fault) spelled within = tt

  session-run : (name : List ℕ) (words : List (List ℕ)) → All Is words → width (name ∷ words) ≤ most → IfOk (session_says book ids name words) (IsRun book ids Is most)
  unfolding session_says
  session-run name words are fits =
      cond_both (is_session_name name) (line_with ids name (command_of book words)) (Err BadName) (λ r. IfOk r (IsRun book ids Is most))
      (λ is. line_with-run name words is fits (command_of book words) (command_of-spelled Is book names words are) (command_of-within book names words (All-weaker Is IsWord is-word words are))) (λ _. tt)

  open-run : (words : List (List ℕ)) → IfOk (open_says words) (IsRun book ids Is most)
  unfolding open_says
  open-run [] = tt
  open-run (name ∷ []) = choice (IsRun book ids Is most) (is_session_name name) (Ok (Open name)) (Err BadName) tt tt
  open-run (name ∷ more ∷ words) = choice (IsRun book ids Is most) (is_session_name name) (Err UnknownCommand) (Err BadName) tt tt

  asked-run : (asked : Asked) (name : List ℕ) (session : Option ℕ) → IfOk (asked_of asked name session) (IsRun book ids Is most)
  asked-run asked name None = tt
  asked-run AsksClose name (Some id) = tt
  asked-run AsksStep name (Some id) = tt
  asked-run (AsksSteps count) name (Some id) = tt
  asked-run AsksAudit name (Some id) = tt
  asked-run (AsksLook look) name (Some id) = tt

  line_asking-run : (name : List ℕ) (r : Result Asked LineFault) → IfOk (line_asking ids name r) (IsRun book ids Is most)
  line_asking-run name (Ok asked) = asked-run asked name (ids name)
  line_asking-run name (Err fault) = tt

  asks-run : (asking : Asking) (words : List (List ℕ)) → IfOk (asks_says ids asking words) (IsRun book ids Is most)
  unfolding asks_says
  asks-run asking [] = tt
  asks-run asking (name ∷ words) = choice (IsRun book ids Is most) (is_session_name name) _ (Err BadName) (line_asking-run name (asked_in asking words)) tt

  asking-run : (asking : Option Asking) (words : List (List ℕ)) → IfOk (asking_says ids asking words) (IsRun book ids Is most)
  asking-run None words = tt
  asking-run (Some asking) words = asks-run asking words

  words-run : (words : List (List ℕ)) → All Is words → width words ≤ most → IfOk (words_say book ids words) (IsRun book ids Is most)
  unfolding words_say
  words-run [] are fits = tt
  words-run (word ∷ words) are fits =
      choice (IsRun book ids Is most) (same_word word (codes "%open")) _ _ (open-run words)
      (choice (IsRun book ids Is most) (begins_with 37 word) _ _ (asking-run (asked_by word) words) (session-run word words (All-tail Is word words are) fits))

-- a word of a line, which has a line feed only where the line has one
pub record IsPart (line word : List ℕ) : Type 0 where
  pub solid : IsWord word
  pub unbroken : IsUnbroken line → IsUnbroken word

parts-from : (line : List ℕ) (words : List (List ℕ)) → All IsWord words → (IsUnbroken line → All IsUnbroken words) → All (IsPart line) words
parts-from line words solid unbroken k d within = record { solid = solid k d within; unbroken = λ whole. unbroken whole k d within }

-- what a line says that runs a command
pub line-run : (book : Names) (ids : SessionIds) → NamesReadBack book → (line : List ℕ) → IfOk (line_says book ids (Some line)) (IsRun book ids (IsPart line) (suc (length line)))
unfolding line_says
line-run book ids names line =
    choice (IsRun book ids (IsPart line) (suc (length line))) (begins_with 35 line) (Ok Silent) _ tt
    (words-run (IsPart line) (λ word is. is.solid) book ids names (suc (length line)) (words_of line)
    (parts-from line (words_of line) (IsWord-words_of line) (unbroken-words_of line)) (width-words_of line))
