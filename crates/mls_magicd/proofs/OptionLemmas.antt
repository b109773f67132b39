-- The parser's results, by the definitions of the command line.
use Rattle.std.proofs.Common.{◌≡◌, ◌∙◌, ℕ, Bool, ◌||◌, List, [], Option, Some, None, true, false, inl, inr, ap, ap₂, refl, sym, subst, codes, unwrap_or}
use Rattle.std.specs.List.{All}
use Rattle.std.proofs.lemmas.List.Elements.{All-nil, All-push}
use Rattle.clap.proofs.WalkLemmas.{first_value-rows, one_text-rows, raw_values-rows}
use Rattle.clap.specs.Words.{App, Text, AddsArg, IsPlain, IsPlainArg, all_of, args_of, groups_of, HasKind, HasMatchesOf, IsAmong, Kinds, Rule, app_of, fault_of, first_of, first_value, found_of, is_simple, is_simple_and_free, kind_of, matches_of, one_of, one_text, rows_of, rule_of, with_rule}
use Rattle.clap.specs.Built.{IsParsedFrom}
use Rattle.clap.specs.declared.builder.arg.Arg.{Arg}
use Rattle.clap.specs.declared.builder.command.Command.{Command}
use Rattle.clap.specs.declared.builder.command.Command.TheViews.{out-Command}
use Rattle.clap.specs.declared.error.Error.{Error}
use Rattle.clap.specs.declared.error.kind.ErrorKind.TheVariants.{OutOfMemory}
use Rattle.clap.specs.declared.parser.matches.ArgMatches.{ArgMatches}
use Rattle.mls_magicd.proofs.NumberTexts.{StandsAt, number-text}
use Rattle.mls_magicd.specs.CommandLines.{IsOwnArg, IsOwnCommand, NumberOption, magicd, cell_words, bad_word, faults_in, words_found, IsBadWord, IsFoundNumber, IsNumberFor, IsNumberOf, IsNumberText, file_named, live_named, number_given, IsParserFault, IsRefusedBy}
use Rattle.mls_magicd.specs.declared.options.OptionsFault.{OptionsFault}
use Rattle.mls_magicd.specs.declared.options.OptionsFault.TheVariants.{Memory, Refused, BadCell}

-- one argument more
adds-rule : (old new : Command) (a : Arg) (app : App) (rule : Rule) → app_of old ≡ app → AddsArg old a new → rule_of a ≡ rule → a.global ≡ false
    → app_of new ≡ with_rule app rule
adds-rule old new a app rule before added is local = added.shape local ∙ ap₂ with_rule before is

pub magicd-simple : is_simple magicd ≡ true
unfolding magicd
magicd-simple = refl

pub magicd-free : is_simple_and_free magicd ≡ true
unfolding magicd
magicd-free = refl

-- words that are refused, and not since memory ran out, have a fault
pub refused-for_fault : (words : List Text) (command : Command) (error : Error) (fault : OptionsFault) → app_of command ≡ magicd
    → (is_simple_and_free (app_of command) ≡ true → HasKind (fault_of (app_of command) words) error)
    → (kind_of error ≡ OutOfMemory → fault ≡ Memory) → IsParserFault fault → IsRefusedBy words fault
unfolding faults_in
refused-for_fault words command error Memory built fails memory parser = tt
refused-for_fault words command error (BadCell word) built fails memory parser = absurd parser
refused-for_fault words command error (Refused text) built fails memory parser =
    λ none. elim (fails (ap is_simple_and_free built ∙ magicd-free)) [
      | inl wants ↦ let bad : Refused text ≡ Memory = memory wants in cc
      | inr among ↦ subst (λ (kinds : Kinds). IsAmong (kind_of error) kinds) (ap (λ (a : App). fault_of a words) built ∙ none) among
    ]

-- words that are taken have no fault
pub taken-no_fault : (words : List Text) (command : Command) → app_of command ≡ magicd
    → (is_simple_and_free (app_of command) ≡ true → fault_of (app_of command) words ≡ []) → faults_in words ≡ []
unfolding faults_in
taken-no_fault words command built none =
    ap (λ (a : App). fault_of a words) (sym built) ∙ none (ap is_simple_and_free built ∙ magicd-free)

-- the rows that the parser found are those of the words
rows-of_words : (words : List Text) (command : Command) (m : ArgMatches) → app_of command ≡ magicd → HasMatchesOf (app_of command) words m
    → rows_of (found_of m) ≡ matches_of magicd words
rows-of_words words command m built matches =
    (matches (ap is_simple built ∙ magicd-simple)).0 ∙ ap (λ (a : App). matches_of a words) built

pub file-named : (words : List Text) (command : Command) (m : ArgMatches) → app_of command ≡ magicd → HasMatchesOf (app_of command) words m
    → first_value (found_of m) (codes "tech") ≡ file_named words
unfolding file_named
file-named words command m built matches =
    first_value-rows (found_of m) (codes "tech") ∙ ap (first_of (codes "tech")) (rows-of_words words command m built matches)

number-named : (option : NumberOption) (words : List Text) (command : Command) (m : ArgMatches) → app_of command ≡ magicd → HasMatchesOf (app_of command) words m
    → one_text (found_of m) option.name ≡ number_given option words
unfolding number_given
number-named option words command m built matches =
    one_text-rows (found_of m) option.name ∙ ap (one_of option.name) (rows-of_words words command m built matches)

pub live-named : (words : List Text) (command : Command) (m : ArgMatches) → app_of command ≡ magicd → HasMatchesOf (app_of command) words m
    → one_text (found_of m) (codes "live") ≡ live_named words
unfolding live_named
live-named words command m built matches =
    one_text-rows (found_of m) (codes "live") ∙ ap (one_of (codes "live")) (rows-of_words words command m built matches)

pub cells-named : (words : List Text) (command : Command) (m : ArgMatches) → app_of command ≡ magicd → HasMatchesOf (app_of command) words m
    → words_found (found_of m) ≡ cell_words words
unfolding cell_words
cells-named words command m built matches =
    ap (λ (o : Option (List Text)). unwrap_or o [])
    (raw_values-rows (found_of m) (codes "cells") ∙ ap (all_of (codes "cells")) (rows-of_words words command m built matches))

-- the number is the one that the words name
number-of_words : (option : NumberOption) (words : List Text) (m : ArgMatches) (number : ℕ)
    → one_text (found_of m) option.name ≡ number_given option words
    → IsFoundNumber option (found_of m) number
    → ((text : Text) → one_text (found_of m) option.name ≡ Some text → IsNumberText option text)
    → IsNumberFor option words number
number-of_words option words m number read found is_text = go (number_given option words) read
  where
    go : (o : Option Text) → one_text (found_of m) option.name ≡ o → IsNumberOf option o number
    go None e = found.usual e
    go (Some text) e = found.named text e (is_text text e)

-- the number that was found is the one that the words name
pub number-parsed : (option : NumberOption) (place : ℕ) → StandsAt option place → (words : List Text) (command : Command) (m : ArgMatches) (number : ℕ)
    → app_of command ≡ magicd → HasMatchesOf (app_of command) words m → IsParsedFrom command m → IsPlain command → (out-Command command).has_globals ≡ false
    → IsFoundNumber option (found_of m) number → IsNumberFor option words number
number-parsed option place stands words command m number built matches parsed plain local found =
    number-of_words option words m number (number-named option words command m built matches) found (number-text option place stands command m parsed built plain local)

-- a command with no arguments is plain
pub empty-plain : (command : Command) → args_of command ≡ [] → groups_of command ≡ [] → IsPlain command
empty-plain command args groups = (subst (λ (list : List Arg). All IsPlainArg list) (sym args) (All-nil IsPlainArg), groups)

-- with one argument more the command is still plain, if the argument is
adds-plain : (old : Command) (a : Arg) (new : Command) → AddsArg old a new → IsPlain old → IsPlainArg a → IsPlain new
adds-plain old a new added plain is =
    let same = added.rules in
    let one : IsPlainArg added.arg = (same.exclusive ∙ is.0, same.conflicts ∙ is.1, same.overrides ∙ is.2, same.groups ∙ is.3) in
    (subst (λ (args : List Arg). All IsPlainArg args) (sym added.args) (All-push IsPlainArg (args_of old) added.arg plain.0 one), added.groups ∙ plain.1)

-- nor has it global arguments
adds-local : (old : Command) (a : Arg) (new : Command) → AddsArg old a new → (out-Command old).has_globals ≡ false → a.global ≡ false → (out-Command new).has_globals ≡ false
adds-local old a new added local a_local = added.globals ∙ ap₂ (λ (x y : Bool). x || y) local a_local

-- an argument more that is the command's own
pub adds-own : (old new : Command) (a : Arg) (app : App) (rule : Rule) → IsOwnCommand app old → IsOwnArg rule a → AddsArg old a new → IsOwnCommand (with_rule app rule) new
adds-own old new a app rule before own added = record {
  app = adds-rule old new a app rule before.app added own.rule own.local;
  plain = adds-plain old a new added before.plain own.plain;
  local = adds-local old a new added before.local own.local;
}

-- words that are refused for one that names no cell have no other fault
pub refused-for_word : (words : List Text) (command : Command) (m : ArgMatches) (fault : OptionsFault) → app_of command ≡ magicd → faults_in words ≡ []
    → HasMatchesOf (app_of command) words m → IsBadWord (words_found (found_of m)) fault → IsRefusedBy words fault
refused-for_word words command m Memory built none matches bad = tt
refused-for_word words command m (Refused text) built none matches bad = absurd bad
refused-for_word words command m (BadCell word) built none matches bad =
    (none, subst (λ (found : List Text). bad_word found ≡ Some word.now) (cells-named words command m built matches) bad)
