-- The command line of `magicd`, and what its words mean. This project's own.
use Rattle.std.specs.Prelude.{◌≡◌, ◌≢◌, ◌⊎◌, ℕ, ◌==◌, not, true, false, Option, Some, None, is_some, List, [], ◌∷◌, Result, Ok, Err, pos, codes, find, if◌then◌else◌, map, max, min, option_map, unwrap_or, ⊤}
use Rattle.std.specs.Str.Parse.{digits_value, without_leading_plus}
use Rattle.clap.specs.Words.{App, IsPlain, IsPlainArg, Kinds, Rule, Text, all_of, app_of, fault_of, first_of, IsSignedIn, matched_of, matches_of, new_app, new_rule, one_of, one_text, raw_values, rule_of, with_rule, without_minus}
use Rattle.clap.specs.declared.builder.arg.Arg.{Arg}
use Rattle.clap.specs.declared.builder.command.Command.{Command}
use Rattle.clap.specs.declared.builder.command.Command.TheViews.{out-Command}
use Rattle.clap.specs.declared.builder.action.ArgAction.TheVariants.{Append, SetTrue}
use Rattle.clap.specs.declared.builder.value_parser.ValueParser.TheVariants.{Signed}
use Rattle.clap.specs.declared.parser.matches.Found.{Found}
use Rattle.mls_lines.specs.mls_library.Libraries.{default_cell_tiles, most_tiles as most_cell_tiles}
use Rattle.mls_lines.specs.mls_session.JournalLimits.{most_entries, default_journal_limit}
use Rattle.mls_lines.specs.mls_session.Quotas.{least_quota, most_quota, default_quota}
use Rattle.mls_lines.specs.mls_server.Capacities.{greatest_capacity, default_capacity}
use Rattle.mls_magicd.specs.WorkerCounts.{most_workers, default_workers}
use Rattle.mls_magicd.specs.declared.cell_argument.CellArgument.{CellArgument}
use Rattle.mls_magicd.specs.declared.options.Mode.{Mode}
use Rattle.mls_magicd.specs.declared.options.Mode.TheVariants.{Alone, Batch, Stream}
use Rattle.mls_magicd.specs.declared.options.Options.{Options}
use Rattle.mls_magicd.specs.declared.options.OptionsFault.{OptionsFault}
use Rattle.mls_magicd.specs.declared.options.OptionsFault.TheVariants.{Memory, Refused, BadCell}

-- `--tech FILE`
abbrev pub tech_rule : Rule
tech_rule = record (new_rule (codes "tech")) { long = Some (codes "tech"); value_names = 1 }

-- an option `--NAME N`: its name, the least and the greatest number that it takes, and the number where it isn't given
pub record NumberOption : Type 0 where
  pub name : Text
  pub least : ℕ
  pub most : ℕ
  pub default : ℕ

abbrev pub quota_option : NumberOption
quota_option = record { name = codes "quota"; least = least_quota; most = most_quota; default = default_quota }

abbrev pub pool_option : NumberOption
pool_option = record { name = codes "pool"; least = 1; most = greatest_capacity; default = default_capacity }

abbrev pub journal_option : NumberOption
journal_option = record { name = codes "journal"; least = 1; most = most_entries; default = default_journal_limit }

abbrev pub cell_tiles_option : NumberOption
cell_tiles_option = record { name = codes "cell-tiles"; least = default_cell_tiles; most = most_cell_tiles; default = default_cell_tiles }

abbrev pub workers_option : NumberOption
workers_option = record { name = codes "workers"; least = 0; most = most_workers; default = default_workers }

abbrev pub number_rule : NumberOption → Rule
number_rule option = record (new_rule option.name) { long = Some option.name; value_names = 1; parser = Some (Signed (pos option.least) (pos option.most)) }

-- `--live`
abbrev pub live_rule : Rule
live_rule = record (new_rule (codes "live")) { long = Some (codes "live"); action = Some SetTrue }

-- any number of `NAME=FILE`
abbrev pub cells_rule : Rule
cells_rule = record (new_rule (codes "cells")) { value_names = 1; action = Some Append }

-- the argument has this rule, asks for no more than that, and is one of this command alone
pub record IsOwnArg (stated : Rule) (arg : Arg) : Type 0 where
  pub rule : rule_of arg ≡ stated
  pub plain : IsPlainArg arg
  pub local : arg.global ≡ false

-- so it is of the command, whose arguments ask for no more and are its own
pub record IsOwnCommand (stated : App) (command : Command) : Type 0 where
  pub app : app_of command ≡ stated
  pub plain : IsPlain command
  pub local : (out-Command command).has_globals ≡ false

-- the options, the cells, and the parser's own `--help`
unfoldable pub magicd : App
magicd =
    with_rule (with_rule (with_rule (with_rule (with_rule (with_rule (with_rule (with_rule (new_app (codes "magicd")) tech_rule) (number_rule quota_option)) (number_rule pool_option))
    (number_rule journal_option)) (number_rule cell_tiles_option)) (number_rule workers_option)) live_rule) cells_rule

-- the faults that the parser finds in the words, of which asking for help is one; there are none where it takes them
unfoldable pub faults_in : List Text → Kinds
faults_in words = fault_of magicd words

-- the path after `--tech`
unfoldable pub file_named : List Text → Option Text
file_named words = first_of (codes "tech") (matches_of magicd words)

-- the number after the option, as text
unfoldable pub number_given : NumberOption → List Text → Option Text
number_given option words = one_of option.name (matches_of magicd words)

-- what is noted of `--live`, as text
unfoldable pub live_named : List Text → Option Text
live_named words = one_of (codes "live") (matches_of magicd words)

-- the words ask for lines that are carried out as they come
abbrev pub AskForLive : List Text → Type 0
AskForLive words = live_named words ≡ Some (codes "true")

-- they don't
abbrev pub AskForNoLive : List Text → Type 0
AskForNoLive words = (live_named words ≡ None) ⊎ (live_named words ≡ Some (codes "false"))

-- the words that are no options, and so name cells, in order
unfoldable pub cell_words : List Text → List Text
cell_words words = unwrap_or (all_of (codes "cells") (matches_of magicd words)) []

-- those that a parse found
abbrev pub words_found : Found → List Text
words_found found = unwrap_or (option_map raw_values (matched_of found (codes "cells"))) []

-- ---- numbers

-- the number that the digits write, which a plus may precede
unfoldable pub number_written : Text → ℕ
number_written text = digits_value 10 (without_leading_plus text)

-- the number is the one that the text names, or else the option's default
abbrev pub IsNumberOf : NumberOption → Option Text → ℕ → Type 0
IsNumberOf option None number = number ≡ option.default
IsNumberOf option (Some text) number = number ≡ number_written text

-- it is the one that the words name
abbrev pub IsNumberFor : NumberOption → List Text → ℕ → Type 0
IsNumberFor option words number = IsNumberOf option (number_given option words) number

-- the parser takes the text for a number of the option
abbrev pub IsNumberText : NumberOption → Text → Type 0
IsNumberText option text = (written : Text) × (text ≡ without_minus written) × IsSignedIn (pos option.least) (pos option.most) written

-- the number is the one that a parse found, if the text after the option is one that the parser takes, or else the default
pub record IsFoundNumber (option : NumberOption) (found : Found) (number : ℕ) : Type 0 where
  pub usual : one_text found option.name ≡ None → number ≡ option.default
  pub named : (text : Text) → one_text found option.name ≡ Some text → IsNumberText option text → number ≡ number_written text

-- the option of this name that takes the numbers of a range with a default
abbrev pub ranged_option : Text → ℕ → ℕ → ℕ → NumberOption
ranged_option name least most default = record { name = name; least = least; most = max least most; default = max least (min most default) }

-- ---- the cells

-- a cell's name, and the path of its file
pub record NamedFile : Type 0 where
  pub name : Text
  pub path : Text

-- what a word names, cut at its first `=` (61)
unfoldable pub named_file : Text → Option NamedFile
named_file [] = None
named_file (byte ∷ bytes) =
    if byte == 61 then Some (record { name = []; path = bytes }) else option_map {T = NamedFile} (λ cut. record cut { name = byte ∷ cut.name }) (named_file bytes)

-- each word names one of the files, in order
abbrev pub NamesFiles : List Text → List NamedFile → Type 0
NamesFiles words files = map named_file words ≡ map Some files

-- the first word that has no `=`
unfoldable pub bad_word : List Text → Option Text
bad_word words = find (λ word. not (is_some (named_file word))) words

-- what an argument names
abbrev pub file_of : CellArgument → NamedFile
file_of argument = record { name = argument.name.now; path = argument.path.now }

-- the fault is the first word that has no `=`; out of memory is left open
abbrev pub IsBadWord : List Text → OptionsFault → Type 0
IsBadWord words (BadCell word) = bad_word words ≡ Some word.now
IsBadWord words Memory = ⊤
IsBadWord words (Refused text) = ⊥

-- ---- how the script is served

-- with these options it is served so
unfoldable pub mode_of : Options → Mode
mode_of options = if options.live then Stream else if options.workers == 0 then Alone else Batch

-- ---- the whole line

-- the parser finds no fault in the words, and each word that names a cell has a `=`
abbrev pub AreTaken : List Text → Type 0
AreTaken words = (faults_in words ≡ []) × (bad_word (cell_words words) ≡ None)

-- the words have no fault, and give these options
pub record ParsesAs (words : List Text) (options : Options) : Type 0 where
  pub taken : AreTaken words
  pub tech : option_map (λ path. path.now) options.tech ≡ file_named words
  pub quota : IsNumberFor quota_option words options.quota
  pub pool : IsNumberFor pool_option words options.pool
  pub journal : IsNumberFor journal_option words options.journal
  pub cell_tiles : IsNumberFor cell_tiles_option words options.cell_tiles
  pub workers : IsNumberFor workers_option words options.workers
  pub live : AskForLive words → options.live ≡ true
  pub no_live : AskForNoLive words → options.live ≡ false
  pub cells : NamesFiles (cell_words words) (map file_of options.cells.items)

-- the fault is one of the parser's
abbrev pub IsParserFault : OptionsFault → Type 0
IsParserFault Memory = ⊤
IsParserFault (Refused text) = ⊤
IsParserFault (BadCell word) = ⊥

-- the words are refused for a fault that they have; out of memory is left open
abbrev pub IsRefusedBy : List Text → OptionsFault → Type 0
IsRefusedBy words Memory = ⊤
IsRefusedBy words (Refused text) = faults_in words ≢ []
IsRefusedBy words (BadCell word) = (faults_in words ≡ []) × (bad_word (cell_words words) ≡ Some word.now)

abbrev pub ParsesWords : List Text → Result Options OptionsFault → Type 0
ParsesWords words (Ok options) = ParsesAs words options
ParsesWords words (Err fault) = IsRefusedBy words fault
