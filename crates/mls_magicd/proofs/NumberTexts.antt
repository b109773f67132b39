-- A number after an option that the parser lets through lies in the option's range.
use Rattle.std.proofs.Common.{◌≡◌, ◌∙◌, ◌<◌, ◌==◌, ◌&&◌, ◌||◌, not, Bool, ℕ, zero, suc, ◌⊎◌, true, false, List, [], ◌∷◌, length, map, get_or, Option, Some, None, inl, inr, refl, sym, ap, subst, arith, codes}
use Rattle.std.specs.Borrow.{Bor}
use Rattle.std.specs.List.{All, slice_index_or}
use Rattle.std.specs.Prelude.{option_map, slice_get, pos}
use Rattle.std.specs.Str.{bytes_eq}
use Rattle.std.proofs.lemmas.Bool.{cases_eq, eqb-true, eqb-false}
use Rattle.std.proofs.lemmas.List.{get_or-map, length-map}
use Rattle.std.proofs.lemmas.List.Elements.{All-get_or}
use Rattle.std.proofs.lemmas.Slice.Eq.{bytes_eq-Decides}
use Rattle.clap.proofs.CallerLemmas.{entry_by_id, same_rules_by_id}
use Rattle.clap.specs.Built.{IsParsedFrom, IsPlain, SameRules}
use Rattle.clap.specs.Facts.{Entry, EntryPasses, HasReading, PassesArg, args_of, groups_of, parser_of, parser_of_value}
use Rattle.clap.specs.Matches.{found_of, matched_of, one_text}
use Rattle.clap.specs.Values.{Accepts, IsSignedIn, read_as, reading_of}
use Rattle.clap.specs.Words.{App, Rule, Text, app_of, rule_of}
use Rattle.clap.specs.declared.builder.arg.Arg.{Arg}
use Rattle.clap.specs.declared.builder.command.Command.{Command}
use Rattle.clap.specs.declared.builder.command.Command.TheViews.{out-Command}
use Rattle.clap.specs.declared.builder.value_parser.Reading.{Reading}
use Rattle.clap.specs.declared.builder.value_parser.ValueParser.{ValueParser}
use Rattle.clap.specs.declared.builder.value_parser.ValueParser.TheVariants.{Signed}
use Rattle.clap.specs.declared.parser.matches.ArgMatches.{ArgMatches}
use Rattle.clap.specs.declared.parser.matches.MatchedArg.{MatchedArg}
use Rattle.mls_magicd.specs.CommandLines.{IsNumberText, NumberOption, magicd, tech_rule, number_rule, live_rule, cells_rule, quota_option, pool_option, journal_option, cell_tiles_option, workers_option}

-- the rules of the command's arguments
abbrev pub own_rules : List Rule
own_rules = tech_rule ∷ number_rule quota_option ∷ number_rule pool_option ∷ number_rule journal_option ∷ number_rule cell_tiles_option ∷ number_rule workers_option ∷ live_rule ∷ cells_rule ∷ []

-- at this place stands the rule of the option, at no other one that has its name, which is not empty, and the parser adds none of that name
pub record StandsAt (option : NumberOption) (place : ℕ) : Type 0 where
  pub within : place < 8
  pub rule : get_or own_rules place tech_rule ≡ number_rule option
  pub alone : (j : ℕ) → j < 8 → bytes_eq (get_or own_rules j tech_rule).id option.name ≡ true → j ≡ place
  pub named : option.name ≡ [] → ⊥
  pub own : (option.name ≡ codes "help") ⊎ (option.name ≡ codes "version") → ⊥

both : (a b : Bool) → (a && b) ≡ true → (a ≡ true) × (b ≡ true)
both true b holds = (refl, holds)
both false b holds = let bad : false ≡ true = holds in cc

implied : (a b : Bool) → (not a || b) ≡ true → a ≡ true → b ≡ true
implied true b holds is = holds
implied false b holds is = let bad : false ≡ true = is in cc

-- below this number the test holds at one place only, if anywhere
abbrev holds_only : ℕ → (ℕ → Bool) → ℕ → Bool
holds_only place test zero = true
holds_only place test (suc n) = (not (test n) || (n == place)) && holds_only place test n

holds_only-at : (place : ℕ) (test : ℕ → Bool) (n : ℕ) → holds_only place test n ≡ true → (j : ℕ) → j < n → test j ≡ true → j ≡ place
holds_only-at place test zero only j low holds = absurd (omega (arith, low))
holds_only-at place test (suc n) only j low holds =
    let (here, below) = both (not (test n) || (n == place)) (holds_only place test n) only in
    elim (cases_eq j n) [
      | inl same ↦ same ∙ eqb-true n place (implied (test n) (n == place) here (subst (λ (k : ℕ). test k ≡ true) same holds))
      | inr differs ↦ holds_only-at place test n below j (omega (arith, low, differs)) holds
    ]

-- texts with different first bytes differ
first_byte : (name other : Text) → (get_or name 0 0 == get_or other 0 0) ≡ false → name ≡ other → ⊥
first_byte name other differs same = eqb-false (get_or name 0 0) (get_or other 0 0) differs (ap (λ (t : Text). get_or t 0 0) same)

-- an option's rule stands at a place where that is seen from the list of rules
stands_at : (option : NumberOption) (place : ℕ) → place < 8 → get_or own_rules place tech_rule ≡ number_rule option
    → holds_only place (λ j. bytes_eq (get_or own_rules j tech_rule).id option.name) 8 ≡ true
    → (get_or option.name 0 0 == 0) ≡ false → (get_or option.name 0 0 == 104) ≡ false → (get_or option.name 0 0 == 118) ≡ false
    → StandsAt option place
stands_at option place within rule only some no_h no_v = record {
  within = within;
  rule = rule;
  alone = holds_only-at place (λ j. bytes_eq (get_or own_rules j tech_rule).id option.name) 8 only;
  named = first_byte option.name [] some;
  own = λ is. elim is [ inl help ↦ first_byte option.name (codes "help") no_h help | inr version ↦ first_byte option.name (codes "version") no_v version ];
}

pub quota_stands : StandsAt quota_option 1
quota_stands = stands_at quota_option 1 (omega arith) refl refl refl refl refl

pub pool_stands : StandsAt pool_option 2
pool_stands = stands_at pool_option 2 (omega arith) refl refl refl refl refl

pub journal_stands : StandsAt journal_option 3
journal_stands = stands_at journal_option 3 (omega arith) refl refl refl refl refl

pub cell_tiles_stands : StandsAt cell_tiles_option 4
cell_tiles_stands = stands_at cell_tiles_option 4 (omega arith) refl refl refl refl refl

pub workers_stands : StandsAt workers_option 5
workers_stands = stands_at workers_option 5 (omega arith) refl refl refl refl refl

built-rules : (command : Command) → app_of command ≡ magicd → map rule_of (args_of command) ≡ own_rules
unfolding magicd
built-rules command built = ap (λ (a : App). a.top.rules) built

built-eight : (command : Command) → app_of command ≡ magicd → length (args_of command) ≡ 8
built-eight command built = sym (length-map (args_of command) rule_of) ∙ ap length (built-rules command built)

rule-at : (command : Command) → app_of command ≡ magicd → (j : ℕ) (d : Arg) → j < 8
    → rule_of (slice_index_or (args_of command) j d) ≡ get_or own_rules j tech_rule
rule-at command built j d low =
    let within : j < length (args_of command) = omega (arith, low, built-eight command built) in
    sym (get_or-map rule_of (args_of command) j d tech_rule within) ∙ ap (λ (l : List Rule). get_or l j tech_rule) (built-rules command built)

abbrev range : NumberOption → ValueParser
range option = Signed (pos option.least) (pos option.most)

module _ (option : NumberOption) (place : ℕ) (stands : StandsAt option place) (command : Command) (m : ArgMatches) (p : IsParsedFrom command m) (built : app_of command ≡ magicd) where
  id-is : (d : Arg) → (slice_index_or (args_of command) place d).id.now ≡ option.name
  id-is d = ap (λ (r : Rule). r.id) (rule-at command built place d stands.within ∙ stands.rule)

  unique : (d : Arg) (j : ℕ) (e : Arg) → j < length (args_of command)
      → bytes_eq (slice_index_or (args_of command) j e).id.now (slice_index_or (args_of command) place d).id.now ≡ true → j ≡ place
  unique d j e low same =
      let under : j < 8 = omega (arith, low, built-eight command built) in
      let other : (slice_index_or (args_of command) j e).id.now ≡ (get_or own_rules j tech_rule).id = ap (λ (r : Rule). r.id) (rule-at command built j e under) in
      stands.alone j under (subst (λ (t : Text). bytes_eq t option.name ≡ true) other (subst (λ (t : Text). bytes_eq (slice_index_or (args_of command) j e).id.now t ≡ true) (id-is d) same))

  -- each argument of the built command that has the option's name has its parser
  parser-is : (j : ℕ) (x : Arg) → j < length (args_of p.built) → slice_index_or (args_of p.built) j x ≡ x → bytes_eq x.id.now option.name ≡ true
      → parser_of x ≡ range option
  parser-is j x high at same =
      let own : Arg = slice_index_or (args_of command) place x in
      let within : place < length (args_of command) = omega (arith, stands.within, built-eight command built) in
      let rules : SameRules own x = same_rules_by_id command m p place x within (unique x)
      (λ auto. stands.own (elim auto [ inl h ↦ inl (sym (id-is x) ∙ h) | inr h ↦ inr (sym (id-is x) ∙ h) ]))
      j x high at (subst (λ (t : Text). bytes_eq x.id.now t ≡ true) (sym (id-is x)) same) in
      let given : own.value_parser ≡ Some (range option) = ap (λ (r : Rule). r.parser) (rule-at command built place x stands.within ∙ stands.rule) in
      ap parser_of_value (rules.parser (range option) given)

  -- a value that passes an argument of this name lies in the range
  value-in_range : (text : Text) → PassesArg p.built option.name text → IsSignedIn (pos option.least) (pos option.most) text
  value-in_range text pass =
      subst (λ (q : ValueParser). Accepts pass.1.ignore_case q text) (parser-is pass.0 pass.1 pass.2 pass.3 pass.4.0) pass.4.1

  reading-is : (how : Reading) → HasReading p.built option.name how → how ≡ reading_of (range option)
  reading-is how any = sym any.4.1 ∙ ap reading_of (parser-is any.0 any.1 any.2 any.3 any.4.0)

  -- the text of the entry of the option
  entry-text : groups_of p.built ≡ [] → (e : Entry) → e.0.now ≡ option.name → EntryPasses p.built e
      → (v : Bor (List ℕ)) (rest : List (Bor (List ℕ))) → e.1.vals.items ≡ v ∷ rest → IsNumberText option (read_as e.1.reading v.now)
  entry-text no_groups e key pass v rest values =
      let no_group : e.1.is_group ≡ true → ⊥ = λ g. elim (pass.3 g) [
        | inl empty ↦ stands.named (sym key ∙ empty)
        | inr lots ↦ let bad : 0 < 0 = rw no_groups at lots in absurd (omega arith)
      ] in
      let all : All (λ w. PassesArg p.built option.name w.now) e.1.vals.items = elim pass.0 [
        | inl g ↦ absurd (no_group g)
        | inr passes ↦ subst (λ (t : Text). All (λ w. PassesArg p.built t w.now) e.1.vals.items) key passes
      ] in
      let how : e.1.reading ≡ reading_of (range option) = elim pass.4 [
        | inl g ↦ absurd (no_group g)
        | inr h ↦ reading-is e.1.reading (subst (λ (t : Text). HasReading p.built t e.1.reading) key h)
      ] in
      let first : PassesArg p.built option.name v.now =
      All-get_or (λ w. PassesArg p.built option.name w.now) (v ∷ rest) 0 v (omega arith)
      (subst (λ (l : List (Bor (List ℕ))). All (λ w. PassesArg p.built option.name w.now) l) values all) in
      (v.now, ap (λ (r : Reading). read_as r v.now) how, value-in_range v.now first)

  -- the text that is read after the option is one that the parser takes
  pub number-text : IsPlain command → (out-Command command).has_globals ≡ false
      → (text : Text) → one_text (found_of m) option.name ≡ Some text → IsNumberText option text
  number-text plain local text named = go (matched_of (found_of m) option.name) refl named
    where
      no_groups : groups_of p.built ≡ []
      no_groups = (p.from.plain plain).1

      first : (x : MatchedArg) (e : Entry) → e.1 ≡ x → e.0.now ≡ option.name → EntryPasses p.built e → (l : List (Bor (List ℕ))) → x.vals.items ≡ l
          → option_map (λ s. read_as x.reading s.now) (slice_get l 0) ≡ Some text → IsNumberText option text
      first x e same key pass [] values is = let bad : None ≡ Some text = is in cc
      first x e same key pass (v ∷ rest) values is =
          let read : Some (read_as x.reading v.now) ≡ Some text = is in
          let text_is : read_as x.reading v.now ≡ text = cc in
          subst (IsNumberText option) (ap (λ (y : MatchedArg). read_as y.reading v.now) same ∙ text_is)
          (entry-text no_groups e key pass v rest (ap (λ (y : MatchedArg). y.vals.items) same ∙ values))

      found : (x : MatchedArg) → matched_of (found_of m) option.name ≡ Some x → option_map (λ s. read_as x.reading s.now) (slice_get x.vals.items 0) ≡ Some text
          → IsNumberText option text
      found x is read =
          let entry = entry_by_id (EntryPasses p.built) (found_of m).entries.items option.name x (p.parsed (p.from.globals ∙ local)).values is in
          first x entry.0 entry.1 ((bytes_eq-Decides entry.0.0.now option.name).0 entry.2) entry.3 x.vals.items refl read

      go : (o : Option MatchedArg) → matched_of (found_of m) option.name ≡ o → one_text (found_of m) option.name ≡ Some text → IsNumberText option text
      go None is read = let bad : None ≡ Some text = rw is at read in cc
      go (Some x) is read = found x is (rw is at read)
