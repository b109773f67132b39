-- The rules so far, and those of the lines that are left.
use Rattle.std.proofs.Common.{◌≡◌, ℕ, ◌+◌, ◌<◌, true, false, nat_le, Some, None, Result, Ok, Err, List, [], ◌∷◌, ◌++◌, length, get_or, drop, refl, sym, ap, ◌∙◌, append_assoc, append-nil, length-append}
use Rattle.std.proofs.lemmas.List.{drop_more}
use Rattle.mls_tech.specs.Readings.{Tech}
use Rattle.mls_tech.specs.declared.rule_line.RuleLine.{RuleLine}
use Rattle.mls_edgerule.specs.Compiling.{rule_of, rule_before, rule_fault, with_rule, compiled_after, compiled}
use Rattle.mls_edgerule.specs.declared.edge_rule.EdgeRule.{EdgeRule}
use Rattle.mls_edgerule.specs.declared.fault.RuleFault.{RuleFault}
use Rattle.mls_edgerule.specs.declared.fault.RuleFaultKind.TheVariants.{Planes, TooManyRules}

-- rules before those of other lines, or before their fault
abbrev pub rules_before : List EdgeRule → Result (List EdgeRule) RuleFault → Result (List EdgeRule) RuleFault
rules_before rules (Ok others) = Ok (rules ++ others)
rules_before rules (Err fault) = Err fault

rules_before-none : (others : Result (List EdgeRule) RuleFault) → rules_before [] others ≡ others
rules_before-none (Ok others) = refl
rules_before-none (Err fault) = refl

rules_before-one_more : (rules : List EdgeRule) (rule : EdgeRule) (others : Result (List EdgeRule) RuleFault) → rules_before (rules ++ rule ∷ []) others ≡ rules_before rules (rule_before rule others)
rules_before-one_more rules rule (Ok others) = ap Ok (append_assoc rules (rule ∷ []) others)
rules_before-one_more rules rule (Err fault) = refl

-- the result of compiling, once these rules were compiled and these lines are left
abbrev pub continued : Tech → List EdgeRule → List RuleLine → Result (List EdgeRule) RuleFault
continued tech rules lines = rules_before rules (compiled_after tech (length rules) lines)

pub continued-start : (tech : Tech) → continued tech [] tech.rules ≡ compiled tech
unfolding compiled
continued-start tech = rules_before-none _

pub continued-end : (tech : Tech) (rules : List EdgeRule) → continued tech rules [] ≡ Ok rules
unfolding compiled_after
continued-end tech rules = ap Ok (append-nil rules)

after-full : (tech : Tech) (n : ℕ) (line : RuleLine) (lines : List RuleLine) → nat_le 128 n ≡ true → compiled_after tech n (line ∷ lines) ≡ Err (rule_fault line TooManyRules)
unfolding compiled_after
after-full tech n line lines full = rw full refl

after-room : (tech : Tech) (n : ℕ) (line : RuleLine) (lines : List RuleLine) → nat_le 128 n ≡ false →
    compiled_after tech n (line ∷ lines) ≡ with_rule line (rule_of tech line.rule) (compiled_after tech (n + 1) lines)
unfolding compiled_after
after-room tech n line lines room = rw room refl

-- at a line among the others
module _ (tech : Tech) (rules : List EdgeRule) (lines : List RuleLine) (i : ℕ) (line : RuleLine) (inside : i < length lines) (here : line ≡ get_or lines i line) where
  lines-from : drop i lines ≡ line ∷ drop (i + 1) lines
  lines-from = drop_more lines i line inside ∙ ap (λ first. first ∷ drop (i + 1) lines) (sym here)

  pub continued-full : nat_le 128 (length rules) ≡ true → continued tech rules (drop i lines) ≡ Err (rule_fault line TooManyRules)
  continued-full full = rw (lines-from, after-full tech (length rules) line (drop (i + 1) lines) full) refl

  pub continued-planes : nat_le 128 (length rules) ≡ false → rule_of tech line.rule ≡ None → continued tech rules (drop i lines) ≡ Err (rule_fault line Planes)
  continued-planes room none = rw (lines-from, after-room tech (length rules) line (drop (i + 1) lines) room, none) refl

  pub continued-rule : (rule : EdgeRule) → nat_le 128 (length rules) ≡ false → rule_of tech line.rule ≡ Some rule →
      continued tech rules (drop i lines) ≡ continued tech (rules ++ rule ∷ []) (drop (i + 1) lines)
  continued-rule rule room one =
      rw (lines-from, after-room tech (length rules) line (drop (i + 1) lines) room, one, rules_before-one_more, length-append) refl
