-- Alone runs: of some items and then others, and of check steps alone.
use Rattle.std.proofs.Common.{◌≡◌, ℕ, zero, suc, ◌+◌, ◌++◌, Option, Some, None, List, [], ◌∷◌, replicate, refl, sym, ap, ◌∙◌, append_assoc, append-nil, arith}
use Rattle.std.specs.Option.{option_and_then, option_map}
use Rattle.mls_session.specs.Journals.{Kept}
use Rattle.mls_session.specs.OwnSteps.{OwnState, Terms, checks, own_check, own_step}
use Rattle.mls_session.specs.declared.reply.Reply.{Reply}
use Rattle.mls_server.specs.OwnLists.{AloneRun, Item, alone, asked, at, checked, with_check, with_command}

-- the run's replies after these
abbrev pub after_replies : List Reply → AloneRun → AloneRun
after_replies replies run = record run { replies = replies ++ run.replies }

after_both : (first second : List Reply) (run : Option AloneRun) → option_map (after_replies (first ++ second)) run ≡ option_map (after_replies first) (option_map (after_replies second) run)
after_both first second None = refl
after_both first second (Some run) = ap (λ (replies : List Reply). Some (record run { replies = replies })) (append_assoc first second run.replies)

-- what is kept after one check step, and after this many
abbrev counted_once : Kept → OwnState → Kept
counted_once kept own = (with_check (at kept) own).kept

abbrev pub counted : Kept → ℕ → OwnState → Kept
counted kept count own = record kept { own = own; checks = kept.checks + count }

module _ (terms : Terms) where
  -- the replies of a run go before all that are given later
  step_after :
      (kept : Kept) (replies : List Reply) (items : List Item) (next : Option OwnState)
      → ((own : OwnState)
      → alone terms (record { kept = counted_once kept own; replies = replies }) items ≡ option_map (after_replies replies) (alone terms (at (counted_once kept own)) items))
      → option_and_then (λ own. alone terms (record { kept = counted_once kept own; replies = replies }) items) next
      ≡ option_map (after_replies replies) (option_and_then (λ own. alone terms (at (counted_once kept own)) items) next)
  step_after kept replies items None rest = refl
  step_after kept replies items (Some own) rest = rest own

  pub alone-after :
      (items : List Item) (kept : Kept) (replies : List Reply)
      → alone terms (record { kept = kept; replies = replies }) items ≡ option_map (after_replies replies) (alone terms (at kept) items)
  alone-after [] kept replies = ap (λ (said : List Reply). Some (record { kept = kept; replies = said })) (sym (append-nil replies))
  alone-after (asked command ∷ items) kept replies =
      let next : Kept = (with_command (at kept) command (own_step terms kept.own command)).kept in
      let reply : List Reply = (own_step terms kept.own command).1 ∷ [] in
      alone-after items next (replies ++ reply) ∙ after_both replies reply (alone terms (at next) items)
      ∙ sym (ap (option_map (after_replies replies)) (alone-after items next reply))
  alone-after (checked ∷ items) kept replies =
      step_after kept replies items (own_check terms kept.own) (λ next. alone-after items (counted_once kept next) replies)

  -- some items and then others
  step_on :
      (from : AloneRun) (first rest : List Item) (next : Option OwnState)
      → ((run : AloneRun) → alone terms run (first ++ rest) ≡ option_and_then (λ mid. alone terms mid rest) (alone terms run first))
      → option_and_then (λ own. alone terms (with_check from own) (first ++ rest)) next
      ≡ option_and_then (λ mid. alone terms mid rest) (option_and_then (λ own. alone terms (with_check from own) first) next)
  step_on from first rest None more = refl
  step_on from first rest (Some own) more = more (with_check from own)

  pub alone-append : (run : AloneRun) (first rest : List Item) → alone terms run (first ++ rest) ≡ option_and_then (λ mid. alone terms mid rest) (alone terms run first)
  alone-append run [] rest = refl
  alone-append run (asked command ∷ first) rest = alone-append (with_command run command (own_step terms run.kept.own command)) first rest
  alone-append run (checked ∷ first) rest = step_on run first rest (own_check terms run.kept.own) (λ next. alone-append next first rest)

  pub alone-both :
      (kept mid last : Kept) (first rest : List Item) (said later : List Reply) → alone terms (at kept) first ≡ Some (record { kept = mid; replies = said })
      → alone terms (at mid) rest ≡ Some (record { kept = last; replies = later }) → alone terms (at kept) (first ++ rest) ≡ Some (record { kept = last; replies = said ++ later })
  alone-both kept mid last first rest said later ran goes =
      alone-append (at kept) first rest ∙ ap (option_and_then (λ (run : AloneRun). alone terms run rest)) ran ∙ alone-after rest mid said
      ∙ ap (option_map (after_replies said)) goes

  -- check steps alone
  steps_alone :
      (count : ℕ) (kept : Kept) (next : Option OwnState)
      → ((from : Kept) → alone terms (at from) (replicate count checked) ≡ option_map (λ own. at (counted from count own)) (checks terms count from.own))
      → option_and_then (λ own. alone terms (at (counted_once kept own)) (replicate count checked)) next
      ≡ option_map (λ own. at (counted kept (suc count) own)) (option_and_then (checks terms count) next)
  steps_alone count kept None more = refl
  steps_alone count kept (Some own) more =
      more (counted_once kept own)
      ∙ ap (λ (total : ℕ). option_map (λ (last : OwnState). at (record kept { own = last; checks = total })) (checks terms count own)) one_more
    where
      one_more : kept.checks + 1 + count ≡ kept.checks + suc count
      one_more = omega arith

  pub alone-checks :
      (count : ℕ) (kept : Kept) → alone terms (at kept) (replicate count checked) ≡ option_map (λ own. at (counted kept count own)) (checks terms count kept.own)
  alone-checks zero kept = let none : kept.checks ≡ kept.checks + 0 = omega arith in ap (λ (total : ℕ). Some (at (record kept { checks = total }))) none
  alone-checks (suc count) kept = steps_alone count kept (own_check terms kept.own) (alone-checks count)
