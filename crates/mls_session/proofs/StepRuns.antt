-- Check steps one after another, each of them accepted and counted.
use Rattle.std.proofs.Common.{◌≡◌, ◌≢◌, ℕ, ◌+◌, ◌<◌, Some, refl, sym, ap, ◌∙◌, subst, arith}
use Rattle.mls_session.proofs.Common.{ChecksOnce, ChecksTimes, IsLegal, Kept, OwnState, Stepped, StepsOnce, StepsUpTo, Terms, own_check}
use Rattle.mls_errorplane.specs.declared.error_plane.Stepped.TheVariants as stepped
use Rattle.mls_session.proofs.JournalRuns.{checks-entries, checks-last}
use Rattle.mls_session.proofs.LegalJournals.{CountsEntries, with_checks-legal}

module _ (terms : Terms) where
  -- none so far
  pub ChecksTimes-none : (kept : Kept) → ChecksTimes terms 0 kept kept
  ChecksTimes-none kept =
      let none : kept.checks ≡ kept.checks + 0 = omega arith in
      (kept.own, refl, ap (λ (n : ℕ). record kept { checks = n }) none)

  -- one more
  pub ChecksTimes-last : (count : ℕ) (old mid new : Kept) → ChecksTimes terms count old mid → ChecksOnce terms mid new → ChecksTimes terms (count + 1) old new
  ChecksTimes-last count old mid new (own, steps, is) (last, once, after) =
      let here : mid.own ≡ own = ap (λ (k : Kept). k.own) is in
      let next : own_check terms own ≡ Some last = subst (λ (o : OwnState). own_check terms o ≡ Some last) here once in
      let sum : (old.checks + count) + 1 ≡ old.checks + (count + 1) = omega arith in (
        last,
        checks-last terms count old.own own last steps next,
        after ∙ ap (λ (k : Kept). record k { own = last; checks = k.checks + 1 }) is ∙ ap (λ (n : ℕ). record old { own = last; checks = n }) sum,
      )

  -- the journal stays legal, and as long as it was
  pub ChecksTimes-legal : (count : ℕ) (old new : Kept) → ChecksTimes terms count old new → IsLegal terms old → IsLegal terms new
  ChecksTimes-legal count old new (own, steps, is) legal = subst (IsLegal terms) (sym is) (with_checks-legal terms old count own steps legal)

  pub ChecksTimes-entries : (count : ℕ) (old new : Kept) → ChecksTimes terms count old new → CountsEntries old → CountsEntries new
  ChecksTimes-entries count old new (own, steps, is) counts = subst CountsEntries (sym is) (checks-entries terms count old.own own steps ∙ counts)

  -- one that isn't done changes nothing, and ends them
  pub StepsUpTo-ended :
      (most count : ℕ) (old mid new : Kept) (ended : Stepped) → count < most → ChecksTimes terms count old mid → ended ≢ stepped.Done → StepsOnce terms mid ended new
      → StepsUpTo terms most old (record { done = count; ended = ended }) new
  StepsUpTo-ended most count old mid new stepped.Idle less times differs (none, same) =
      subst (λ (k : Kept). StepsUpTo terms most old (record { done = count; ended = stepped.Idle }) k) (sym same) (times, (less, none))
  StepsUpTo-ended most count old mid new stepped.Done less times differs once = absurd (differs refl)
  StepsUpTo-ended most count old mid new stepped.Full less times differs (some, refused, same) =
      subst (λ (k : Kept). StepsUpTo terms most old (record { done = count; ended = stepped.Full }) k) (sym same) (times, (less, some, refused))
  StepsUpTo-ended most count old mid new stepped.Memory less times differs (some, same) =
      subst (λ (k : Kept). StepsUpTo terms most old (record { done = count; ended = stepped.Memory }) k) (sym same) (times, (less, some))
