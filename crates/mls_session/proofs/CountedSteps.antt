-- The check steps that are counted: there are never more than squares that awaited checking.
use Rattle.std.proofs.Common.{◌≡◌, ℕ, zero, suc, ◌+◌, ◌^◌, ◌≤◌, ◌<◌, List, sym, subst, arith}
use Rattle.mls_session.proofs.Common.{Checking, EdgeRule, Finding, HasFinished, HasStepped, IsCounted, IsDirtyList, Layout, Outcome, Rect, Stepped, Steps, area_of, done_steps, finished_steps, most_checks}
use Rattle.mls_errorplane.specs.declared.error_plane.Outcome.TheVariants as outcome
use Rattle.mls_errorplane.specs.declared.error_plane.Stepped.TheVariants as stepped
use Rattle.mls_errorplane.proofs.AreaSizes.{area_of-le}
use Rattle.mls_errorplane.proofs.CheckedMarks.{has_piece}
use Rattle.mls_errorplane.proofs.KeptLists.{IsDirtyList-dropped}
use Rattle.mls_errorplane.proofs.StepsDone.{area_of-Done}

-- none so far
pub IsCounted-none : (dirty : List Rect) → IsDirtyList dirty → IsCounted dirty 0
IsCounted-none dirty areas =
    let few = area_of-le dirty areas in record {
      areas = areas;
      few = omega (arith, few);
    }

-- one more
pub IsCounted-Done :
    (rules : List EdgeRule) (layout : Layout) (limit count : ℕ) (old new : Checking) → IsCounted old.dirty count
    → HasStepped rules layout limit old stepped.Done new → IsCounted new.dirty (count + 1)
IsCounted-Done rules layout limit count old new counted step =
    let less : area_of new.dirty < area_of old.dirty = area_of-Done rules layout limit old new counted.areas step in
    let few : count + area_of old.dirty ≤ most_checks = counted.few in record {
      areas = subst (λ (checking : Checking). IsDirtyList checking.dirty) (sym step.2) (IsDirtyList-dropped old.dirty counted.areas);
      few = omega (arith, less, few);
    }

-- as many as before
IsCounted-same : (count : ℕ) (old new : Checking) → new ≡ old → IsCounted old.dirty count → IsCounted new.dirty (count + 0)
IsCounted-same count old new same counted =
    subst (λ (checking : Checking). IsCounted checking.dirty (count + 0)) (sym same) (subst (IsCounted old.dirty) (omega arith) counted)

pub IsCounted-stepped :
    (rules : List EdgeRule) (layout : Layout) (limit count : ℕ) (old new : Checking) (ended : Stepped) → IsCounted old.dirty count
    → HasStepped rules layout limit old ended new → IsCounted new.dirty (count + done_steps ended)
IsCounted-stepped rules layout limit count old new stepped.Idle counted (none, same) = IsCounted-same count old new same counted
IsCounted-stepped rules layout limit count old new stepped.Done counted step = IsCounted-Done rules layout limit count old new counted step
IsCounted-stepped rules layout limit count old new stepped.Full counted (some, full, same) = IsCounted-same count old new same counted
IsCounted-stepped rules layout limit count old new stepped.Memory counted (some, same) = IsCounted-same count old new same counted

-- some more, one after another
pub IsCounted-Steps :
    (rules : List EdgeRule) (layout : Layout) (limit count more : ℕ) (old new : Checking) → IsCounted old.dirty count
    → Steps rules layout limit more old new → IsCounted new.dirty (count + more)
IsCounted-Steps rules layout limit count zero old new counted same = IsCounted-same count old new same counted
IsCounted-Steps rules layout limit count (suc more) old new counted (mid, steps, last) =
    let one : (count + more) + 1 ≡ count + suc more = omega arith in
    subst (IsCounted new.dirty) one
    (IsCounted-Done rules layout limit (count + more) mid new (IsCounted-Steps rules layout limit count more old mid counted steps) last)

-- a fresh finding is of the first area
-- so finishing it is a step that is done
pub HasStepped-Finished :
    (rules : List EdgeRule) (planes : ℕ) (layout : Layout) (limit : ℕ) (old new : Checking) (finding : Finding)
    → HasFinished rules planes layout limit old finding outcome.Finished new → HasStepped rules layout limit old stepped.Done new
HasStepped-Finished rules planes layout limit old new finding (fresh, fits, is) = (has_piece old.dirty finding.piece fresh.piece, fits, is)

pub IsCounted-finished :
    (rules : List EdgeRule) (planes : ℕ) (layout : Layout) (limit count : ℕ) (old new : Checking) (finding : Finding) (ended : Outcome)
    → IsCounted old.dirty count → HasFinished rules planes layout limit old finding ended new → IsCounted new.dirty (count + finished_steps ended)
IsCounted-finished rules planes layout limit count old new finding outcome.Finished counted done =
    IsCounted-Done rules layout limit count old new counted (HasStepped-Finished rules planes layout limit old new finding done)
IsCounted-finished rules planes layout limit count old new finding outcome.Stale counted (stale, same) = IsCounted-same count old new same counted
IsCounted-finished rules planes layout limit count old new finding outcome.Full counted (fresh, full, same) = IsCounted-same count old new same counted

-- ---- numbers that fit
pub fits_of : (dirty : List Rect) (count : ℕ) → IsCounted dirty count → count < 2 ^ 64
fits_of dirty count counted =
    let few : count + area_of dirty ≤ most_checks = counted.few in
    omega (arith, few)
