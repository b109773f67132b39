-- Catching up does check steps until there is none that is accepted: each leaves fewer squares in the areas, so there are no more than squares.
use Rattle.std.proofs.Common.{◌≡◌, ◌≢◌, ◌+◌, ◌-◌, ◌<◌, ◌≤◌, ℕ, zero, suc, Option, Some, None, List, [], ◌∷◌, refl, sym, ap, ◌∙◌, subst, arith, option_and_then}
use Rattle.std.specs.Option.{option_map_or}
use Rattle.std.proofs.lemmas.Option.{same_Some}
use Rattle.mls_session.proofs.Common.{Config, Designed, IsDirtyList, Rect, area_of, catch_up_step, caught_up, checked, checked_times, dropped, ending}
use Rattle.mls_errorplane.proofs.AreaSizes.{area_of-dropped-less}
use Rattle.mls_errorplane.proofs.KeptLists.{IsDirtyList-dropped}
use Rattle.mls_session.proofs.CheckedDesigns.{checked_some}

-- ---- squares in the areas
fewer : (areas : List Rect) → IsDirtyList areas → areas ≢ [] → area_of (dropped areas) < area_of areas
fewer [] kept some = absurd (some refl)
fewer (first ∷ rest) kept some = area_of-dropped-less first rest (kept.legal 0 first (omega arith))

-- an accepted step leaves fewer
pub checked-fewer :
    (config : Config) (old new : Designed) → IsDirtyList old.checking.dirty → checked config old ≡ Some new
    → IsDirtyList new.checking.dirty × (area_of new.checking.dirty + 1 ≤ area_of old.checking.dirty)
checked-fewer config old new kept is =
    let (some, fits, same) = checked_some config old new is in
    let areas : new.checking.dirty ≡ dropped old.checking.dirty = ap (λ (own : Designed). own.checking.dirty) same in (
      subst IsDirtyList (sym areas) (IsDirtyList-dropped old.checking.dirty kept),
      rw areas (omega (arith, fewer old.checking.dirty kept some)),
    )

-- so some steps leave as many fewer at least
module _ (config : Config) (new : Designed) where
  times_next :
      (count : ℕ) (old : Designed) (next : Option Designed) → IsDirtyList old.checking.dirty → checked config old ≡ next
      → ((mid : Designed) → IsDirtyList mid.checking.dirty → checked_times count config mid ≡ Some new
      → IsDirtyList new.checking.dirty × (count + area_of new.checking.dirty ≤ area_of mid.checking.dirty))
      → option_and_then (checked_times count config) next ≡ Some new
      → IsDirtyList new.checking.dirty × (suc count + area_of new.checking.dirty ≤ area_of old.checking.dirty)
  times_next count old None kept at more is = absurd cc
  times_next count old (Some mid) kept at more is =
      let (left, less) = checked-fewer config old mid kept at in
      let (last, few) = more mid left is in
      (last, omega (arith, less, few))

  pub checked_times-fewer :
      (count : ℕ) (old : Designed) → IsDirtyList old.checking.dirty → checked_times count config old ≡ Some new
      → IsDirtyList new.checking.dirty × (count + area_of new.checking.dirty ≤ area_of old.checking.dirty)
  checked_times-fewer zero old kept is =
      let same = same_Some old new is in
      (subst (λ (own : Designed). IsDirtyList own.checking.dirty) same kept, subst (λ (own : Designed). 0 + area_of own.checking.dirty ≤ area_of old.checking.dirty) same (omega arith))
  checked_times-fewer (suc count) old kept is = times_next count old (checked config old) kept refl (λ mid. checked_times-fewer count mid) is

-- ---- catching up
module _ (config : Config) where
  -- it goes on after some steps
  goes_on :
      (count more : ℕ) (old mid : Designed) (next : Option Designed)
      → ((own : Designed) → checked_times count config own ≡ Some mid → caught_up (count + more) config own ≡ caught_up more config mid)
      → option_and_then (checked_times count config) next ≡ Some mid
      → option_map_or (caught_up (count + more) config) next (old, ending old) ≡ caught_up more config mid
  goes_on count more old mid None after is = absurd cc
  goes_on count more old mid (Some own) after is = after own is

  pub caught_up-after :
      (count more : ℕ) (old mid : Designed) → checked_times count config old ≡ Some mid → caught_up (count + more) config old ≡ caught_up more config mid
  caught_up-after zero more old mid is =
      let none : 0 + more ≡ more = omega arith in
      ap (λ fuel. caught_up fuel config old) none ∙ ap (caught_up more config) (same_Some old mid is)
  caught_up-after (suc count) more old mid is =
      let one : suc count + more ≡ suc (count + more) = omega arith in
      ap (λ fuel. caught_up fuel config old) one ∙ goes_on count more old mid (checked config old) (λ own. caught_up-after count more own mid) is

  -- and ends where the next step is refused
  pub caught_up-refused : (more : ℕ) (own : Designed) → checked config own ≡ None → caught_up more config own ≡ (own, ending own)
  caught_up-refused zero own refused = refl
  caught_up-refused (suc more) own refused = ap (λ (next : Option Designed). option_map_or (caught_up more config) next (own, ending own)) refused

  pub catch_up_step-ends :
      (count : ℕ) (old new : Designed) → IsDirtyList old.checking.dirty → checked_times count config old ≡ Some new → checked config new ≡ None
      → catch_up_step config old ≡ (new, ending new)
  catch_up_step-ends count old new kept is refused =
      let (left, few) = checked_times-fewer config new count old kept is in
      let more = area_of old.checking.dirty - count in
      let split : area_of old.checking.dirty ≡ count + more = omega (arith, few) in
      ap (λ fuel. caught_up fuel config old) split ∙ caught_up-after count more old new is ∙ caught_up-refused more new refused
