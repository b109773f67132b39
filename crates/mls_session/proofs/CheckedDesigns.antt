-- The check steps of an error plane are those of a session's own machine.
use Rattle.std.proofs.Common.{◌≡◌, ◌≢◌, ◌==◌, ℕ, zero, suc, Bool, true, false, ◌||◌, cond, Option, Some, None, List, [], ◌∷◌, length, refl, sym, ap, ◌∙◌, arith, option_and_then, option_map, ne_eqb, true≢false, subst}
use Rattle.std.specs.Option.{option_map_or}
use Rattle.std.proofs.lemmas.Bool.{cond-false, cond-true, or_from, or_left, or_parts, or_right}
use Rattle.std.proofs.lemmas.Option.{same_Some}
use Rattle.mls_session.proofs.Common.{Checking, Config, Designed, HasStepped, OwnState, Rect, Steps, Terms, caught_up, checked, checked_times, checks, ending, exceeds, layout_of, next_checking, own_check}
use Rattle.mls_errorplane.specs.declared.error_plane.Stepped.TheVariants as stepped

-- ---- one step
pub some_left : (areas : List Rect) → areas ≢ [] → (length areas == 0) ≡ false
some_left [] some = absurd (some refl)
some_left (first ∷ rest) some = ne_eqb (length (first ∷ rest)) 0 (λ none. omega (arith, none))

module _ (config : Config) (own : Designed) where
  -- it is refused where no area is left
  pub checked-none : own.checking.dirty ≡ [] → checked config own ≡ None
  unfolding checked
  checked-none none =
      cond-true _ _ _
      (or_left (length own.checking.dirty == 0) (exceeds config.quota (next_checking config own).marks) (ap (λ (areas : List Rect). length areas == 0) none))

  -- or where the error plane would have too many tiles
  pub checked-full : exceeds config.quota (next_checking config own).marks ≡ true → checked config own ≡ None
  unfolding checked
  checked-full full = cond-true _ _ _ (or_right (length own.checking.dirty == 0) (exceeds config.quota (next_checking config own).marks) full)

  pub checked-done :
      own.checking.dirty ≢ [] → exceeds config.quota (next_checking config own).marks ≡ false
      → checked config own ≡ Some (record own { checking = next_checking config own })
  unfolding checked
  checked-done some fits =
      cond-false _ _ _
      (or_from (length own.checking.dirty == 0) (exceeds config.quota (next_checking config own).marks) (some_left own.checking.dirty some) fits)

  -- so an accepted step has left an area, fits, and changes the marks and the areas alone
  accepted :
      (next : Designed) (refused : Bool) → cond {A = Option Designed} refused None (Some (record own { checking = next_checking config own })) ≡ Some next
      → (refused ≡ false) × (next ≡ record own { checking = next_checking config own })
  accepted next true is = absurd cc
  accepted next false is = (refl, cc)

  pub checked_some :
      (next : Designed) → checked config own ≡ Some next
      → (own.checking.dirty ≢ []) × (exceeds config.quota (next_checking config own).marks ≡ false) × (next ≡ record own { checking = next_checking config own })
  unfolding checked
  checked_some next is =
      let tests = accepted next (length own.checking.dirty == 0 || exceeds config.quota (next_checking config own).marks) is in
      let parts = or_parts (length own.checking.dirty == 0) (exceeds config.quota (next_checking config own).marks) tests.0 in (
        λ none. true≢false (sym (ap (λ (areas : List Rect). length areas == 0) none) ∙ parts.0),
        parts.1,
        tests.1,
      )

  -- ---- the error plane's steps
  pub checked-Done :
      (after : Checking) → HasStepped config.rules (layout_of config own.drawn) config.quota own.checking stepped.Done after
      → checked config own ≡ Some (record own { checking = after })
  checked-Done after (some, fits, is) = checked-done some fits ∙ ap (λ (known : Checking). Some (record own { checking = known })) (sym is)

-- ---- steps one after another
module _ (config : Config) (mid new : Designed) where
  after_next :
      (count : ℕ) (next : Option Designed) → ((own : Designed) → checked_times count config own ≡ Some mid → checked_times (suc count) config own ≡ Some new)
      → option_and_then (checked_times count config) next ≡ Some mid → option_and_then (checked_times (suc count) config) next ≡ Some new
  after_next count None more is = absurd cc
  after_next count (Some own) more is = more own is

  -- one more at the end
  pub checked_times-last :
      (count : ℕ) (old : Designed) → checked_times count config old ≡ Some mid → checked config mid ≡ Some new → checked_times (suc count) config old ≡ Some new
  checked_times-last zero old is last = ap (option_and_then (checked_times zero config)) (ap (checked config) (same_Some old mid is) ∙ last)
  checked_times-last (suc count) old is last = after_next count (checked config old) (λ own done. checked_times-last count own done last) is

-- what each accepted step keeps is kept by some of them, and by catching up
module _ (config : Config) (Q : Designed → Type 0) (keeps : (old new : Designed) → checked config old ≡ Some new → Q old → Q new) where
  times_next :
      (count : ℕ) (old new : Designed) (next : Option Designed) → checked config old ≡ next → ((mid : Designed) → checked_times count config mid ≡ Some new → Q mid → Q new)
      → option_and_then (checked_times count config) next ≡ Some new → Q old → Q new
  times_next count old new None at more is q = absurd cc
  times_next count old new (Some mid) at more is q = more mid is (keeps old mid at q)

  pub checked_times-keeps : (count : ℕ) (old new : Designed) → checked_times count config old ≡ Some new → Q old → Q new
  checked_times-keeps zero old new is q = subst Q (same_Some old new is) q
  checked_times-keeps (suc count) old new is q = times_next count old new (checked config old) refl (λ mid. checked_times-keeps count mid new) is q

  caught_up_next :
      (count : ℕ) (old : Designed) (next : Option Designed) → checked config old ≡ next → ((mid : Designed) → Q mid → Q (caught_up count config mid).0)
      → Q old → Q (option_map_or (caught_up count config) next (old, ending old)).0
  caught_up_next count old None at more q = q
  caught_up_next count old (Some mid) at more q = more mid (keeps old mid at q)

  pub caught_up-keeps : (count : ℕ) (old : Designed) → Q old → Q (caught_up count config old).0
  caught_up-keeps zero old q = q
  caught_up-keeps (suc count) old q = caught_up_next count old (checked config old) refl (caught_up-keeps count) q

-- those of the error plane
pub checked_times-Steps :
    (config : Config) (old : Designed) (count : ℕ) (after : Checking) → Steps config.rules (layout_of config old.drawn) config.quota count old.checking after
    → checked_times count config old ≡ Some (record old { checking = after })
checked_times-Steps config old zero after same = ap (λ (known : Checking). Some (record old { checking = known })) (sym same)
checked_times-Steps config old (suc count) after (mid, steps, last) =
    checked_times-last config (record old { checking = mid }) (record old { checking = after }) count old (checked_times-Steps config old count mid steps)
    (checked-Done config (record old { checking = mid }) after last)

-- in a session
module _ (terms : Terms) where
  checks_next :
      (count entries : ℕ) (next : Option Designed)
      → ((own : Designed) → checks terms count (record { design = own; entries = entries }) ≡ option_map (λ design. record { design = design; entries = entries }) (checked_times count terms.config own))
      → option_and_then (checks terms count) (option_map (λ design. record { design = design; entries = entries }) next)
      ≡ option_map (λ design. record { design = design; entries = entries }) (option_and_then (checked_times count terms.config) next)
  checks_next count entries None more = refl
  checks_next count entries (Some own) more = more own

  pub checks-checked_times :
      (count entries : ℕ) (own : Designed)
      → checks terms count (record { design = own; entries = entries }) ≡ option_map (λ design. record { design = design; entries = entries }) (checked_times count terms.config own)
  unfolding own_check
  checks-checked_times zero entries own = refl
  checks-checked_times (suc count) entries own = checks_next count entries (checked terms.config own) (checks-checked_times count entries)

  -- where the design's are accepted
  pub checks-Some :
      (count : ℕ) (old : OwnState) (new : Designed) → checked_times count terms.config old.design ≡ Some new → checks terms count old ≡ Some (record old { design = new })
  checks-Some count old new is =
      checks-checked_times count old.entries old.design ∙ ap (option_map (λ design. record { design = design; entries = old.entries })) is
