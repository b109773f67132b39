-- Check steps one after another: what they keep, and that they come to an end.
use Rattle.std.proofs.Common.{◌≡◌, ◌≢◌, ℕ, zero, suc, ◌+◌, ◌*◌, ◌^◌, ◌<◌, ◌≤◌, List, [], ◌∷◌, length, get_or, Option, None, IfSome, refl, sym, ap, subst, arith}
use Rattle.mls_errorplane.proofs.Common.{AfterSteps, CaughtUp, ChangesAmong, ChangesOnly, Checking, EdgeRule, FitsWorkspace, HasCaughtUp, HasLayout, HasStepped, IsChecked, IsDirtyList, Layout, Library, Pool, Rect, StandsApart, Stepped, Steps, UnlessDone, Uses, area_of, dropped, first_piece_of, flat_layout, shown, tile_room}
use Rattle.mls_stitch.proofs.Laying.{room_of-ChangesOnly}
use Rattle.mls_stitch.proofs.OtherPlanes.{HasPlane-ChangesOnly}
use Rattle.mls_paint.proofs.OwnerFrames.{ChangesAmong-ChangesOnly, layout_in-kept}
use Rattle.mls_layout.proofs.FlatLayouts.{HasCells-ChangesAmong, flat_layout-ChangesAmong}
use Rattle.mls_errorplane.specs.declared.catching_up.CaughtUp.TheVariants as caught_up
use Rattle.mls_errorplane.specs.declared.error_plane.Stepped.TheVariants as stepped
use Rattle.mls_errorplane.proofs.AreaSizes.{area_of-dropped-less}
use Rattle.mls_errorplane.proofs.CheckedSquares.{step-IsChecked}

-- ---- states
pub Steps-IsChecked :
    (rules : List EdgeRule) (layout : Layout) (limit count : ℕ) (old new : Checking) → Steps rules layout limit count old new
    → IsChecked rules layout old → IsChecked rules layout new
Steps-IsChecked rules layout limit zero old new same right = subst (IsChecked rules layout) (sym same) right
Steps-IsChecked rules layout limit (suc count) old new (mid, steps, step) right =
    subst (IsChecked rules layout) (sym step.2) (step-IsChecked rules layout mid (Steps-IsChecked rules layout limit count old mid steps right))

-- marks that are right outside the areas stay so
pub AfterSteps-IsChecked :
    (rules : List EdgeRule) (layout : Layout) (limit : ℕ) (old new : Checking) → AfterSteps rules layout limit old new
    → IsChecked rules layout old → IsChecked rules layout new
AfterSteps-IsChecked rules layout limit old new (count, steps) right = Steps-IsChecked rules layout limit count old new steps right

-- ---- how many squares await checking
pub smaller : (areas : List Rect) → IsDirtyList areas → areas ≢ [] → area_of (dropped areas) < area_of areas
smaller [] kept some = absurd (some refl)
smaller (first ∷ rest) kept some = area_of-dropped-less first rest (kept.legal 0 first (omega arith))

-- a step that is done leaves fewer
pub area_of-Done :
    (rules : List EdgeRule) (layout : Layout) (limit : ℕ) (old new : Checking) → IsDirtyList old.dirty → HasStepped rules layout limit old stepped.Done new
    → area_of new.dirty < area_of old.dirty
area_of-Done rules layout limit old new kept step =
    subst (λ (checking : Checking). area_of checking.dirty < area_of old.dirty) (sym step.2) (smaller old.dirty kept step.0)

-- so a step more doesn't make too many to count
pub few-Done :
    (rules : List EdgeRule) (layout : Layout) (limit count : ℕ) (old new : Checking) → IsDirtyList old.dirty → (IsDirtyList old.dirty → count + area_of old.dirty ≤ 65 * 2 ^ 42)
    → HasStepped rules layout limit old stepped.Done new → count + 1 + area_of new.dirty ≤ 65 * 2 ^ 42
few-Done rules layout limit count old new kept few step = omega (arith, few kept, area_of-Done rules layout limit old new kept step)

-- a list without a first piece is empty
pub no_piece : (areas : List Rect) → first_piece_of areas ≡ None → areas ≡ []
no_piece [] none = refl
no_piece (first ∷ rest) none = absurd (cc)

-- ---- where only tiles of one owner have changed
module _ (old new : Pool) (owner : ℕ) (changed : ChangesOnly old new owner) where
  among : ChangesAmong old new (owner ∷ [])
  among = ChangesAmong-ChangesOnly old new (owner ∷ []) owner (0, omega arith, refl) changed

  fits-kept : (other : ℕ) → FitsWorkspace old other → FitsWorkspace new other
  fits-kept other = subst (λ (room : Option ℕ). IfSome room (λ r. r ≤ tile_room)) (sym (room_of-ChangesOnly other changed))

  -- a layout of others is there as it was
  pub HasLayout-apart : (planes : List ℕ) (cells : Library) → StandsApart owner planes cells → HasLayout old planes cells → HasLayout new planes cells
  HasLayout-apart planes cells apart has = record {
    planes = record {
      each = λ k d within. HasPlane-ChangesOnly old new owner (get_or planes k d) changed (apart.planes k d within) (has.planes.each k d within);
      fit = λ k d within. fits-kept (get_or planes k d) (has.planes.fit k d within);
    };
    cells = HasCells-ChangesAmong old new (owner ∷ []) among (length planes) cells apart.cells has.cells;
  }

  -- and shows what it showed
  pub flat_layout-apart : (uses : Uses) (planes : List ℕ) → StandsApart owner planes uses.library.now → flat_layout new uses planes ≡ flat_layout old uses planes
  flat_layout-apart uses planes apart =
      flat_layout-ChangesAmong old new (owner ∷ []) among uses planes apart.cells
      (layout_in-kept old new planes (λ k d within. ap shown (changed.others (get_or planes k d) (apart.planes k d within))))

-- ---- how catching up ends
-- with a step that isn't done, after this many that were
abbrev pub ended : ℕ → Stepped → CaughtUp
ended count stepped.Idle = caught_up.Done
ended count stepped.Done = caught_up.Done
ended count stepped.Full = caught_up.Full
ended count stepped.Memory = caught_up.Memory count

module _ (rules : List EdgeRule) (layout : Layout) (limit count : ℕ) (old mid new : Checking) (steps : Steps rules layout limit count old mid) where
  -- what is known after the steps stays known, where the next one changes nothing
  stays : (caught : CaughtUp) → new ≡ mid → HasCaughtUp rules layout limit old caught mid → HasCaughtUp rules layout limit old caught new
  stays caught same = subst (HasCaughtUp rules layout limit old caught) (sym same)

  pub HasCaughtUp-ended : (how : Stepped) → HasStepped rules layout limit mid how new → UnlessDone how (HasCaughtUp rules layout limit old (ended count how) new)
  HasCaughtUp-ended stepped.Idle (none, same) = stays caught_up.Done same ((count, steps), none)
  HasCaughtUp-ended stepped.Done step = tt
  HasCaughtUp-ended stepped.Full (some, more, same) = stays caught_up.Full same ((count, steps), some, more)
  HasCaughtUp-ended stepped.Memory (some, same) = stays (caught_up.Memory count) same (steps, some)
