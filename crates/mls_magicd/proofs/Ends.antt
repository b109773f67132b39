-- How the program ends at a fault.
use Rattle.std.proofs.Common.{◌≡◌, ◌⊎◌, ℕ, Bool, true, false, not, Option, List, [], ◌∷◌, ◌++◌, Result, Ok, Err, IfErr, OnOk, inl, inr, refl, sym, subst}
use Rattle.mls_tech.specs.Readings.{Tech}
use Rattle.mls_lines.specs.mls_server.Worlds.{World}
use Rattle.mls_lines.specs.mls_wire.Watches.{Watched}
use Rattle.mls_magicd.specs.Cells.{LoadsCells}
use Rattle.mls_lines.proofs.mls_wire.Results.{on_ok-map}
use Rattle.mls_magicd.specs.CommandLines.{NamedFile, NamesFiles, ParsesAs, cell_words}
use Rattle.mls_magicd.specs.Messages.{Reports, ReportsAll, fault_message}
use Rattle.mls_magicd.specs.Programs.{EndsAtStart, FailsAtStart, FailsOver, IsBareFor, IsConfiguredBy, failed, skipped_lines, status_after}
use Rattle.mls_magicd.specs.declared.fault.Fault.{Fault}
use Rattle.mls_magicd.specs.declared.fault.Fault.TheVariants.{Options, Technology, Rule, Cell, Memory, Serve, Differs}
use Rattle.mls_magicd.specs.declared.options.Options.{Options as OptionsGiven}
use Rattle.mls_magicd.proofs.CellLoads.{LoadsCells-tech}
use Rattle.mls_magicd.proofs.MessageLemmas.{ReportsAll-more}

module _ {E : Type 0} (reads_as : List ℕ → List ℕ → Type 0) (may_fail : List ℕ → Type 0) (words : List (List ℕ)) (contents : E → Option (List ℕ)) where
  module _ (old new : Watched E) (bare : World) (files : List NamedFile) (is_bare : IsBareFor reads_as words bare) (named : NamesFiles (cell_words words) files)
      (reported : ReportsAll contents old new (skipped_lines bare.setting.tech)) where
    -- the cells are loaded
    pub started : (on : World) → LoadsCells reads_as bare files on → IsConfiguredBy reads_as words on × ReportsAll contents old new (skipped_lines on.setting.tech)
    started on loaded = (
      record { bare = bare; is_bare = is_bare; files = files; named = named; loaded = loaded },
      subst (λ (tech : Tech). ReportsAll contents old new (skipped_lines tech)) (sym (LoadsCells-tech reads_as bare on files loaded)) reported,
    )

    -- they aren't, or there is no server
    pub fails-over : (fault : Fault) → FailsOver reads_as may_fail bare files fault → FailsAtStart reads_as may_fail words contents old new fault
    fails-over Memory fails = (bare, is_bare, reported)
    fails-over (Cell fault) fails = (bare, record { is_bare = is_bare; files = files; named = named; stops = fails }, reported)
    fails-over (Options fault) fails = absurd fails
    fails-over (Technology fault) fails = absurd fails
    fails-over (Rule fault) fails = absurd fails
    fails-over (Serve fault) fails = absurd fails
    fails-over Differs fails = absurd fails

  -- memory runs out once the cells are loaded
  pub lacks-memory : (old new : Watched E) (on : World) → IsConfiguredBy reads_as words on × ReportsAll contents old new (skipped_lines on.setting.tech)
      → FailsAtStart reads_as may_fail words contents old new Memory
  lacks-memory old new on started = (
    started.0.bare,
    started.0.is_bare,
    subst (λ (tech : Tech). ReportsAll contents old new (skipped_lines tech)) (LoadsCells-tech reads_as started.0.bare on started.0.files started.0.loaded) started.1,
  )

  -- the start or the script fails, and that is reported
  pub ends-reported : {In Out : Type 0} (Fails : World → Fault → Type 0) (old mid new : Watched E) (fault : Fault)
      → (FailsAtStart reads_as may_fail words contents old mid fault × In × Out)
      ⊎ ((on : World) × IsConfiguredBy reads_as words on × Fails on fault × ReportsAll contents old mid (skipped_lines on.setting.tech))
      → status_after fault ≡ failed → Reports contents mid new (fault_message fault)
      → (EndsAtStart reads_as may_fail words contents old new × In × Out)
      ⊎ ((on : World) × IsConfiguredBy reads_as words on
      × ((given : Fault) × Fails on given × ReportsAll contents old new (skipped_lines on.setting.tech ++ fault_message given ∷ [])))
  ends-reported Fails old mid new fault (inl start) status reported = inl ((fault, mid, status, start.0, reported), start.1, start.2)
  ends-reported Fails old mid new fault (inr script) status reported = inr (
    script.0,
    script.1,
    (fault, script.2, ReportsAll-more contents old mid new (skipped_lines script.0.setting.tech) (fault_message fault) script.3 reported),
  )

-- ---- the script, where the start didn't fail
module _ {E : Type 0} (reads_as : List ℕ → List ℕ → Type 0) (options : OptionsGiven) (contents : E → Option (List ℕ)) (old mid new : Watched E) (on : World)
    (begun : (words : List (List ℕ)) → ParsesAs words options → IsConfiguredBy reads_as words on × ReportsAll contents old mid (skipped_lines on.setting.tech)) (same : new ≡ mid) where
  reported : (words : List (List ℕ)) → ParsesAs words options → ReportsAll contents old new (skipped_lines on.setting.tech)
  reported words parsed = subst (λ (faults : Watched E). ReportsAll contents old faults (skipped_lines on.setting.tech)) (sym same) (begun words parsed).1

  -- it is served
  pub serves-begun : {T : Type 0} (Serves : World → Type 0) (result : Result T Fault) → OnOk result (Serves on)
      → OnOk result ((words : List (List ℕ)) → ParsesAs words options → (at : World) × IsConfiguredBy reads_as words at × Serves at × ReportsAll contents old new (skipped_lines at.setting.tech))
  serves-begun Serves result = on_ok-map result (Serves on) _ (λ serves words parsed. (on, (begun words parsed).0, serves, reported words parsed))

  -- it fails
  pub fails-begun : {T : Type 0} (AtStart : List (List ℕ) → Fault → Type 0) (Fails : World → Fault → Type 0) (result : Result T Fault) → IfErr result (Fails on)
      → IfErr result (λ fault. (words : List (List ℕ)) → ParsesAs words options
      → AtStart words fault ⊎ ((at : World) × IsConfiguredBy reads_as words at × Fails at fault × ReportsAll contents old new (skipped_lines at.setting.tech)))
  fails-begun AtStart Fails (Ok value) fails = tt
  fails-begun AtStart Fails (Err fault) fails = λ words parsed. inr (on, (begun words parsed).0, fails, reported words parsed)

-- ---- what was audited
pub is_false : (b : Bool) → not b ≡ true → b ≡ false
is_false true is = sym is
is_false false is = refl

pub is_true : (b : Bool) → not b ≡ false → b ≡ true
is_true true is = refl
is_true false is = sym is
