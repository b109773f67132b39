-- Check steps one after another, until no area awaits checking or a step isn't done.
use Rattle.std.specs.Prelude.{◌≡◌, ◌≢◌, ℕ, zero, suc, true, List, []}
use Rattle.mls_errorplane.specs.Common.{EdgeRule, Layout}
use Rattle.mls_errorplane.specs.Checkings.{Checking, check_step}
use Rattle.mls_errorplane.specs.ErrorPlanes.{HasStepped, exceeds}
use Rattle.mls_errorplane.specs.declared.catching_up.CaughtUp.{CaughtUp}
use Rattle.mls_errorplane.specs.declared.catching_up.CaughtUp.TheVariants as caught_up
use Rattle.mls_errorplane.specs.declared.error_plane.Stepped.TheVariants as stepped

-- this many check steps, each of them done, lead from one state to the other
abbrev pub Steps : List EdgeRule → Layout → ℕ → ℕ → Checking → Checking → Type 0
Steps rules layout limit zero old new = new ≡ old
Steps rules layout limit (suc count) old new = (mid : Checking) × Steps rules layout limit count old mid × HasStepped rules layout limit mid stepped.Done new

-- some number of them does
abbrev pub AfterSteps : List EdgeRule → Layout → ℕ → Checking → Checking → Type 0
AfterSteps rules layout limit old new = (count : ℕ) × Steps rules layout limit count old new

-- how catching up ended, and what is known after it
abbrev pub HasCaughtUp : List EdgeRule → Layout → ℕ → Checking → CaughtUp → Checking → Type 0
HasCaughtUp rules layout limit old caught_up.Done new = AfterSteps rules layout limit old new × (new.dirty ≡ [])
HasCaughtUp rules layout limit old caught_up.Full new =
    AfterSteps rules layout limit old new × (new.dirty ≢ []) × (exceeds limit (check_step rules layout new).marks ≡ true)
HasCaughtUp rules layout limit old (caught_up.Memory steps) new = Steps rules layout limit steps old new × (new.dirty ≢ [])
