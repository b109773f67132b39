-- What a check outside an error plane takes with it: the first piece, and the layout in its zone. This project's own.
use Rattle.std.specs.Prelude.{◌≡◌, ◌≢◌, ℕ, List, [], length, Option, Some, None, Result, Ok, Err}
use Rattle.mls_errorplane.specs.Common.{EdgeRule, Layout, copied_layout, within, zone_of}
use Rattle.mls_errorplane.specs.Checkings.{Checking}
use Rattle.mls_errorplane.specs.DirtyLists.{first_piece_of}
use Rattle.mls_errorplane.specs.declared.job.Job.{Job}

-- the job is to check the first piece by these rules, in the layout on this many planes as it is now
pub record IsFirstJob (by : List EdgeRule) (plane_count : ℕ) (current : Layout) (checking : Checking) (job : Job) : Type 0 where
  pub rules : job.rules ≡ by
  pub piece : first_piece_of checking.dirty ≡ Some job.piece
  pub zone : job.snapshot.zone ≡ zone_of by job.piece
  pub planes : length job.snapshot.planes ≡ plane_count
  pub layout : copied_layout job.snapshot ≡ within job.snapshot.zone current

-- there is no job exactly where no area awaits checking
abbrev pub IsNextJob : List EdgeRule → ℕ → Layout → Checking → Option Job → Type 0
IsNextJob by plane_count layout checking None = checking.dirty ≡ []
IsNextJob by plane_count layout checking (Some job) = IsFirstJob by plane_count layout checking job

-- the next job, unless memory ran out while its zone was copied
abbrev pub HasGrabbed : {E : Type 0} → List EdgeRule → ℕ → Layout → Checking → Result (Option Job) E → Type 0
HasGrabbed by plane_count layout checking (Ok job) = IsNextJob by plane_count layout checking job
HasGrabbed by plane_count layout checking (Err fault) = checking.dirty ≢ []
