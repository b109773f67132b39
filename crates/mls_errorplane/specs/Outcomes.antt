-- How finishing ends, where a finding was made outside an error plane. This project's own.
use Rattle.std.specs.Prelude.{◌≡◌, ℕ, true, false, List, length, Some, ⊤}
use Rattle.mls_errorplane.specs.Common.{EdgeRule, Finding, Layout, copied_layout, within}
use Rattle.mls_errorplane.specs.Checkings.{Checking, check_step}
use Rattle.mls_errorplane.specs.DirtyLists.{first_piece_of}
use Rattle.mls_errorplane.specs.ErrorPlanes.{exceeds}
use Rattle.mls_errorplane.specs.declared.error_plane.Outcome.{Outcome}
use Rattle.mls_errorplane.specs.declared.error_plane.Outcome.TheVariants.{Finished, Stale, Full}

-- the finding is by these rules, of the first piece, and of the layout on this many planes as it is now in the finding's zone
pub record IsFresh (by : List EdgeRule) (plane_count : ℕ) (layout : Layout) (checking : Checking) (finding : Finding) : Type 0 where
  pub rules : finding.rules ≡ by
  pub piece : first_piece_of checking.dirty ≡ Some finding.piece
  pub planes : length finding.snapshot.planes ≡ plane_count
  pub zone : copied_layout finding.snapshot ≡ within finding.snapshot.zone layout

-- how finishing ended, and what is known after it
abbrev pub HasFinished : List EdgeRule → ℕ → Layout → ℕ → Checking → Finding → Outcome → Checking → Type 0
HasFinished rules planes layout limit old finding Finished new =
    IsFresh rules planes layout old finding × (exceeds limit (check_step rules layout old).marks ≡ false) × (new ≡ check_step rules layout old)
HasFinished rules planes layout limit old finding Stale new = (¬ (IsFresh rules planes layout old finding)) × (new ≡ old)
HasFinished rules planes layout limit old finding Full new =
    IsFresh rules planes layout old finding × (exceeds limit (check_step rules layout old).marks ≡ true) × (new ≡ old)

-- the fact, unless the finding was finished
abbrev pub UnlessFinished : Outcome → Type 0 → Type 0
UnlessFinished Finished P = ⊤
UnlessFinished Stale P = P
UnlessFinished Full P = P
