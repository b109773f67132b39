-- Calls of a device that were interrupted.
use Rattle.std.proofs.Common.{◌≡◌, ◌≤◌, ℕ, Bool, Option, List}
use Rattle.std.specs.Io.KnownBytes.{Keeps}

-- no byte came or went, and no call has failed
abbrev pub OnlyInterrupted : Option (List ℕ) → Option (List ℕ) → Bool → Bool → ℕ → ℕ → Type 0
OnlyInterrupted before now was_failed failed calls left = record { bytes : Keeps before now; failed : failed ≡ was_failed; calls : left ≤ calls }
