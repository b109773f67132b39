-- The numbers of a range. This project's own.
use Rattle.std.specs.Prelude.{ℕ, ◌≤◌}

-- the number lies in the range, its ends among it
pub record IsInRange (least most number : ℕ) : Type 0 where
  pub enough : least ≤ number
  pub bounded : number ≤ most
