-- A device, and what has come of its calls.
use Rattle.std.specs.Prelude.{◌≡◌, ◌≤◌, ℕ, Bool, ◌⊎◌, Result, IsTrue, OnErr, OnOk}

-- the device, how many of its 2^64 - 1 calls are left, and whether one has failed
pub record Watched (D : Type 0) : Type 0 where
  pub device : D
  pub calls_left : ℕ
  pub failed : Bool

-- the only causes of a fault
abbrev pub HasCause : {D : Type 0} → Watched D → Type 0
HasCause watch = IsTrue watch.failed ⊎ (watch.calls_left ≡ 0)

-- what calls of the device leave, whatever they gave: none comes back, and no failure is noted or forgotten but at a fault, which has a cause
pub record IsCalled {T E D : Type 0} (result : Result T E) (old new : Watched D) : Type 0 where
  pub calls : new.calls_left ≤ old.calls_left
  pub failed : OnOk result (new.failed ≡ old.failed)
  pub cause : OnErr result (HasCause new)
  pub lasting : IsTrue old.failed → IsTrue new.failed
