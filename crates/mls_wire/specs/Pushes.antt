-- What is appended to a text.
use Rattle.std.specs.Prelude.{◌≡◌, ℕ, ◌+◌, ◌≤◌, ◌<◌, Result, OnOk, OnErr, List, ◌++◌, length, Vec, vec_capacity, vec_len}
use Rattle.std.specs.Global.{Global}

-- the bytes are appended, unless memory ran out, which it does only where there was no room for all of them
pub record Appends {T E : Type 0} (result : Result T E) (old new : Vec ℕ Global) (more : List ℕ) : Type 0 where
  pub text : OnOk result (new.items ≡ old.items ++ more)
  pub room : OnErr result (vec_capacity old < vec_len old + length more)
  pub capacity : vec_capacity old ≤ vec_capacity new
