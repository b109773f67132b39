-- Facts on results, beside those of mls_seat_lines.
use Rattle.std.proofs.Common.{Result, Ok, Err}
use Rattle.std.specs.Result.{IfOk}

-- two facts on a value lead to a third
pub if_ok-both : {T E : Type 0} (r : Result T E) (P Q R : T → Type 0) → ((x : T) → P x → Q x → R x) → IfOk r P → IfOk r Q → IfOk r R
if_ok-both (Ok x) P Q R f p q = f x p q
if_ok-both (Err e) P Q R f p q = tt
