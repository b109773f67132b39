-- Facts on results.
use Rattle.std.proofs.Common.{Result, Ok, Err, OnErr, OnOk}

-- what holds at a value, or at an error, leads to another fact there
pub on_ok-map : {T E : Type 0} (r : Result T E) (P Q : Type 0) → (P → Q) → OnOk r P → OnOk r Q
on_ok-map (Ok x) P Q f p = f p
on_ok-map (Err e) P Q f p = tt

pub on_err-map : {T E : Type 0} (r : Result T E) (P Q : Type 0) → (P → Q) → OnErr r P → OnErr r Q
on_err-map (Ok x) P Q f p = tt
on_err-map (Err e) P Q f p = f p
