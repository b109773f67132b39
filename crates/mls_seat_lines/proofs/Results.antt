-- Facts on results, beside those of mls_wire.
use Rattle.std.proofs.Common.{◌≡◌, true, Result, Ok, Err, OnOk, is_ok}

-- what holds where the result is a value, of a result that is one
pub ok_holds : {T E : Type 0} (r : Result T E) (P : Type 0) → is_ok r ≡ true → OnOk r P → P
ok_holds (Ok x) P is p = p
ok_holds (Err e) P is p = absurd (cc)
