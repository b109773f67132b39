-- The byte follows the digits.
use Rattle.std.proofs.Common.{rules, ◌≡◌}
use Rattle.std.specs.Fmt.{signed_decimal}
use Rattle.mls_library.proofs.AppendedTexts.{Appends-same, Appends-stopped, Appends-then}
use Rattle.mls_library.proofs.saved.push_coordinate.Goals as goal

pub returns-in_err-push_bytes : goal.returns-in_err-push_bytes
returns-in_err-push_bytes c =
    let digits : c.as_bytes.result.now ≡ signed_decimal c.args.coordinate = search rules in
    let part = Appends-same _ _ _ _ _ digits c.in_err-push_bytes.ensures in
    Appends-stopped c.from_residual.result _ _ _ _ _ c.from_residual.ensures.0 part

pub returns : goal.returns
returns c =
    let digits : c.as_bytes.result.now ≡ signed_decimal c.args.coordinate = search rules in
    let part = Appends-same _ _ _ _ _ digits c.in_ok-push_bytes.ensures in
    Appends-then c.push_bytes-2.result _ _ _ _ _ _ part c.push_bytes-2.ensures
