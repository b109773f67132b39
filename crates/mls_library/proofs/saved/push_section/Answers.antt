-- The name stands between the two marks.
use Rattle.mls_library.proofs.AppendedTexts.{Appends-same, Appends-stopped, Appends-then}
use Rattle.mls_library.proofs.SavedTexts.{section_line_parts}
use Rattle.mls_library.proofs.saved.push_section.Goals as goal

pub returns-in_err-push_bytes : goal.returns-in_err-push_bytes
returns-in_err-push_bytes c =
    let stopped = Appends-stopped c.from_residual.result _ _ _ _ _ c.from_residual.ensures.0 c.in_err-push_bytes.ensures in
    Appends-same c.from_residual.result _ _ _ _ (section_line_parts c.args.name.now) stopped

pub returns-in_err-push_bytes-2 : goal.returns-in_err-push_bytes-2
returns-in_err-push_bytes-2 c =
    let result = c.from_residual-in_err-push_bytes-2.result in
    let stopped = Appends-stopped result _ _ _ _ _ c.from_residual-in_err-push_bytes-2.ensures.0 c.in_err-push_bytes-2.ensures in
    Appends-same result _ _ _ _ (section_line_parts c.args.name.now) (Appends-then result _ _ _ _ _ _ c.in_ok-push_bytes.ensures stopped)

pub returns : goal.returns
returns c =
    let result = c.push_bytes-3.result in
    let named = Appends-then result _ _ _ _ _ _ c.in_ok-push_bytes-2.ensures c.push_bytes-3.ensures in
    Appends-same result _ _ _ _ (section_line_parts c.args.name.now) (Appends-then result _ _ _ _ _ _ c.in_ok-push_bytes.ensures named)
