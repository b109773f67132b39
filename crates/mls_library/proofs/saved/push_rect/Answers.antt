-- Each side follows those before it.
use Rattle.mls_library.proofs.AppendedTexts.{Appends-same, Appends-stopped, Appends-then}
use Rattle.mls_library.proofs.SavedTexts.{bottom_written, left_written, right_written, rect_line_parts, top_written}
use Rattle.mls_library.proofs.saved.push_rect.Goals as goal

pub returns-in_err-push_bytes : goal.returns-in_err-push_bytes
returns-in_err-push_bytes c =
    let stopped = Appends-stopped c.from_residual.result _ _ _ _ _ c.from_residual.ensures.0 c.in_err-push_bytes.ensures in
    Appends-same c.from_residual.result _ _ _ _ (rect_line_parts c.args.rect) stopped

pub returns-in_err-push_coordinate : goal.returns-in_err-push_coordinate
returns-in_err-push_coordinate c =
    let result = c.from_residual-in_err-push_coordinate.result in
    let side = Appends-same _ _ _ _ _ (left_written c.args.rect c.left.result 32 c.left.ensures.legal c.left.ensures.value) c.in_err-push_coordinate.ensures in
    let stopped = Appends-stopped result _ _ _ _ _ c.from_residual-in_err-push_coordinate.ensures.0 side in
    Appends-same result _ _ _ _ (rect_line_parts c.args.rect) (Appends-then result _ _ _ _ _ _ c.in_ok-push_bytes.ensures stopped)

pub returns-in_err-push_coordinate-2 : goal.returns-in_err-push_coordinate-2
returns-in_err-push_coordinate-2 c =
    let result = c.from_residual-in_err-push_coordinate-2.result in
    let left = Appends-same _ _ _ _ _ (left_written c.args.rect c.left.result 32 c.left.ensures.legal c.left.ensures.value) c.in_ok-push_coordinate.ensures in
    let side = Appends-same _ _ _ _ _ (bottom_written c.args.rect c.bottom.result 32 c.left.ensures.legal c.bottom.ensures.value) c.in_err-push_coordinate-2.ensures in
    let stopped = Appends-stopped result _ _ _ _ _ c.from_residual-in_err-push_coordinate-2.ensures.0 side in
    Appends-same result _ _ _ _ (rect_line_parts c.args.rect)
    (Appends-then result _ _ _ _ _ _ c.in_ok-push_bytes.ensures (Appends-then result _ _ _ _ _ _ left stopped))

pub returns-in_err-push_coordinate-3 : goal.returns-in_err-push_coordinate-3
returns-in_err-push_coordinate-3 c =
    let result = c.from_residual-in_err-push_coordinate-3.result in
    let left = Appends-same _ _ _ _ _ (left_written c.args.rect c.left.result 32 c.left.ensures.legal c.left.ensures.value) c.in_ok-push_coordinate.ensures in
    let bottom = Appends-same _ _ _ _ _ (bottom_written c.args.rect c.bottom.result 32 c.left.ensures.legal c.bottom.ensures.value) c.in_ok-push_coordinate-2.ensures in
    let side = Appends-same _ _ _ _ _ (right_written c.args.rect c.right.result 32 c.left.ensures.legal c.right.ensures.value) c.in_err-push_coordinate-3.ensures in
    let stopped = Appends-stopped result _ _ _ _ _ c.from_residual-in_err-push_coordinate-3.ensures.0 side in
    let from_bottom = Appends-then result _ _ _ _ _ _ bottom stopped in
    Appends-same result _ _ _ _ (rect_line_parts c.args.rect)
    (Appends-then result _ _ _ _ _ _ c.in_ok-push_bytes.ensures (Appends-then result _ _ _ _ _ _ left from_bottom))

pub returns : goal.returns
returns c =
    let result = c.push_coordinate-4.result in
    let left = Appends-same _ _ _ _ _ (left_written c.args.rect c.left.result 32 c.left.ensures.legal c.left.ensures.value) c.in_ok-push_coordinate.ensures in
    let bottom = Appends-same _ _ _ _ _ (bottom_written c.args.rect c.bottom.result 32 c.left.ensures.legal c.bottom.ensures.value) c.in_ok-push_coordinate-2.ensures in
    let right = Appends-same _ _ _ _ _ (right_written c.args.rect c.right.result 32 c.left.ensures.legal c.right.ensures.value) c.in_ok-push_coordinate-3.ensures in
    let top = Appends-same _ _ _ _ _ (top_written c.args.rect c.top.result 10 c.left.ensures.legal c.top.ensures.value) c.push_coordinate-4.ensures in
    let from_bottom = Appends-then result _ _ _ _ _ _ bottom (Appends-then result _ _ _ _ _ _ right top) in
    Appends-same result _ _ _ _ (rect_line_parts c.args.rect)
    (Appends-then result _ _ _ _ _ _ c.in_ok-push_bytes.ensures (Appends-then result _ _ _ _ _ _ left from_bottom))
