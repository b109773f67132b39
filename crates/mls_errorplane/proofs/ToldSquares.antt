-- Rectangles that have the squares which show what those of another one show.
use Rattle.std.proofs.Common.{◌≡◌, arith}
use Rattle.mls_errorplane.proofs.Common.{Columns, IsRectangleIn, Rect, Rows, Tells}
use Rattle.mls_geom.proofs.Holds.{between_holds, holds_between}

-- for columns one of the same columns
pub Tells-columns : (extent row rect : Rect) → IsRectangleIn extent row → (rect.left ≡ row.left) × (rect.right ≡ row.right) → Tells Columns row rect
Tells-columns extent row rect legal (left, right) x y here =
    let lines = holds_between rect x y here in
    between_holds row x row.bottom (omega (arith, left, lines.0)) (omega (arith, right, lines.1)) (omega arith) legal.tall

-- for rows one of the same rows
pub Tells-rows : (extent last rect : Rect) → IsRectangleIn extent last → (rect.bottom ≡ last.bottom) × (rect.top ≡ last.top) → Tells Rows last rect
Tells-rows extent last rect legal (bottom, top) x y here =
    let lines = holds_between rect x y here in
    between_holds last last.left y (omega arith) legal.wide (omega (arith, bottom, lines.2)) (omega (arith, top, lines.3))
