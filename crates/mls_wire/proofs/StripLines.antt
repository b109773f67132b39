-- The line of a strip, appended part by part.
use Rattle.std.proofs.Common.{◌≡◌, ℤ, pos, ◌+ℤ◌, ℕ, ◌≤◌, List, [], ◌∷◌, ◌++◌, ap, ◌∙◌, append_assoc, codes, arith}
use Rattle.mls_geom.specs.Rects.{IsRectangleIn, Rect}
use Rattle.mls_geom.specs.World.{origin, world}
use Rattle.mls_server.specs.mls_library.SavedCells.{coordinate_text, spaced}
use Rattle.mls_server.proofs.mls_library.SavedTexts.{coordinate_text-of, passed}
use Rattle.mls_wire.specs.JournalLines.{sides_text}
use Rattle.mls_wire.specs.Replies.{strip_text}

-- the word, and four sides
sides-spaced : (l b r t : List ℕ)
    → 10 ∷ codes "rect" ++ ((32 ∷ l ++ 32 ∷ b) ++ (32 ∷ r ++ 32 ∷ t)) ≡ 10 ∷ spaced (codes "rect" ∷ l ∷ b ∷ r ∷ t ∷ [])
sides-spaced l b r t = ap (λ (rest : List ℕ). 10 ∷ codes "rect" ++ rest) (append_assoc (32 ∷ l) (32 ∷ b) (32 ∷ r ++ 32 ∷ t))

-- the sides as users count them
pub strip_text-sides :
    (strip : Rect) (left bottom right top : ℤ) → IsRectangleIn world strip → pos strip.left ≡ left +ℤ pos origin → pos strip.bottom ≡ bottom +ℤ pos origin
    → pos strip.right ≡ right +ℤ pos origin → pos strip.top ≡ top +ℤ pos origin
    → 10 ∷ codes "rect" ++ sides_text (passed left) (passed bottom) (passed right) (passed top) ≡ strip_text strip
strip_text-sides strip left bottom right top legal on_left on_bottom on_right on_top =
    let right_to : strip.right ≤ 5242880 = legal.right_in in
    let top_to : strip.top ≤ 5242880 = legal.top_in in
    let left_from : 3145728 ≤ strip.left = legal.left_in in
    let bottom_from : 3145728 ≤ strip.bottom = legal.bottom_in in
    let l = coordinate_text-of strip.left left legal.left_in (omega (arith, legal.wide, right_to)) on_left in
    let b = coordinate_text-of strip.bottom bottom legal.bottom_in (omega (arith, legal.tall, top_to)) on_bottom in
    let r = coordinate_text-of strip.right right (omega (arith, legal.wide, left_from)) legal.right_in on_right in
    let t = coordinate_text-of strip.top top (omega (arith, legal.tall, bottom_from)) legal.top_in on_top in
    (λ i. 10 ∷ codes "rect" ++ ((32 ∷ l i ++ 32 ∷ b i) ++ (32 ∷ r i ++ 32 ∷ t i)))
    ∙ sides-spaced (coordinate_text strip.left) (coordinate_text strip.bottom) (coordinate_text strip.right) (coordinate_text strip.top)
