-- Pieces that mark more and more squares.
use Rattle.std.proofs.Common.{◌≡◌, ℕ, Bool, ◌||◌, true, false, cond, List, [], ◌∷◌, ◌++◌, refl, ap, ◌∙◌, arith}
use Rattle.std.proofs.Math.Path.{fun_ext}
use Rattle.mls_errorplane.proofs.Common.{IsRectangleIn, Paints, Picture, Piece, Rect, SquareSet, holds, overlaid, remarked}
use Rattle.mls_geom.proofs.Holds.{between_holds, holds_between}
use Rattle.mls_geom.proofs.Overlays.{overlaid_append}

-- a square of one more rectangle is marked
push_at : (in_run in_rect in_set : Bool) (kind : ℕ) → (in_run ≡ true → in_rect ≡ true) → cond in_run 1 (cond in_rect (cond in_set 1 0) kind) ≡ cond in_rect (cond (in_set || in_run) 1 0) kind
push_at true in_rect true kind inside = let here = inside refl in rw here refl
push_at true in_rect false kind inside = let here = inside refl in rw here refl
push_at false true true kind inside = refl
push_at false true false kind inside = refl
push_at false false in_set kind inside = refl

-- a rectangle of an extent has squares of that alone
pub holds_inside : (extent r : Rect) (x y : ℕ) → IsRectangleIn extent r → holds r x y ≡ true → holds extent x y ≡ true
holds_inside extent r x y inside here =
    let lines = holds_between r x y here in
    between_holds extent x y (omega (arith, inside.left_in, lines.0)) (omega (arith, inside.right_in, lines.1)) (omega (arith, inside.bottom_in, lines.2)) (omega (arith, inside.top_in, lines.3))

-- with a piece of kind 1 its squares are marked too
pub Paints-push :
    (pieces : List Piece) (rect r : Rect) (set : SquareSet) → IsRectangleIn rect r → Paints pieces rect set
    → Paints (pieces ++ record { rect = r; kind = 1 } ∷ []) rect (λ x y. set x y || holds r x y)
Paints-push pieces rect r set inside paints = λ below x y.
    ap (λ (picture : Picture). picture x y) (overlaid_append below pieces (record { rect = r; kind = 1 } ∷ []))
    ∙ ap (λ kind. cond (holds r x y) 1 kind) (paints below x y)
    ∙ push_at (holds r x y) (holds rect x y) (set x y) (below x y) (holds_inside rect r x y inside)

-- only the squares of the rectangle count
agree_at : (in_rect a b : Bool) (kind : ℕ) → (in_rect ≡ true → a ≡ b) → cond in_rect (cond a 1 0) kind ≡ cond in_rect (cond b 1 0) kind
agree_at true a b kind same = ap (λ c. cond {A = ℕ} c 1 0) (same refl)
agree_at false a b kind same = refl

pub Paints-agree :
    (pieces : List Piece) (rect : Rect) (a b : SquareSet) → ((x y : ℕ) → holds rect x y ≡ true → a x y ≡ b x y) → Paints pieces rect a → Paints pieces rect b
Paints-agree pieces rect a b same paints = λ below x y. paints below x y ∙ agree_at (holds rect x y) (a x y) (b x y) (below x y) (same x y)

-- so painting them gives the picture with these marks
pub overlaid-part :
    (pieces over : List Piece) (part : Rect) (set : SquareSet) (below : Picture) → Paints pieces part set → over ≡ pieces → overlaid below over ≡ remarked below part set
overlaid-part pieces over part set below paints listed = ap (overlaid below) listed ∙ fun_ext (λ x. fun_ext (λ y. paints below x y))
