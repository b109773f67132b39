-- Pieces painted over a picture, in turn.
use Rattle.mls_geom.proofs.Common.{◌≡◌, ℕ, zero, suc, ◌<◌, true, false, if◌then◌else◌, List, [], ◌∷◌, ◌++◌, length, get_or, All, Any, refl, ap, suc-le-suc, le_of_suc-le-suc, ◌∙◌, arith, cond-true, cond-false, cond_both, All-from_get_or, All-head, All-tail}
use Rattle.mls_geom.proofs.Definitions.{holds, Picture, painted, overlaid, Piece}

-- pieces painted after others
pub overlaid_append : (below : Picture) (xs ys : List Piece) → overlaid below (xs ++ ys) ≡ overlaid (overlaid below xs) ys
overlaid_append below [] ys = refl
overlaid_append below (piece ∷ xs) ys = overlaid_append (painted below piece) xs ys

-- where a piece has no square, it changes nothing
pub painted_outside : (below : Picture) (piece : Piece) (x y : ℕ) → holds piece.rect x y ≡ false → painted below piece x y ≡ below x y
painted_outside below piece x y outside = cond-false (holds piece.rect x y) piece.kind (below x y) outside

-- where it has one, its kind shows
pub painted_inside : (below : Picture) (piece : Piece) (x y : ℕ) → holds piece.rect x y ≡ true → painted below piece x y ≡ piece.kind
painted_inside below piece x y inside = cond-true (holds piece.rect x y) piece.kind (below x y) inside

-- what a square shows after painting depends only on what it showed before
painted-at : (below other : Picture) (piece : Piece) (x y : ℕ) → below x y ≡ other x y → painted below piece x y ≡ painted other piece x y
painted-at below other piece x y same = ap (λ kind. if holds piece.rect x y then piece.kind else kind) same

pub overlaid-at : (below other : Picture) (pieces : List Piece) (x y : ℕ) → below x y ≡ other x y → overlaid below pieces x y ≡ overlaid other pieces x y
overlaid-at below other [] x y same = same
overlaid-at below other (piece ∷ pieces) x y same = overlaid-at (painted below piece) (painted other piece) pieces x y (painted-at below other piece x y same)

-- where no piece has a square, the picture below shows
pub overlaid_outside : (below : Picture) (pieces : List Piece) (x y : ℕ) → All (λ piece. holds piece.rect x y ≡ false) pieces → overlaid below pieces x y ≡ below x y
overlaid_outside below [] x y outside = refl
overlaid_outside below (piece ∷ pieces) x y outside =
    overlaid_outside (painted below piece) pieces x y (λ k d l. outside (suc k) d (suc-le-suc l)) ∙ painted_outside below piece x y (outside 0 piece (omega arith))

-- the last piece that has the square shows
pub overlaid_last :
    (below : Picture) (pieces : List Piece) (x y k : ℕ) (d : Piece) → k < length pieces → holds (get_or pieces k d).rect x y ≡ true
    → ((j : ℕ) → k < j → j < length pieces → holds (get_or pieces j d).rect x y ≡ false) → overlaid below pieces x y ≡ (get_or pieces k d).kind
overlaid_last below [] x y k d in_list inside later = absurd (omega arith)
overlaid_last below (piece ∷ pieces) x y zero d in_list inside later =
    let outside = All-from_get_or (λ p. holds p.rect x y ≡ false) pieces d (λ j l. later (suc j) (omega arith) (suc-le-suc l)) in
    overlaid_outside (painted below piece) pieces x y outside ∙ painted_inside below piece x y inside
overlaid_last below (piece ∷ pieces) x y (suc k) d in_list inside later =
    overlaid_last (painted below piece) pieces x y k d (le_of_suc-le-suc in_list) inside (λ j above l. later (suc j) (suc-le-suc above) (suc-le-suc l))

-- if the piece has the square, its kind is this
abbrev pub Agrees : ℕ → ℕ → ℕ → Piece → Type 0
Agrees x y kind piece = holds piece.rect x y ≡ true → piece.kind ≡ kind

-- pieces that agree with what shows below change nothing
pub overlaid_stays :
    (below : Picture) (pieces : List Piece) (x y kind : ℕ) → All (Agrees x y kind) pieces → below x y ≡ kind → overlaid below pieces x y ≡ kind
overlaid_stays below [] x y kind agree below_shows = below_shows
overlaid_stays below (piece ∷ pieces) x y kind agree below_shows =
    overlaid_stays (painted below piece) pieces x y kind (All-tail (Agrees x y kind) piece pieces agree)
    (cond_both (holds piece.rect x y) piece.kind (below x y) (λ k. k ≡ kind) (All-head (Agrees x y kind) piece pieces agree) (λ outside. below_shows))

-- where some piece has the square, and all agree on its kind, that kind shows
pub overlaid_agreed :
    (below : Picture) (pieces : List Piece) (x y kind : ℕ) → All (Agrees x y kind) pieces → Any (λ piece. holds piece.rect x y ≡ true) pieces → overlaid below pieces x y ≡ kind
overlaid_agreed below [] x y kind agree (k, p, within, is, inside) = absurd (omega arith)
overlaid_agreed below (piece ∷ pieces) x y kind agree (zero, p, within, is, inside) =
    let here : holds piece.rect x y ≡ true = ap (λ q. holds q.rect x y) is ∙ inside in
    overlaid_stays (painted below piece) pieces x y kind (All-tail (Agrees x y kind) piece pieces agree)
    (painted_inside below piece x y here ∙ All-head (Agrees x y kind) piece pieces agree here)
overlaid_agreed below (piece ∷ pieces) x y kind agree (suc k, p, within, is, inside) =
    overlaid_agreed (painted below piece) pieces x y kind (All-tail (Agrees x y kind) piece pieces agree) (k, p, le_of_suc-le-suc within, is, inside)
