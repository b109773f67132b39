-- Squares of a block that were given a kind.
use Rattle.std.proofs.Common.{◌≡◌, ℕ, ◌≤◌, inl, inr, true, false, List, ◌++◌, length, take, drop, refl, sym, ap, subst, ◌∙◌, arith}
use Rattle.std.specs.Prelude.{if◌then◌else◌, replicate, slice_index}
use Rattle.std.proofs.lemmas.Bool.{cases_Bool, cases_lt}
use Rattle.std.proofs.lemmas.Bool.Decides.{nat_tests}
use Rattle.std.proofs.lemmas.List.{append-nil, drop_all, get_or-replicate, get_or_past, length-replicate, take_all}
use Rattle.mls_geom.specs.Pictures.{empty_picture, painted}
use Rattle.mls_geom.specs.Rects.{Rect, IsRectangleIn, holds}
use Rattle.mls_geom.specs.declared.piece.Piece.{Piece}
use Rattle.mls_layout.specs.Grids.{grid_kind, grid_picture, place_in_block}

-- the rows of an area before a line
abbrev pub rows_to : ℕ → Rect → Rect
rows_to line area = record { left = area.left; bottom = area.bottom; right = area.right; top = line }

-- the squares of an area of the block have a kind, and the other squares of the block are as they were
abbrev pub HasFilled : Rect → Rect → ℕ → List ℕ → List ℕ → Type 0
HasFilled block area kind old new = (x y : ℕ) → holds block x y ≡ true → grid_kind new block x y ≡ (if holds area x y then kind else grid_kind old block x y)

-- the grid's picture at a square of the block, and elsewhere
pub grid-inside : (squares : List ℕ) (block : Rect) (x y : ℕ) → holds block x y ≡ true → grid_picture squares block x y ≡ grid_kind squares block x y
unfolding grid_picture
grid-inside squares block x y inside = ap (λ b. if b then grid_kind squares block x y else 0) inside

pub grid-outside : (squares : List ℕ) (block : Rect) (x y : ℕ) → holds block x y ≡ false → grid_picture squares block x y ≡ 0
unfolding grid_picture
grid-outside squares block x y outside = ap (λ b. if b then grid_kind squares block x y else 0) outside

-- a square of an area of the block is one of the block
pub area-inside : (block area : Rect) (x y : ℕ) → IsRectangleIn block area → holds area x y ≡ true → holds block x y ≡ true
area-inside block area x y legal inside = grind (arith, nat_tests)

pub area-outside : (block area : Rect) (x y : ℕ) → IsRectangleIn block area → holds block x y ≡ false → holds area x y ≡ false
area-outside block area x y legal outside = grind (arith, nat_tests)

filled-square : (old new : List ℕ) (block : Rect) (piece : Piece) (x y : ℕ) → IsRectangleIn block piece.rect → HasFilled block piece.rect piece.kind old new
    → grid_picture new block x y ≡ painted (grid_picture old block) piece x y
filled-square old new block piece x y legal filled = elim (cases_Bool (holds block x y)) [
  | inl inside ↦ grid-inside new block x y inside ∙ filled x y inside ∙ ap (λ k. if holds piece.rect x y then piece.kind else k) (sym (grid-inside old block x y inside))
  | inr outside ↦
      let apart = area-outside block piece.rect x y legal outside in
      grid-outside new block x y outside ∙ sym (grid-outside old block x y outside) ∙ ap (λ b. if b then piece.kind else grid_picture old block x y) (sym apart)
]

cleared-square : (old new : List ℕ) (block : Rect) (x y : ℕ) → HasFilled block block 0 old new → grid_picture new block x y ≡ 0
cleared-square old new block x y filled = elim (cases_Bool (holds block x y)) [
  | inl inside ↦ grid-inside new block x y inside ∙ filled x y inside ∙ ap (λ b. if b then 0 else grid_kind old block x y) inside
  | inr outside ↦ grid-outside new block x y outside
]

-- pictures that are alike in each square are one
pub same_pictures : (a b : ℕ → ℕ → ℕ) → ((x y : ℕ) → a x y ≡ b x y) → a ≡ b
same_pictures a b same i x y = same x y i

-- a grid of zeros is space
zero-at : (n k : ℕ) → slice_index (replicate n 0) k ≡ 0
zero-at n k = elim (cases_lt k n) [
  | inl within ↦ get_or-replicate n k 0 0 within
  | inr past ↦ get_or_past (replicate n 0) k 0 (omega (arith, length-replicate {A = ℕ} n 0))
]

pub new-grid : (squares : List ℕ) (n : ℕ) (block : Rect) → squares ≡ replicate n 0 → grid_picture squares block ≡ empty_picture
unfolding grid_picture
new-grid squares n block zeros =
    same_pictures _ _ (λ x y. ap (λ (ks : List ℕ). grid_picture ks block x y) zeros ∙ elim (holds block x y) as (λ b. (if b then grid_kind (replicate n 0) block x y else 0) ≡ 0) [
      | true ↦ zero-at n (place_in_block block x y)
      | false ↦ refl
    ])

-- ---- a list that was lent
pub given-back : (old lent given : List ℕ) (n : ℕ) → lent ≡ old → length given ≡ length lent → length lent ≡ n → take n (given ++ drop (length given) old) ≡ given
given-back old lent given n is same all =
    let few : length old ≤ length given = omega (arith, ap length is) in
    ap (λ (rest : List ℕ). take n (given ++ rest)) (drop_all (length given) old few) ∙ ap (take n) (append-nil given) ∙ take_all n given (omega arith)

pub filled-grid :
    (old lent given new : List ℕ) (block : Rect) (piece : Piece) → IsRectangleIn block piece.rect → lent ≡ old → new ≡ given → HasFilled block piece.rect piece.kind lent given
    → grid_picture new block ≡ painted (grid_picture old block) piece
filled-grid old lent given new block piece legal is back filled =
    let here = subst (λ (ks : List ℕ). HasFilled block piece.rect piece.kind ks new) is (subst (λ (ks : List ℕ). HasFilled block piece.rect piece.kind lent ks) (sym back) filled) in
    same_pictures _ _ (λ x y. filled-square old new block piece x y legal here)

pub cleared-grid : (lent given new : List ℕ) (block : Rect) → new ≡ given → HasFilled block block 0 lent given → grid_picture new block ≡ empty_picture
cleared-grid lent given new block back filled =
    let here = subst (λ (ks : List ℕ). HasFilled block block 0 lent ks) (sym back) filled in
    same_pictures _ _ (λ x y. cleared-square lent new block x y here)
