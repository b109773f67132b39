-- What lists of areas are without several of their next pieces, and which squares these pieces are.
use Rattle.std.proofs.Common.{◌≡◌, ℕ, zero, suc, ◌+◌, ◌-◌, ◌*◌, ◌<◌, ◌≤◌, min, Bool, ◌||◌, true, false, cond, inl, inr, List, [], ◌∷◌, ◌++◌, Option, None, Some, refl, sym, ap, subst, ◌∙◌, le_refl, arith, lt-ltb, le-ltb}
use Rattle.std.specs.Option.{IsSomeAnd}
use Rattle.std.proofs.lemmas.Bool.{and_from, and_right, cases_lt, cond-false, cond-true, or_from, or_left, or_right}
use Rattle.std.proofs.lemmas.Bool.Decides.{nat_tests}
use Rattle.mls_errorplane.proofs.Common.{DropsAll, DropsIn, DropsTo, IsRectangleIn, Rect, Stair, Takes, dropped, first_piece_of, has_squares, holds, in_stair, piece_of, piece_side, rest_above, rest_beside, world}
use Rattle.mls_geom.proofs.Holds.{holds_between}

-- ---- drops
IsSomeAnd-map : {A : Type 0} (P Q : A → Type 0) (at : Option A) → ((a : A) → P a → Q a) → IsSomeAnd at P → IsSomeAnd at Q
IsSomeAnd-map P Q None leads is = is
IsSomeAnd-map P Q (Some a) leads is = leads a is

-- the pieces all lie in the rectangle
DropsTo-DropsIn : (rect : Rect) (stair : Stair) (count : ℕ) (old new : List Rect) → DropsTo rect stair count old new → DropsIn rect count old new
DropsTo-DropsIn rect stair zero old new (is, none) = is
DropsTo-DropsIn rect stair (suc count) old new (mid, before, drops, takes, is) = (
  mid,
  DropsTo-DropsIn rect before count old mid drops,
  IsSomeAnd-map (Takes rect before stair) (IsRectangleIn rect) (first_piece_of mid) (λ piece take. take.inside) takes,
  is,
)

pub DropsAll-DropsIn : (rect : Rect) (count : ℕ) (old new : List Rect) → DropsAll rect count old new → DropsIn rect count old new
DropsAll-DropsIn rect count old new (stair, drops, all) = DropsTo-DropsIn rect stair count old new drops

-- a stair may give way to one with the same squares of the rectangle
DropsTo-same :
    (rect : Rect) (before stair : Stair) (count : ℕ) (old new : List Rect) → stair.low ≤ stair.high → stair.high ≤ stair.low + piece_side
    → ((x y : ℕ) → holds rect x y ≡ true → in_stair stair x y ≡ in_stair before x y) → DropsTo rect before count old new → DropsTo rect stair count old new
DropsTo-same rect before stair zero old new up few same (is, none) = (is, λ x y here. same x y here ∙ none x y here)
DropsTo-same rect before stair (suc count) old new up few same (mid, first, drops, takes, is) = (
  mid,
  first,
  drops,
  IsSomeAnd-map (Takes rect first before) (Takes rect first stair) (first_piece_of mid)
      (λ piece take. record { inside = take.inside; up = up; few = few; squares = λ x y here. same x y here ∙ take.squares x y here }) takes,
  is,
)

-- the rows of an area, cut at a column
abbrev cut_at : Rect → ℕ → Stair
cut_at area column = record { cut = column; low = area.bottom; high = area.top }

same_cut : (row area : Rect) (column : ℕ) → row.bottom ≡ area.bottom → row.top ≡ area.top → cut_at row column ≡ cut_at area column
same_cut row area column low high =
    ap (λ (bottom : ℕ). cut_at (record row { bottom = bottom }) column) low ∙ ap (λ (top : ℕ). cut_at (record area { top = top }) column) high

-- cut at the right of a piece they have its squares, and those that they have cut at its left
beside_cut : (piece : Rect) (x y : ℕ) → piece.left < piece.right → piece.bottom < piece.top → in_stair (cut_at piece piece.right) x y ≡ (in_stair (cut_at piece piece.left) x y || holds piece x y)
beside_cut piece x y wide tall = grind (arith, nat_tests)

-- one piece more of a row
DropsTo-more :
    (rect row : Rect) (count : ℕ) (old : List Rect) (first : Rect) (rest : List Rect) → row.bottom ≡ first.bottom → row.top ≡ min first.top (first.bottom + piece_side)
    → IsRectangleIn rect (piece_of first) → DropsTo rect (cut_at row first.left) count old (first ∷ rest)
    → DropsTo rect (cut_at row (min first.right (first.left + piece_side))) (suc count) old (dropped (first ∷ rest))
DropsTo-more rect row count old first rest low high inside drops =
    let piece = piece_of first in (
      first ∷ rest,
      cut_at row first.left,
      drops,
      record {
        inside = inside;
        up = omega (arith, low, high, inside.tall);
        few = omega (arith, low, high);
        squares = λ x y here.
            ap (λ stair. in_stair stair x y) (same_cut row piece piece.right low high) ∙ beside_cut piece x y inside.wide inside.tall
            ∙ ap (λ stair. in_stair stair x y || holds piece x y) (sym (same_cut row piece piece.left low high));
      },
      refl,
    )

-- squares beyond a stair, and in it
beyond : (stair : Stair) (x y : ℕ) → stair.cut ≤ x → stair.low ≤ y → in_stair stair x y ≡ false
beyond stair x y right over = or_from _ _ (le-ltb y stair.low over) (and_right _ _ (le-ltb x stair.cut right))

left_of : (stair : Stair) (x y : ℕ) → x < stair.cut → y < stair.high → in_stair stair x y ≡ true
left_of stair x y left under = or_right _ _ (and_from _ _ (lt-ltb y stair.high under) (lt-ltb x stair.cut left))

below_all : (stair : Stair) (x y : ℕ) → y < stair.low → in_stair stair x y ≡ true
below_all stair x y under = or_left _ _ (lt-ltb y stair.low under)

-- ---- lists that begin with an area, if it has squares
abbrev pub with_area : Rect → List Rect → List Rect
with_area area rest = cond (has_squares area) (area ∷ rest) rest

filtered : (a b : Rect) (p q : Bool) (rest : List Rect) → cond p (a ∷ cond q (b ∷ []) []) (cond q (b ∷ []) []) ++ rest ≡ cond p (a ∷ cond q (b ∷ rest) rest) (cond q (b ∷ rest) rest)
filtered a b true true rest = refl
filtered a b true false rest = refl
filtered a b false true rest = refl
filtered a b false false rest = refl

dropped-rests : (first : Rect) (rest : List Rect) → dropped (first ∷ rest) ≡ with_area (rest_beside first) (with_area (rest_above first) rest)
dropped-rests first rest = filtered (rest_beside first) (rest_above first) (has_squares (rest_beside first)) (has_squares (rest_above first)) rest

with_area-some : (area : Rect) (rest : List Rect) → area.left < area.right → area.bottom < area.top → with_area area rest ≡ area ∷ rest
with_area-some area rest wide tall = cond-true (has_squares area) (area ∷ rest) rest (grind (arith, nat_tests))

with_area-narrow : (area : Rect) (rest : List Rect) → area.right ≤ area.left → with_area area rest ≡ rest
with_area-narrow area rest narrow = cond-false (has_squares area) (area ∷ rest) rest (grind (arith, nat_tests))

with_area-flat : (area : Rect) (rest : List Rect) → area.top ≤ area.bottom → with_area area rest ≡ rest
with_area-flat area rest flat = cond-false (has_squares area) (area ∷ rest) rest (grind (arith, nat_tests))

-- ---- pieces of one row
-- the area from a column on
abbrev pub from_column : Rect → ℕ → Rect
from_column area column = record area { left = column }

-- an area no higher than a piece, without its first piece
low-dropped : (area : Rect) (rest : List Rect) → area.top ≤ area.bottom + piece_side
    → dropped (area ∷ rest) ≡ with_area (from_column area (min area.right (area.left + piece_side))) rest
low-dropped area rest low =
    let same : min area.top (area.bottom + piece_side) ≡ area.top = omega (arith, low) in
    dropped-rests area rest
    ∙ ap (with_area (rest_beside area)) (with_area-flat (rest_above area) rest (omega (arith, same)))
    ∙ ap (λ top. with_area (record { left = min area.right (area.left + piece_side); bottom = area.bottom; right = area.right; top = top }) rest) same

-- the first pieces of an area no higher than a piece
row-DropsTo :
    (rect area : Rect) (old rest : List Rect) (few count : ℕ) → area.left < area.right → area.bottom < area.top → area.top ≤ area.bottom + piece_side
    → piece_side * count < (area.right - area.left) + piece_side → rect.left ≤ area.left → min area.right (area.left + piece_side * count) ≤ rect.right
    → rect.bottom ≤ area.bottom → area.top ≤ rect.top → DropsTo rect (cut_at area area.left) few old (area ∷ rest)
    → DropsTo rect (cut_at area (min area.right (area.left + piece_side * count))) (few + count) old (with_area (from_column area (min area.right (area.left + piece_side * count))) rest)
row-DropsTo rect area old rest few zero wide tall low fits left right below above drops =
    let same : min area.right (area.left + piece_side * zero) ≡ area.left = omega (arith, wide) in
    let counted : few ≡ few + zero = omega arith in
    subst (λ c. DropsTo rect (cut_at area c) (few + zero) old (with_area (from_column area c) rest)) (sym same)
    (subst (λ n. DropsTo rect (cut_at area area.left) n old (with_area area rest)) counted
    (subst (DropsTo rect (cut_at area area.left) few old) (sym (with_area-some area rest wide tall)) drops))
row-DropsTo rect area old rest few (suc count) wide tall low fits left right below above drops =
    let column = area.left + piece_side * count in
    let next : piece_side * suc count ≡ piece_side * count + piece_side = omega arith in
    let before : column < area.right = omega (arith, fits, next) in
    let here : min area.right column ≡ column = omega (arith, before) in
    let area' = from_column area column in
    let so_far = row-DropsTo rect area old rest few count wide tall low (omega (arith, fits, next)) left (omega (arith, right, next, before)) below above drops in
    let at : DropsTo rect (cut_at area column) (few + count) old (area' ∷ rest) =
    subst (DropsTo rect (cut_at area column) (few + count) old) (with_area-some area' rest before tall)
    (subst (λ c. DropsTo rect (cut_at area c) (few + count) old (with_area (from_column area c) rest)) here so_far) in
    let inside : IsRectangleIn rect (piece_of area') = record {
      left_in = omega (arith, left);
      wide = omega (arith, before);
      right_in = omega (arith, right, next);
      bottom_in = below;
      tall = omega (arith, tall);
      top_in = omega (arith, above);
    } in
    let on : min area.right (column + piece_side) ≡ min area.right (area.left + piece_side * suc count) = omega (arith, next) in
    let counted : suc (few + count) ≡ few + suc count = omega arith in
    subst (λ n. DropsTo rect (cut_at area (min area.right (area.left + piece_side * suc count))) n old (with_area (from_column area (min area.right (area.left + piece_side * suc count))) rest)) counted
    (subst (λ c. DropsTo rect (cut_at area c) (suc (few + count)) old (with_area (from_column area c) rest)) on
    (subst (DropsTo rect (cut_at area (min area.right (column + piece_side))) (suc (few + count)) old) (low-dropped area' rest low)
    (DropsTo-more rect area (few + count) old area' rest refl (omega (arith, low)) inside at)))

-- and all of them, where they are the rectangle
pub row-DropsAll :
    (rect area : Rect) (rest : List Rect) (count : ℕ) → area.left < area.right → area.bottom < area.top → area.top ≤ area.bottom + piece_side
    → piece_side * count < (area.right - area.left) + piece_side → rect.left ≡ area.left → rect.right ≡ min area.right (area.left + piece_side * count)
    → rect.bottom ≡ area.bottom → rect.top ≡ area.top
    → DropsAll rect count (area ∷ rest) (with_area (from_column area (min area.right (area.left + piece_side * count))) rest)
row-DropsAll rect area rest count wide tall low fits left right below above =
    let column = min area.right (area.left + piece_side * count) in
    let none : DropsTo rect (cut_at area area.left) zero (area ∷ rest) (area ∷ rest) =
    (refl, λ x y here. let lines = holds_between rect x y here in beyond (cut_at area area.left) x y (omega (arith, left, lines.0)) (omega (arith, below, lines.2))) in
    let counted : zero + count ≡ count = omega arith in (
      cut_at area column,
      subst (λ n. DropsTo rect (cut_at area column) n (area ∷ rest) (with_area (from_column area column) rest)) counted
          (row-DropsTo rect area (area ∷ rest) rest zero count wide tall low fits (omega (arith, left)) (omega (arith, right)) (omega (arith, below)) (omega (arith, above)) none),
      λ x y here. let lines = holds_between rect x y here in left_of (cut_at area column) x y (omega (arith, right, lines.1)) (omega (arith, above, lines.3)),
    )

-- ---- the first piece alone
first-DropsAll : (first : Rect) (rest : List Rect) → first.left < first.right → first.bottom < first.top → DropsAll (piece_of first) 1 (first ∷ rest) (dropped (first ∷ rest))
first-DropsAll first rest wide tall =
    let piece = piece_of first in
    let none : DropsTo piece (cut_at piece first.left) 0 (first ∷ rest) (first ∷ rest) =
    (refl, λ x y here. let lines = holds_between piece x y here in beyond (cut_at piece first.left) x y lines.0 lines.2) in (
      cut_at piece piece.right,
      DropsTo-more piece piece 0 (first ∷ rest) first rest refl refl
          (record { left_in = omega arith; wide = omega (arith, wide); right_in = omega arith; bottom_in = omega arith; tall = omega (arith, tall); top_in = omega arith }) none,
      λ x y here. let lines = holds_between piece x y here in left_of (cut_at piece piece.right) x y lines.1 lines.3,
    )

pub first_piece-DropsAll : (areas : List Rect) (piece : Rect) → Some piece ≡ first_piece_of areas → IsRectangleIn world piece → DropsAll piece 1 areas (dropped areas)
first_piece-DropsAll [] piece is legal = absurd (cc is)
first_piece-DropsAll (first ∷ rest) piece is legal =
    let same : piece ≡ piece_of first = cc is in
    let wide : first.left < first.right = omega (arith, legal.wide, ap (λ (r : Rect). r.left) same, ap (λ (r : Rect). r.right) same) in
    let tall : first.bottom < first.top = omega (arith, legal.tall, ap (λ (r : Rect). r.bottom) same, ap (λ (r : Rect). r.top) same) in
    subst (λ (e : Rect). DropsAll e 1 (first ∷ rest) (dropped (first ∷ rest))) (sym same) (first-DropsAll first rest wide tall)

-- ---- whole rows of pieces
-- the area from a row on
abbrev pub from_row : Rect → ℕ → Rect
from_row area row = record area { bottom = row }

-- the first row of an area
abbrev first_row : Rect → Rect
first_row area = record area { top = min area.top (area.bottom + piece_side) }

first-inside :
    (rect area : Rect) → area.left < area.right → area.bottom < area.top → rect.left ≤ area.left → area.right ≤ rect.right → rect.bottom ≤ area.bottom
    → min area.top (area.bottom + piece_side) ≤ rect.top → IsRectangleIn rect (piece_of area)
first-inside rect area wide tall left right below above = record {
  left_in = left;
  wide = omega (arith, wide);
  right_in = omega (arith, right);
  bottom_in = below;
  tall = omega (arith, tall);
  top_in = above;
}

-- the first row of an area
first_row-DropsTo :
    (rect area : Rect) (old rest : List Rect) (few columns : ℕ) → area.left < area.right → area.bottom < area.top
    → piece_side * columns < (area.right - area.left) + piece_side → area.right ≤ area.left + piece_side * columns → rect.left ≤ area.left → area.right ≤ rect.right
    → rect.bottom ≤ area.bottom → min area.top (area.bottom + piece_side) ≤ rect.top → DropsTo rect (cut_at (first_row area) area.left) few old (area ∷ rest)
    → DropsTo rect (cut_at (first_row area) area.right) (few + columns) old (with_area (from_row area (min area.top (area.bottom + piece_side))) rest)
first_row-DropsTo rect area old rest few zero wide tall fits whole left right below above drops = absurd (omega (arith, wide, whole))
first_row-DropsTo rect area old rest few (suc more) wide tall fits whole left right below above drops =
    let beside = rest_beside area in
    let others = with_area (rest_above area) rest in
    let one : DropsTo rect (cut_at (first_row area) beside.left) (suc few) old (with_area beside others) =
    subst (DropsTo rect (cut_at (first_row area) beside.left) (suc few) old) (dropped-rests area rest)
    (DropsTo-more rect (first_row area) few old area rest refl refl (first-inside rect area wide tall left right below above) drops) in
    let count : suc few + more ≡ few + suc more = omega arith in
    elim (cases_lt (area.left + piece_side) area.right) [
      | inl on ↦
          let here : min area.right (area.left + piece_side) ≡ area.left + piece_side = omega (arith, on) in
          let next : piece_side * suc more ≡ piece_side * more + piece_side = omega arith in
          let past : min area.right (beside.left + piece_side * more) ≡ area.right = omega (arith, whole, here, next) in
          let at : DropsTo rect (cut_at beside beside.left) (suc few) old (beside ∷ others) =
          subst (DropsTo rect (cut_at (first_row area) beside.left) (suc few) old) (with_area-some beside others (omega (arith, on)) (omega (arith, tall))) one in
          let later =
          row-DropsTo rect beside old others (suc few) more (omega (arith, on)) (omega (arith, tall)) (omega arith) (omega (arith, fits, here, next)) (omega (arith, left)) (omega (arith, right)) below
          above at in
          subst (λ n. DropsTo rect (cut_at (first_row area) area.right) n old others) count
          (subst (DropsTo rect (cut_at (first_row area) area.right) (suc few + more) old) (with_area-narrow (from_column beside area.right) others (le_refl area.right))
          (subst (λ c. DropsTo rect (cut_at beside c) (suc few + more) old (with_area (from_column beside c) others)) past later))
      | inr over ↦
          let only : more ≡ zero = omega (arith, fits, over) in
          let here : min area.right (area.left + piece_side) ≡ area.right = omega (arith, over) in
          let counted : suc few ≡ few + suc more = omega (arith, only) in
          subst (λ n. DropsTo rect (cut_at (first_row area) area.right) n old others) counted
          (subst (λ c. DropsTo rect (cut_at (first_row area) c) (suc few) old others) here
          (subst (DropsTo rect (cut_at (first_row area) beside.left) (suc few) old) (with_area-narrow beside others (omega (arith, over))) one))
    ]

-- a row that is cut at its right has the squares of the next one that is cut at its left
next_cut :
    (row next : Rect) (x y : ℕ) → row.bottom ≤ row.top → next.bottom ≡ row.top → next.left ≤ x → x < row.right
    → in_stair (cut_at next next.left) x y ≡ in_stair (cut_at row row.right) x y
next_cut row next x y up on from to = grind (arith, nat_tests)

-- the first rows of an area
rows-DropsTo :
    (rect area : Rect) (rest : List Rect) (columns rows : ℕ) → area.left < area.right → area.bottom < area.top
    → piece_side * columns < (area.right - area.left) + piece_side → area.right ≤ area.left + piece_side * columns → piece_side * rows < (area.top - area.bottom) + piece_side
    → rect.left ≡ area.left → rect.right ≡ area.right → rect.bottom ≡ area.bottom → min area.top (area.bottom + piece_side * rows) ≤ rect.top
    → DropsTo rect (cut_at (first_row (from_row area (min area.top (area.bottom + piece_side * rows)))) area.left) (columns * rows) (area ∷ rest)
    (with_area (from_row area (min area.top (area.bottom + piece_side * rows))) rest)
rows-DropsTo rect area rest columns zero wide tall fits whole fit left right below above =
    let none : zero ≡ columns * zero = omega arith in
    let same : area.bottom ≡ min area.top (area.bottom + piece_side * zero) = omega (arith, tall) in
    subst (λ n. DropsTo rect (cut_at (first_row (from_row area (min area.top (area.bottom + piece_side * zero)))) area.left) n (area ∷ rest)
    (with_area (from_row area (min area.top (area.bottom + piece_side * zero))) rest)) none
    (subst (λ row. DropsTo rect (cut_at (first_row (from_row area row)) area.left) zero (area ∷ rest) (with_area (from_row area row) rest)) same (
      with_area-some area rest wide tall,
      λ x y here. let lines = holds_between rect x y here in
          beyond (cut_at (first_row area) area.left) x y (omega (arith, left, lines.0)) (omega (arith, below, lines.2)),
    ))
rows-DropsTo rect area rest columns (suc rows) wide tall fits whole fit left right below above =
    let row = area.bottom + piece_side * rows in
    let next : piece_side * suc rows ≡ piece_side * rows + piece_side = omega arith in
    let before : row < area.top = omega (arith, fit, next) in
    let here : min area.top row ≡ row = omega (arith, before) in
    let area' = from_row area row in
    let so_far = rows-DropsTo rect area rest columns rows wide tall fits whole (omega (arith, fit, next)) left right below (omega (arith, above, next, before)) in
    let at : DropsTo rect (cut_at (first_row area') area.left) (columns * rows) (area ∷ rest) (area' ∷ rest) =
    subst (DropsTo rect (cut_at (first_row area') area.left) (columns * rows) (area ∷ rest)) (with_area-some area' rest wide before)
    (subst (λ r. DropsTo rect (cut_at (first_row (from_row area r)) area.left) (columns * rows) (area ∷ rest) (with_area (from_row area r) rest)) here so_far) in
    let one =
    first_row-DropsTo rect area' (area ∷ rest) rest (columns * rows) columns wide before fits whole (omega (arith, left)) (omega (arith, right)) (omega (arith, below)) (omega (arith, above, next)) at in
    let top = min area.top (row + piece_side) in
    let then : DropsTo rect (cut_at (first_row (from_row area top)) area.left) (columns * rows + columns) (area ∷ rest) (with_area (from_row area top) rest) =
    DropsTo-same rect (cut_at (first_row area') area.right) (cut_at (first_row (from_row area top)) area.left) (columns * rows + columns) (area ∷ rest) (with_area (from_row area top) rest)
    (omega arith) (omega arith)
    (λ x y inside. let lines = holds_between rect x y inside in
    next_cut (first_row area') (first_row (from_row area top)) x y (omega (arith, before)) refl (omega (arith, left, lines.0)) (omega (arith, right, lines.1))) one in
    let on : top ≡ min area.top (area.bottom + piece_side * suc rows) = omega (arith, next) in
    let count : columns * rows + columns ≡ columns * suc rows = omega arith in
    subst (λ n. DropsTo rect (cut_at (first_row (from_row area (min area.top (area.bottom + piece_side * suc rows)))) area.left) n (area ∷ rest)
    (with_area (from_row area (min area.top (area.bottom + piece_side * suc rows))) rest)) count
    (subst (λ r. DropsTo rect (cut_at (first_row (from_row area r)) area.left) (columns * rows + columns) (area ∷ rest) (with_area (from_row area r) rest)) on then)

-- and all of them, where they are the rectangle
pub rows-DropsAll :
    (rect area : Rect) (rest : List Rect) (columns rows : ℕ) → area.left < area.right → area.bottom < area.top
    → piece_side * columns < (area.right - area.left) + piece_side → area.right ≤ area.left + piece_side * columns → piece_side * rows < (area.top - area.bottom) + piece_side
    → rect.left ≡ area.left → rect.right ≡ area.right → rect.bottom ≡ area.bottom → rect.top ≡ min area.top (area.bottom + piece_side * rows)
    → DropsAll rect (columns * rows) (area ∷ rest) (with_area (from_row area (min area.top (area.bottom + piece_side * rows))) rest)
rows-DropsAll rect area rest columns rows wide tall fits whole fit left right below above =
    let row = min area.top (area.bottom + piece_side * rows) in (
      cut_at (first_row (from_row area row)) area.left,
      rows-DropsTo rect area rest columns rows wide tall fits whole fit left right below (omega (arith, above)),
      λ x y here. let lines = holds_between rect x y here in below_all (cut_at (first_row (from_row area row)) area.left) x y (omega (arith, above, lines.3)),
    )
