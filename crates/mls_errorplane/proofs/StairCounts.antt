-- The strips of two pictures along a stair.
use Rattle.std.proofs.Common.{◌≡◌, ℕ, ◌+◌, ◌-◌, ◌*◌, ◌<◌, ◌≤◌, ◌==◌, ◌&&◌, Bool, true, false, cond, if◌then◌else◌, nat_le, nat_lt, refl, sym, ap, ◌∙◌, inl, inr, le_refl, arith, eq-eqb, eqb-true, lt-ltb, sum_by, le-leb, le-ltb}
use Rattle.std.proofs.lemmas.Bool.{and_from, and_left, and_right, cases_Bool, cases_lt, cond-false, cond-true, or_from, or_left, or_right}
use Rattle.mls_errorplane.proofs.Common.{Picture, Rect, columns, in_stair, is_corner, rows, tile_count}
use Rattle.mls_errorplane.proofs.RangeSums.{sum_by-plus}
use Rattle.mls_errorplane.proofs.StairCorners.{AgreeLeft, IsAsBelow, corner, corner-IsAsBelow, corner-left, corner_above_corners, from_row, is_corner-agree, is_corner-from_row, starts_run-agree, touches_cut, touches_cut-once}
use Rattle.mls_errorplane.proofs.StairSums.{TurnsAt, in_band, sum_by-in_band, sum_by-le, sum_by-once, sum_by-transposed, sum_by-TurnsAt, sum_by-zero}

-- ---- the squares of a stair
-- below row low the one picture, from row high up the other; in the rows between, the one left of a column and the other from that column on
abbrev pub stair : ℕ → ℕ → ℕ → Picture → Picture → Picture
stair cut low high one other x y = if in_stair (record { cut = cut; low = low; high = high }) x y then one x y else other x y

module _ (one other : Picture) (cut low high x y : ℕ) where
  abbrev is_one : Bool
  is_one = in_stair (record { cut = cut; low = low; high = high }) x y

  stair-below : y < low → stair cut low high one other x y ≡ one x y
  stair-below under = cond-true is_one (one x y) (other x y) (or_left _ _ (lt-ltb y low under))

  stair-left : y < high → x < cut → stair cut low high one other x y ≡ one x y
  stair-left under left = cond-true is_one (one x y) (other x y) (or_right _ _ (and_from _ _ (lt-ltb y high under) (lt-ltb x cut left)))

  stair-right : low ≤ y → cut ≤ x → stair cut low high one other x y ≡ other x y
  stair-right from right = cond-false is_one (one x y) (other x y) (or_from _ _ (le-ltb y low from) (and_right _ _ (le-ltb x cut right)))

  stair-above : low ≤ y → high ≤ y → stair cut low high one other x y ≡ other x y
  stair-above from over = cond-false is_one (one x y) (other x y) (or_from _ _ (le-ltb y low from) (and_left _ _ (le-ltb y high over)))

-- ---- a column of a stair
at_most_one : (b : Bool) → cond {A = ℕ} b 1 0 ≤ 1
at_most_one true = omega arith
at_most_one false = omega arith

-- a stair in an extent, none of it below a base; from the line `even` on each row of its band is as the one below, in both pictures
record StairIn (extent : Rect) (one other : Picture) (base low high even : ℕ) : Type 0 where
  inside : extent.bottom ≤ base
  over : base ≤ low
  up : low ≤ high
  some : low < even
  alike : (y : ℕ) → even ≤ y → y < high → IsAsBelow extent one y × IsAsBelow extent other y

module _ (extent : Rect) (one other : Picture) (cut base low high even : ℕ) (lies : StairIn extent one other base low high even) where
  abbrev both : Picture
  both = stair cut low high one other

  up : low ≤ high
  up = lies.up

  -- the part of the extent in which the other picture counts
  abbrev part : Rect
  part = from_row extent base

  -- what may be a corner of the stair beside those of the two pictures
  abbrev more : ℕ → ℕ → ℕ
  more x y = in_band low even (cond (touches_cut extent one cut y x) 1 0 + cond (x == cut) 1 0) y

  -- above the base the corners of the other picture are those of the whole extent
  corner-part : (x y : ℕ) → base < y → corner part other x y ≡ corner extent other x y
  corner-part x y over = ap (λ is. cond {A = ℕ} is 1 0) (is_corner-from_row extent other base x y lies.inside over)

  -- below the band the corners are those of the one picture
  corner-below : (x y : ℕ) → y < low → corner extent both x y ≤ corner extent one x y + more x y
  corner-below x y under =
      let same : corner extent both x y ≡ corner extent one x y =
      ap (λ is. cond {A = ℕ} is 1 0)
      (is_corner-agree extent both one x y (λ z _. stair-below one other cut low high z y under) (λ z _. stair-below one other cut low high z (y - 1) (omega (arith, under)))) in
      omega (arith, same)

  -- above its top row, and right of the column above its lowest row, those of the other
  corner-above : (x y : ℕ) → high < y → corner extent both x y ≤ corner part other x y
  corner-above x y over =
      let same : corner extent both x y ≡ corner extent other x y =
      ap (λ is. cond {A = ℕ} is 1 0)
      (is_corner-agree extent both other x y (λ z _. stair-above one other cut low high z y (omega (arith, up, over)) (omega (arith, over)))
      (λ z _. stair-above one other cut low high z (y - 1) (omega (arith, up, over)) (omega (arith, over)))) in
      omega (arith, same, corner-part x y (omega (arith, lies.over, up, over)))

  corner-right : (x y : ℕ) → cut < x → low < y → corner extent both x y ≤ corner part other x y
  corner-right x y right over =
      let same : corner extent both x y ≡ corner extent other x y =
      ap (λ is. cond {A = ℕ} is 1 0)
      (is_corner-agree extent both other x y (λ z from. stair-right one other cut low high z y (omega (arith, over)) (omega (arith, right, from)))
      (λ z from. stair-right one other cut low high z (y - 1) (omega (arith, over)) (omega (arith, right, from)))) in
      omega (arith, same, corner-part x y (omega (arith, lies.over, over)))

  -- in the band, up to the column, those of the one and what is more
  more-band : (x y : ℕ) → low ≤ y → y < even → more x y ≡ cond (touches_cut extent one cut y x) 1 0 + cond (x == cut) 1 0
  more-band x y from under =
      cond-true {A = ℕ} (nat_le low y && nat_lt y even) (cond (touches_cut extent one cut y x) 1 0 + cond (x == cut) 1 0) 0
      (and_from _ _ (le-leb low y from) (lt-ltb y even under))

  agree_left : (y : ℕ) → y < high → AgreeLeft one both cut y
  agree_left y under z left = sym (stair-left one other cut low high z y under left)

  corner-uneven : (x y : ℕ) → x < extent.right → x ≤ cut → low ≤ y → y < high → y < even → corner extent both x y ≤ corner extent one x y + more x y
  corner-uneven x y within left from under uneven = elim (cases_lt x cut) [
    | inl before ↦
        let touched = corner-left extent one both cut x y within before (agree_left y under) (agree_left (y - 1) (omega (arith, under))) in
        omega (arith, touched, more-band x y from uneven)
    | inr there ↦
        let at_cut = cond-true {A = ℕ} (x == cut) 1 0 (eq-eqb x cut (omega (arith, left, there))) in
        omega (arith, at_most_one (is_corner extent both x y), at_cut, more-band x y from uneven)
  ]

  -- and none where the row is as the one below
  both-as_below : (y : ℕ) → even ≤ y → y < high → IsAsBelow extent both y
  both-as_below y above under x from within =
      let alike = lies.alike y above under in
      let over : low ≤ y - 1 = omega (arith, lies.some, above) in
      elim (cases_lt x cut) [
        | inl left ↦ stair-left one other cut low high x y under left ∙ alike.0 x from within ∙ sym (stair-left one other cut low high x (y - 1) (omega (arith, under)) left)
        | inr right ↦ stair-right one other cut low high x y (omega (arith, over)) right ∙ alike.1 x from within ∙ sym (stair-right one other cut low high x (y - 1) over right)
      ]

  corner-band : (x y : ℕ) → extent.left ≤ x → x < extent.right → x ≤ cut → low ≤ y → y < high → corner extent both x y ≤ corner extent one x y + more x y
  corner-band x y first within left from under = elim (cases_lt y even) [
    | inl uneven ↦ corner-uneven x y within left from under uneven
    | inr above ↦
        let none = corner-IsAsBelow extent both x y first within (omega (arith, lies.inside, lies.over, lies.some, above)) (both-as_below y above under) in
        omega (arith, none)
  ]

  -- so up a column the stair turns from the one picture to the other
  column-right : (x : ℕ) → cut < x → TurnsAt (corner extent both x) (corner extent one x) (corner part other x) (more x) base low
  column-right x right = record {
    below = λ y under. corner-below x y under;
    at =
        corner_above_corners extent both other base x low
        (starts_run-agree extent both other x low (stair-right one other cut low high (x - 1) low (le_refl low) (omega (arith, right)))
        (stair-right one other cut low high x low (le_refl low) (omega (arith, right))))
        lies.over;
    above = λ y over. corner-right x y right over;
  }

  column-left : (x : ℕ) → extent.left ≤ x → x < extent.right → x ≤ cut → TurnsAt (corner extent both x) (corner extent one x) (corner part other x) (more x) base high
  column-left x first within left = record {
    below = λ y under. elim (cases_lt y low) [
      | inl lower ↦ corner-below x y lower
      | inr from ↦ corner-band x y first within left from under
    ];
    at =
        corner_above_corners extent both other base x high
        (starts_run-agree extent both other x high (stair-above one other cut low high (x - 1) high up (le_refl high)) (stair-above one other cut low high x high up (le_refl high)))
        (omega (arith, lies.over, up));
    above = λ y over. corner-above x y over;
  }

  -- the corners of a column
  abbrev column : (ℕ → ℕ → ℕ) → ℕ → ℕ
  column f x = sum_by (f x) (rows extent)

  abbrev part_column : ℕ → ℕ
  part_column x = sum_by (corner part other x) (rows part)

  column-le : (x : ℕ) → extent.left ≤ x → x < extent.right → column (corner extent both) x ≤ column (corner extent one) x + part_column x + column more x
  column-le x first within = elim (cases_lt cut x) [
    | inl right ↦
        sum_by-TurnsAt (corner extent both x) (corner extent one x) (corner part other x) (more x) extent.bottom base low extent.top lies.inside lies.over (column-right x right)
    | inr left ↦
        sum_by-TurnsAt (corner extent both x) (corner extent one x) (corner part other x) (more x) extent.bottom base high extent.top lies.inside (omega (arith, lies.over, up))
        (column-left x first within left)
  ]

  -- ---- all columns
  -- a row of the band has two squares more at most
  row-more : (y : ℕ) → sum_by (λ x. more x y) (columns extent) ≤ in_band low even 2 y
  row-more y = elim (cases_Bool (nat_le low y && nat_lt y even)) [
    | inl here ↦
        let touching =
        sum_by-once (touches_cut extent one cut y) extent.left (extent.right - extent.left)
        (λ i j from before to. touches_cut-once extent one cut y i j from before (omega (arith, from, before, to))) in
        let at_cut =
        sum_by-once (λ x. x == cut) extent.left (extent.right - extent.left)
        (λ i j _ before _ first second. omega (arith, before, eqb-true i cut first, eqb-true j cut second)) in
        let parts =
        sum_by-plus (λ x. cond {A = ℕ} (touches_cut extent one cut y x) 1 0) (λ x. cond {A = ℕ} (x == cut) 1 0) (λ x. more x y) extent.left (extent.right - extent.left)
        (λ x _ _. cond-true {A = ℕ} (nat_le low y && nat_lt y even) (cond (touches_cut extent one cut y x) 1 0 + cond (x == cut) 1 0) 0 here) in
        let two = cond-true {A = ℕ} (nat_le low y && nat_lt y even) 2 0 here in
        omega (arith, touching, at_cut, parts, two)
    | inr outside ↦
        let none =
        sum_by-zero (λ x. more x y) extent.left (extent.right - extent.left)
        (λ x _ _. cond-false {A = ℕ} (nat_le low y && nat_lt y even) (cond (touches_cut extent one cut y x) 1 0 + cond (x == cut) 1 0) 0 outside) in
        omega (arith, none)
  ]

  all-more : sum_by (column more) (columns extent) ≤ 2 * (even - low)
  all-more =
      let turned = sum_by-transposed more extent.left (extent.right - extent.left) extent.bottom (extent.top - extent.bottom) in
      let each = sum_by-le (λ y. sum_by (λ x. more x y) (columns extent)) (in_band low even 2) extent.bottom (extent.top - extent.bottom) (λ y _ _. row-more y) in
      omega (arith, turned, each, sum_by-in_band low even extent.bottom (extent.top - extent.bottom))

  -- the corners of all columns
  all-columns :
      sum_by (column (corner extent both)) (columns extent)
      ≤ sum_by (column (corner extent one)) (columns extent) + sum_by part_column (columns extent) + sum_by (column more) (columns extent)
  all-columns =
      let wide = extent.right - extent.left in
      let two = λ (x : ℕ). column (corner extent one) x + part_column x in
      let each =
      sum_by-le (column (corner extent both)) (λ x. two x + column more x) extent.left wide (λ x from to. column-le x from (omega (arith, from, to))) in
      let first = sum_by-plus two (column more) (λ x. two x + column more x) extent.left wide (λ x _ _. refl) in
      let second = sum_by-plus (column (corner extent one)) part_column two extent.left wide (λ x _ _. refl) in
      omega (arith, each, first, second)

-- the strips of a picture by columns
tile_count-columns : (extent : Rect) (picture : Picture) → tile_count extent picture ≡ sum_by (λ x. sum_by (corner extent picture x) (rows extent)) (columns extent)
unfolding tile_count
tile_count-columns extent picture = sum_by-transposed (corner extent picture) extent.left (extent.right - extent.left) extent.bottom (extent.top - extent.bottom)

-- a stair has no more strips than the one picture, the other in the rows from a base below the stair on, and two for each of the band's rows that may differ from the one below
pub tile_count-stair :
    (extent : Rect) (one other : Picture) (cut base low high uneven : ℕ) → extent.bottom ≤ base → base ≤ low → low ≤ high → 1 ≤ uneven
    → ((y : ℕ) → low + uneven ≤ y → y < high → IsAsBelow extent one y × IsAsBelow extent other y)
    → tile_count extent (stair cut low high one other) ≤ tile_count extent one + tile_count (from_row extent base) other + 2 * uneven
tile_count-stair extent one other cut base low high uneven inside over up some alike =
    let lies : StairIn extent one other base low high (low + uneven) = record { inside = inside; over = over; up = up; some = omega (arith, some); alike = alike } in
    omega (
      arith,
      tile_count-columns extent (stair cut low high one other),
      tile_count-columns extent one,
      tile_count-columns (from_row extent base) other,
      all-columns extent one other cut base low high (low + uneven) lies,
      all-more extent one other cut base low high (low + uneven) lies,
    )
