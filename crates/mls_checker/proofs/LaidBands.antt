-- Bands that are laid on a map.
use Rattle.std.proofs.Common.{◌≡◌, ℕ, ◌+◌, ◌-◌, ◌*◌, ◌/◌, ◌%◌, ◌<◌, ◌≤◌, inl, inr, Bool, true, false, ◌||◌, ◌&&◌, List, length, set, refl, sym, ap, ◌∙◌, arith}
use Rattle.std.specs.Prelude.{bit_and, bit_or, nat_lt, slice_index}
use Rattle.std.proofs.Math.Bool.{or-false, and_comm}
use Rattle.std.proofs.lemmas.Bool.{cases_eq, cases_lt}
use Rattle.std.proofs.lemmas.Bool.Decides.{nat_tests}
use Rattle.std.proofs.lemmas.Nat.{mul-le}
use Rattle.mls_geom.specs.Rects.{Rect, holds}
use Rattle.mls_geom.proofs.Holds.{holds_between}
use Rattle.mls_kinds.specs.KindSets.{has_bit}
use Rattle.mls_kinds.proofs.BitLemmas.{has_bit-and}
use Rattle.mls_checker.specs.Grids.{Band, IsBand, has_column, is_between, marked_in}
use Rattle.mls_checker.specs.Maps.{FitsIn, Frame, frame_area, has_place, place_of}
use Rattle.mls_checker.proofs.MapMarks.{band-place}
use Rattle.mls_checker.proofs.MapWords.{gained-row, place-at}
use Rattle.mls_checker.proofs.WordRows.{below-here, below-there, gained, set-there}

-- ---- words of a column
same-row : (first stride row i : ℕ) → 0 < stride → first + row * stride ≡ first + i * stride → row ≡ i
same-row first stride row i some is = elim (cases_lt row i) [
  | inl below ↦ absurd (let more = mul-le (row + 1) stride i stride (omega arith) (omega arith) in omega (arith, more, is, some))
  | inr on ↦ elim (cases_lt i row) [
    | inl above ↦ absurd (let more = mul-le (i + 1) stride row stride (omega arith) (omega arith) in omega (arith, more, is, some))
    | inr under ↦ omega (arith, on, under)
  ]
]

-- one row more is laid
pub laid-row : (old map : List ℕ) (first stride i v word columns row k : ℕ) (more : Bool) → 0 < stride → first + i * stride < length map
    → v ≡ bit_or (slice_index map (first + i * stride)) (bit_and word columns) → (row ≡ i → (has_bit word k && has_bit columns k) ≡ more)
    → has_column map (first + row * stride) k ≡ (has_column old (first + row * stride) k || (nat_lt row i && more))
    → has_column (set map (first + i * stride) v) (first + row * stride) k ≡ (has_column old (first + row * stride) k || (nat_lt row (i + 1) && more))
laid-row old map first stride i v word columns row k more some within is gives before = elim (cases_eq row i) [
  | inl same ↦
      let tests = below-here i row same in
      gained-row map (first + i * stride) v (bit_and word columns) (first + row * stride) k within (ap (λ r. first + r * stride) same) is
      ∙ ap (λ b. has_column map (first + row * stride) k || b) (has_bit-and word columns k ∙ gives same)
      ∙ ap (λ b. b || more) before ∙ gained (has_column old (first + row * stride) k) (nat_lt row i) (nat_lt row (i + 1)) more tests.0 tests.1
  | inr other ↦ set-there map (first + i * stride) v (first + row * stride) k (λ same. other (same-row first stride row i some same)) ∙ before
      ∙ ap (λ t. has_column old (first + row * stride) k || (t && more)) (below-there i row other)
]

-- ---- squares of a band
out : (here marked b : Bool) → (here ≡ true → ⊥) → b ≡ (b || (here && marked))
out true marked b not_in = absurd (not_in refl)
out false marked b not_in = sym (or-false b)

-- the word and the bit of a square's place
word-of : (frame : Frame) (x y : ℕ) → (place_of frame x y / 64 ≡ (y - frame.bottom) * frame.words + (x - frame.left) / 64) × (place_of frame x y % 64 ≡ (x - frame.left) % 64)
word-of frame x y = (omega arith, omega arith)

-- words of two rows with a word less than their number in each are in the same row
row-of-word : (w r c i d : ℕ) → c < w → d < w → r * w + c ≡ i * w + d → r ≡ i
row-of-word w r c i d few few' is = elim (cases_lt r i) [
  | inl below ↦ absurd (let more = mul-le (r + 1) w i w (omega arith) (omega arith) in omega (arith, more, is, few))
  | inr on ↦ elim (cases_lt i r) [
    | inl above ↦ absurd (let more = mul-le (i + 1) w r w (omega arith) (omega arith) in omega (arith, more, is, few'))
    | inr under ↦ omega (arith, on, under)
  ]
]

in-columns : (e : Rect) (x y : ℕ) → e.left ≤ x → e.bottom ≤ y → y < e.top → is_between 0 (e.right - e.left) (x - e.left) ≡ holds e x y
in-columns e x y on low high = grind (arith, nat_tests)

-- a square of the words that were laid
laid-here : (frame : Frame) (band : Band) (old new : List ℕ) (first columns x y : ℕ) → IsBand band → FitsIn frame band.area
    → first ≡ (band.area.bottom - frame.bottom) * frame.words + (band.area.left - frame.left) / 64
    → ((k : ℕ) → has_bit columns k ≡ is_between 0 (band.area.right - band.area.left) k)
    → ((row column : ℕ) → row < length band.marked → has_column new (first + row * frame.words) column
    ≡ (has_column old (first + row * frame.words) column || (has_column band.marked row column && has_bit columns column)))
    → band.area.left ≤ x → x < band.area.left + 64 → band.area.bottom ≤ y → y < band.area.top
    → has_place new (place_of frame x y) ≡ (has_place old (place_of frame x y) || marked_in band x y)
laid-here frame band old new first columns x y is fits first_is mask there on few low high =
    let e = band.area in
    let row = y - e.bottom in
    let k = x - e.left in
    let below : k < 64 = omega (arith, on, few) in
    let at : place_of frame x y ≡ 64 * (first + row * frame.words) + k = band-place frame e first x y fits on low first_is in
    place-at new (place_of frame x y) (first + row * frame.words) k at below
    ∙ there row k (omega (arith, low, high, is.marked))
    ∙ ap (λ b. b || (has_column band.marked row k && has_bit columns k)) (sym (place-at old (place_of frame x y) (first + row * frame.words) k at below))
    ∙ ap (λ b. has_place old (place_of frame x y) || (has_column band.marked row k && b)) (mask k ∙ in-columns e x y on low high)
    ∙ ap (λ b. has_place old (place_of frame x y) || b) (and_comm (has_column band.marked row k) (holds e x y))

-- a square of a word in which nothing was laid lies outside the band
outside : (band : Band) (x y : ℕ) → (holds band.area x y ≡ true → ⊥) → (b : Bool) → b ≡ (b || marked_in band x y)
outside band x y not_in b = out (holds band.area x y) (has_column band.marked (y - band.area.bottom) (x - band.area.left)) b not_in

-- the map gained the marked squares of the band
pub laid-band : (frame : Frame) (band : Band) (old new : List ℕ) (first columns x y : ℕ) → IsBand band → FitsIn frame band.area
    → first ≡ (band.area.bottom - frame.bottom) * frame.words + (band.area.left - frame.left) / 64
    → ((k : ℕ) → has_bit columns k ≡ is_between 0 (band.area.right - band.area.left) k)
    → ((row column : ℕ) → row < length band.marked → has_column new (first + row * frame.words) column
    ≡ (has_column old (first + row * frame.words) column || (has_column band.marked row column && has_bit columns column)))
    → ((n column : ℕ) → ((row : ℕ) → row < length band.marked → n ≡ first + row * frame.words → ⊥) → has_column new n column ≡ has_column old n column)
    → holds (frame_area frame) x y ≡ true
    → has_place new (place_of frame x y) ≡ (has_place old (place_of frame x y) || marked_in band x y)
laid-band frame band old new first columns x y is fits first_is mask there others here =
    let e = band.area in
    let lines = holds_between (frame_area frame) x y here in
    let beside : (e.left - frame.left) / 64 < frame.words = omega (arith, fits.left, fits.right, is.wide) in
    let column : (x - frame.left) / 64 < frame.words = omega (arith, lines.0, lines.1) in
    let words = word-of frame x y in
    -- nothing was laid in the square's word, where it lies beside the band's word or in another row
    let apart : ((row : ℕ) → row < length band.marked → (e.bottom - frame.bottom + row ≡ y - frame.bottom) → ((x - frame.left) / 64 ≡ (e.left - frame.left) / 64) → ⊥)
    → (holds e x y ≡ true → ⊥) → has_place new (place_of frame x y) ≡ (has_place old (place_of frame x y) || marked_in band x y) =
    λ far not_in.
    others (place_of frame x y / 64) (place_of frame x y % 64)
    (λ row within same.
    let sum : first + row * frame.words ≡ (e.bottom - frame.bottom + row) * frame.words + (e.left - frame.left) / 64 = omega (arith, first_is) in
    let equal = sym words.0 ∙ same ∙ sum in
    let rows = row-of-word frame.words (y - frame.bottom) ((x - frame.left) / 64) (e.bottom - frame.bottom + row) ((e.left - frame.left) / 64) column beside equal in
    let product = ap (λ r. r * frame.words) rows in
    far row within (sym rows) (omega (arith, equal, product)))
    ∙ outside band x y not_in (has_place old (place_of frame x y)) in
    elim (cases_lt x e.left) [
      | inl left ↦ apart (λ row within same beside'. omega (arith, left, lines.0, fits.left, fits.even, beside')) (λ inside. omega (arith, left, (holds_between e x y inside).0))
      | inr on ↦ elim (cases_lt x (e.left + 64)) [
        | inr right ↦ apart (λ row within same beside'. omega (arith, right, fits.left, fits.even, beside')) (λ inside. omega (arith, right, (holds_between e x y inside).1, is.narrow))
        | inl few ↦ elim (cases_lt y e.bottom) [
          | inl under ↦ apart (λ row within same beside'. omega (arith, under, same, fits.below, lines.2)) (λ inside. omega (arith, under, (holds_between e x y inside).2))
          | inr low ↦ elim (cases_lt y e.top) [
            | inl high ↦ laid-here frame band old new first columns x y is fits first_is mask there on few low high
            | inr over ↦ apart (λ row within same beside'. omega (arith, over, same, within, is.marked, fits.below, lines.2)) (λ inside. omega (arith, over, (holds_between e x y inside).3))
          ]
        ]
      ]
    ]
