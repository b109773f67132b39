-- Squares of frames as places.
use Rattle.std.proofs.Common.{◌≡◌, ℕ, ◌+◌, ◌-◌, ◌*◌, ◌/◌, ◌%◌, ◌<◌, ◌≤◌, ◌==◌, min, inl, inr, Bool, true, false, ◌||◌, ◌&&◌, List, length, set, refl, sym, ap, ◌∙◌, arith}
use Rattle.std.specs.Prelude.{bit_or, nat_lt, slice_index}
use Rattle.std.proofs.lemmas.Bool.{cases_eq, cases_lt}
use Rattle.std.proofs.lemmas.Bool.Decides.{nat_tests}
use Rattle.std.proofs.lemmas.Nat.{mul-le}
use Rattle.mls_geom.specs.Directions.{back, moved}
use Rattle.mls_geom.specs.Rects.{Rect, common, holds}
use Rattle.mls_geom.specs.declared.direction.Direction.{Direction}
use Rattle.mls_geom.specs.declared.direction.Direction.TheVariants.{Right, Up, Left, Down}
use Rattle.mls_geom.proofs.Holds.{holds_between}
use Rattle.mls_geom.proofs.ShiftedSquares.{at}
use Rattle.mls_kinds.specs.KindSets.{has_bit}
use Rattle.mls_checker.specs.Grids.{has_column, is_between}
use Rattle.mls_checker.specs.Maps.{Frame, IsFrame, frame_area, has_place, leads_on, place_before, place_of, places_of}
use Rattle.mls_checker.proofs.MapWords.{gained-row, place-at}
use Rattle.mls_checker.proofs.WordRows.{set-there}

-- ---- places of a word that lie between two
pub between-in-word : (from to first last row k : ℕ) → first ≡ from - row * 64 → last ≡ min (to - row * 64) 64 → k < 64 → is_between first last k ≡ is_between from to (64 * row + k)
between-in-word from to first last row k is_first is_last below = grind (arith, nat_tests)

-- ---- words of a row
-- a word of a lower row comes before each word of a row
row-before : (a b s o : ℕ) → a < b → o < s → s * a + o < s * b
row-before a b s o below within = omega (arith, mul-le (a + 1) s b s (omega arith) (omega arith))

-- a word lies in one row, and at one place of it
same-word : (s r o row word : ℕ) → o < s → word < s → s * r + o ≡ s * row + word → (r ≡ row) × (o ≡ word)
same-word s r o row word here there same = elim (cases_lt r row) [
  | inl below ↦ absurd (apart (s * r + o) (s * row + word) (omega (arith, row-before r row s o below here)) same)
  | inr on ↦ elim (cases_lt row r) [
    | inl above ↦ absurd (apart (s * row + word) (s * r + o) (omega (arith, row-before row r s word above there)) (sym same))
    | inr under ↦
        let one : r ≡ row = omega arith in
        (one, omega (arith, same, ap (λ i. s * i) one))
  ]
]
  where
    apart : (a b : ℕ) → a < b → a ≡ b → ⊥
    apart a b less same = omega (arith, same)

column-here : (old bit : Bool) (from row r o word : ℕ) → from ≤ row → r ≡ row → o ≡ word
    → ((old || (is_between from row r && (o == word && bit))) || bit) ≡ (old || (is_between from (row + 1) r && (o == word && bit)))
column-here true bit from row r o word on same at = refl
column-here false bit from row r o word on same at = grind (arith, nat_tests)

other-row : (bit : Bool) (from row r o word : ℕ) → (r ≡ row → ⊥) → (is_between from row r && (o == word && bit)) ≡ (is_between from (row + 1) r && (o == word && bit))
other-row bit from row r o word other = grind (arith, nat_tests)

other-word : (bit : Bool) (from row r o word : ℕ) → (o ≡ word → ⊥) → (is_between from row r && (o == word && bit)) ≡ (is_between from (row + 1) r && (o == word && bit))
other-word bit from row r o word other = grind (arith, nat_tests)

-- one row more has the columns in its word
pub column-row : (old words : List ℕ) (s from row word columns v r o k : ℕ) → s * row + word < length words → from ≤ row → o < s → word < s → v ≡ bit_or (slice_index words (s * row + word)) columns
    → has_column words (s * r + o) k ≡ (has_column old (s * r + o) k || (is_between from row r && (o == word && has_bit columns k)))
    → has_column (set words (s * row + word) v) (s * r + o) k ≡ (has_column old (s * r + o) k || (is_between from (row + 1) r && (o == word && has_bit columns k)))
column-row old words s from row word columns v r o k within on here there is before = elim (cases_eq (s * r + o) (s * row + word)) [
  | inl same ↦
      let at = same-word s r o row word here there same in
      gained-row words (s * row + word) v columns (s * r + o) k within same is ∙ ap (λ b. b || has_bit columns k) before
      ∙ column-here (has_column old (s * r + o) k) (has_bit columns k) from row r o word on at.0 at.1
  | inr other ↦ set-there words (s * row + word) v (s * r + o) k other ∙ before ∙ ap (λ b. has_column old (s * r + o) k || b) (elim (cases_eq r row) [
    | inl same ↦ other-word (has_bit columns k) from row r o word (λ at. other (ap (λ i. s * i + o) same ∙ ap (λ i. s * row + i) at))
    | inr apart ↦ other-row (has_bit columns k) from row r o word apart
  ])
]

-- ---- squares and steps
pub place-in : (frame : Frame) (x y : ℕ) → holds (frame_area frame) x y ≡ true → place_of frame x y < 64 * (frame.words * frame.rows)
place-in frame x y here =
    let lines = holds_between (frame_area frame) x y here in
    let high = mul-le (y - frame.bottom + 1) (64 * frame.words) frame.rows (64 * frame.words) (omega (arith, lines.3)) (omega arith) in
    omega (arith, lines.1, high)

-- i steps back from a square of the frame to another one
pub place-moved : (frame : Frame) (direction : Direction) (i x y : ℕ) → IsFrame frame → holds (frame_area frame) x y ≡ true
    → holds (frame_area frame) (moved (back direction) i (at x y)).x (moved (back direction) i (at x y)).y ≡ true
    → place_before (leads_on direction) (i * places_of frame direction) (place_of frame x y) ≡ place_of frame (moved (back direction) i (at x y)).x (moved (back direction) i (at x y)).y
place-moved frame Right i x y is here there =
    let lines = holds_between (frame_area frame) (x - i) y there in
    omega (arith, lines.0, is.left)
place-moved frame Up i x y is here there =
    let lines = holds_between (frame_area frame) x (y - i) there in
    let split : y - frame.bottom ≡ i + (y - i - frame.bottom) = omega (arith, lines.2, is.below) in
    ap (λ r. r * (64 * frame.words) + (x - frame.left) - i * (64 * frame.words)) split ∙ omega arith
place-moved frame Left i x y is here there =
    let lines = holds_between (frame_area frame) x y here in
    omega (arith, lines.0)
place-moved frame Down i x y is here there =
    let lines = holds_between (frame_area frame) x y here in
    let split : y + i - frame.bottom ≡ (y - frame.bottom) + i = omega (arith, lines.2) in
    omega arith ∙ sym (ap (λ r. r * (64 * frame.words) + (x - frame.left)) split)

-- ---- areas that are added word by word
-- a square's place, by its word and its bit
place-word : (frame : Frame) (x y : ℕ) → place_of frame x y ≡ 64 * (frame.words * (y - frame.bottom) + (x - frame.left) / 64) + (x - frame.left) % 64
place-word frame x y = omega arith

from-line : (line a b n : ℕ) → line ≤ a → line ≤ n → is_between (a - line) (b - line) (n - line) ≡ is_between a b n
from-line line a b n from on = grind (arith, nat_tests)

-- the squares of a rectangle by its rows and its columns, counted from some lines
lines-of : (e : Rect) (left bottom x y : ℕ) → left ≤ e.left → left ≤ x → bottom ≤ e.bottom → bottom ≤ y
    → (is_between (e.bottom - bottom) (e.top - bottom) (y - bottom) && is_between (e.left - left) (e.right - left) (x - left)) ≡ holds e x y
lines-of e left bottom x y from on low high =
    ap (λ b. b && is_between (e.left - left) (e.right - left) (x - left)) (from-line bottom e.bottom e.top y low high)
    ∙ ap (λ b. is_between e.bottom e.top y && b) (from-line left e.left e.right x from on) ∙ both e x y
  where
    both : (e : Rect) (x y : ℕ) → (is_between e.bottom e.top y && is_between e.left e.right x) ≡ holds e x y
    both e x y = grind (arith, nat_tests)

last-word : (old row bit : Bool) (w word : ℕ) → w ≡ word → ((old || (nat_lt w word && (row && bit))) || (row && (w == word && bit))) ≡ (old || (nat_lt w (word + 1) && (row && bit)))
last-word true row bit w word same = refl
last-word false row bit w word same = grind (arith, nat_tests)

word-there : (old row bit here : Bool) (w word : ℕ) → (w ≡ word → ⊥) → ((old || (nat_lt w word && here)) || (row && (w == word && bit))) ≡ (old || (nat_lt w (word + 1) && here))
word-there true row bit here w word other = refl
word-there false row bit here w word other = grind (arith, nat_tests)

-- one word more of each row
one-word-more : (old cur new row bit here : Bool) (w word : ℕ) → cur ≡ (old || (nat_lt w word && here)) → new ≡ (cur || (row && (w == word && bit))) → (w ≡ word → (row && bit) ≡ here)
    → new ≡ (old || (nat_lt w (word + 1) && here))
one-word-more old cur new row bit here w word was gains same = elim (cases_eq w word) [
  | inl last ↦ rw (gains, was, sym (same last)) (last-word old row bit w word last)
  | inr other ↦ rw (gains, was) (word-there old row bit here w word other)
]

pub area-word : (frame : Frame) (area : Rect) (old cur new : List ℕ) (word bottom top columns : ℕ)
    → bottom ≡ (common area (frame_area frame)).bottom - frame.bottom → top ≡ (common area (frame_area frame)).top - frame.bottom
    → ((k : ℕ) → k < 64 → has_bit columns k ≡ is_between ((common area (frame_area frame)).left - frame.left) ((common area (frame_area frame)).right - frame.left) (64 * word + k))
    → ((row other k : ℕ) → other < frame.words → has_column new (frame.words * row + other) k ≡ (has_column cur (frame.words * row + other) k || (is_between bottom top row && (other == word && has_bit columns k))))
    → ((x y : ℕ) → holds (frame_area frame) x y ≡ true → has_place cur (place_of frame x y) ≡ (has_place old (place_of frame x y) || (nat_lt ((x - frame.left) / 64) word && holds (common area (frame_area frame)) x y)))
    → (x y : ℕ) → holds (frame_area frame) x y ≡ true → has_place new (place_of frame x y) ≡ (has_place old (place_of frame x y) || (nat_lt ((x - frame.left) / 64) (word + 1) && holds (common area (frame_area frame)) x y))
area-word frame area old cur new word bottom top columns is_bottom is_top bits gained before x y here =
    let e = common area (frame_area frame) in
    let n = place_of frame x y in
    let r = y - frame.bottom in
    let w = (x - frame.left) / 64 in
    let k = (x - frame.left) % 64 in
    let row = frame.words * r + w in
    let lines = holds_between (frame_area frame) x y here in
    let below : k < 64 = omega arith in
    let at = place-word frame x y in
    let column : w ≡ word → 64 * word + k ≡ x - frame.left = λ same. omega (arith, same) in
    one-word-more (has_place old n) (has_place cur n) (has_place new n) (is_between bottom top r) (has_bit columns k) (holds e x y) w word (before x y here)
    (place-at new n row k at below ∙ gained r w k (omega (arith, lines.0, lines.1)) ∙ ap (λ b. b || (is_between bottom top r && (w == word && has_bit columns k))) (sym (place-at cur n row k at below)))
    (λ same. ap (λ b. is_between bottom top r && b) (bits k below ∙ ap (is_between (e.left - frame.left) (e.right - frame.left)) (column same))
    ∙ rw (is_bottom, is_top) (lines-of e frame.left frame.bottom x y (omega arith) (omega (arith, lines.0)) (omega arith) (omega (arith, lines.2))))
