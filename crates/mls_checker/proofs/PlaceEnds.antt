-- The last place of a word, and the outermost squares of a row of a map.
use Rattle.std.proofs.Common.{◌≡◌, ℕ, suc, ◌+◌, ◌-◌, ◌*◌, ◌/◌, ◌%◌, ◌^◌, ◌<◌, ◌≤◌, inl, inr, Bool, true, false, true≢false, not, ◌||◌, ◌&&◌, List, refl, sym, ap, subst, ◌∙◌, arith}
use Rattle.std.specs.Prelude.{bit_and, nat_lt}
use Rattle.std.specs.Int.{leading_zeros, w64}
use Rattle.std.proofs.Math.Bool.{and-true}
use Rattle.std.proofs.lemmas.Bool.{and_from, and_parts, cases_lt}
use Rattle.std.proofs.lemmas.Bool.Decides.{nat_tests}
use Rattle.std.proofs.lemmas.Nat.{div-mul-add, leading_top}
use Rattle.mls_geom.specs.Rects.{Rect, IsRectangleIn, common, holds, joined}
use Rattle.mls_geom.proofs.Holds.{between_holds, holds_between, holds_common}
use Rattle.mls_kinds.specs.KindSets.{has_bit}
use Rattle.mls_kinds.proofs.BitLemmas.{has_bit-and, has_bit_above}
use Rattle.mls_checker.specs.Grids.{has_column, is_between}
use Rattle.mls_checker.specs.Maps.{Frame, IsRound, frame_area, has_place, place_of}
use Rattle.mls_checker.specs.MarkMaps.{ArePlaceEnds, IsTightOf, MarkMap, mapped, row_squares}
use Rattle.mls_checker.specs.Marking.{IsBoundsOf, differs, has_some}
use Rattle.mls_checker.proofs.Bounds.{tight-bounds, tight-ends, tight-joined, tight-same}
use Rattle.mls_checker.proofs.FoundInRect.{rect_finds}
use Rattle.mls_checker.proofs.MapWords.{place-at}
use Rattle.mls_checker.proofs.WordBits.{shifted-bit}

-- ---- words up to a place
between-most : (t k : ℕ) → is_between 0 (t + 1) k ≡ true → k ≤ t
between-most t k within = grind (arith, nat_tests)

between-least : (t k : ℕ) → k ≤ t → is_between 0 (t + 1) k ≡ true
between-least t k few = grind (arith, nat_tests)

pub word-there : (word m t k : ℕ) → has_bit m k ≡ is_between 0 (t + 1) k → has_bit (bit_and word m) k ≡ true → k ≤ t
word-there word m t k is there = between-most t k (sym is ∙ (and_parts (has_bit word k) (has_bit m k) (sym (has_bit-and word m k) ∙ there)).1)

pub word-has : (word m t k : ℕ) → has_bit m k ≡ is_between 0 (t + 1) k → k ≤ t → has_bit (bit_and word m) k ≡ has_bit word k
word-has word m t k is few = has_bit-and word m k ∙ ap (λ b. has_bit word k && b) (is ∙ between-least t k few) ∙ and-true (has_bit word k)

pub differs-not : (wanted b : Bool) → differs wanted b ≡ false → b ≡ wanted
differs-not true true h = refl
differs-not true false h = absurd (true≢false h)
differs-not false true h = absurd (true≢false h)
differs-not false false h = refl

pub differs-is : (wanted b : Bool) → differs wanted b ≡ true → b ≡ not wanted
differs-is true true h = absurd (true≢false (sym h))
differs-is true false h = refl
differs-is false true h = refl
differs-is false false h = absurd (true≢false (sym h))

pub is-differs : (wanted b : Bool) → b ≡ not wanted → differs wanted b ≡ true
is-differs true b is = ap not is
is-differs false b is = is

not-not : (b : Bool) → not (not b) ≡ b
not-not true = refl
not-not false = refl

-- ---- the last place
-- the highest bit of a word that other 0
abbrev pub TopBit : ℕ → Type 0
TopBit word = (j : ℕ) × (leading_zeros w64 word + suc j ≡ 64) × (has_bit word j ≡ true) × ((k : ℕ) → j < k → has_bit word k ≡ false)

half : (a p : ℕ) → p ≤ a → a < 2 * p → a / p ≡ 1
half a p low high =
    let split : a ≡ 1 * p + (a - p) = omega arith in
    ap (λ n. n / p) split ∙ div-mul-add 1 p (a - p) (omega arith)

pub top-bit : (word : ℕ) → 0 < word → word < 2 ^ 64 → TopBit word
top-bit word some fits =
    let (j, is, low, high) = leading_top 64 word some fits in
    let twice : 2 ^ suc j ≡ 2 * 2 ^ j = omega arith in
    let one : word / 2 ^ j ≡ 1 = half word (2 ^ j) low (omega (arith, high, twice)) in
    let here : j + 0 ≡ j = omega arith in
    (j, is, ap (has_bit word) (sym here) ∙ sym (shifted-bit word j 0) ∙ ap (λ n. has_bit n 0) one ∙ refl, λ k above. has_bit_above (suc j) word k high (omega arith))

-- what is known of a word of places up to one of them
abbrev pub IsWordTo : List ℕ → Bool → ℕ → ℕ → Type 0
IsWordTo map has last word = (k : ℕ) → k ≤ last % 64 → has_bit word k ≡ differs (not has) (has_column map (last / 64) k)

pub last-short : (last word : ℕ) → 0 < word → word < 2 ^ 64 → ((k : ℕ) → has_bit word k ≡ true → k ≤ last % 64) → last / 64 * 64 + (64 - leading_zeros w64 word) ≤ last + 1
last-short last word some fits there =
    let (j, is, has, above) = top-bit word some fits in
    omega (arith, there j has, is)

pub last-there : (map : List ℕ) (has : Bool) (last word r : ℕ) → 0 < word → word < 2 ^ 64 → ((k : ℕ) → has_bit word k ≡ true → k ≤ last % 64) → IsWordTo map has last word
    → r ≡ last / 64 * 64 + (64 - leading_zeros w64 word) → has_place map (r - 1) ≡ has
last-there map has last word r some fits there gives is_r =
    let (j, is, top, above) = top-bit word some fits in
    let low = there j top in
    place-at map (r - 1) (last / 64) j (omega (arith, is, is_r)) (omega (arith, is))
    ∙ differs-is (not has) (has_column map (last / 64) j) (sym (gives j low) ∙ top) ∙ not-not has

pub last-none : (map : List ℕ) (has : Bool) (last word r n : ℕ) → 0 < word → word < 2 ^ 64 → IsWordTo map has last word
    → last / 64 * 64 + (64 - leading_zeros w64 word) ≤ r → r ≤ n → n ≤ last → has_place map n ≡ not has
last-none map has last word r n some fits gives from on before =
    let (j, is, top, above) = top-bit word some fits in
    let k = n - last / 64 * 64 in
    place-at map n (last / 64) k (omega (arith, is, from)) (omega (arith, is, from))
    ∙ differs-not (not has) (has_column map (last / 64) k) (sym (gives k (omega (arith, is, from))) ∙ above k (omega (arith, is, from)))

pub word-none : (map : List ℕ) (has : Bool) (last word n : ℕ) → word ≡ 0 → IsWordTo map has last word → last / 64 * 64 ≤ n → n ≤ last → has_place map n ≡ not has
word-none map has last word n none gives from before =
    let k = n - last / 64 * 64 in
    place-at map n (last / 64) k (omega arith) (omega arith)
    ∙ differs-not (not has) (has_column map (last / 64) k) (sym (gives k (omega arith)) ∙ ap (λ w. has_bit w k) none ∙ has_bit_above 0 0 k (omega arith) (omega arith))

-- ---- the bounds of a row
row-is : (row y : ℕ) → is_between row (row + 1) y ≡ true → y ≡ row
row-is row y here = grind (arith, nat_tests)

is-row : (row : ℕ) → is_between row (row + 1) row ≡ true
is-row row = grind (arith, nat_tests)

in-row : (frame : Frame) (words : List ℕ) (wanted : Bool) (part : Rect) (row x n : ℕ) → holds part x row ≡ true → place_of frame x row ≡ n → has_place words n ≡ not wanted
    → row_squares frame words wanted part row x row ≡ true
in-row frame words wanted part row x n here is has =
    and_from (is_between row (row + 1) row) (holds part x row && differs wanted (has_place words (place_of frame x row))) (is-row row)
    (and_from (holds part x row) (differs wanted (has_place words (place_of frame x row))) here (is-differs wanted (has_place words (place_of frame x row)) (ap (has_place words) is ∙ has)))

opposed : (wanted b : Bool) → b ≡ not wanted → b ≡ not (not wanted) → ⊥
opposed true b is other = true≢false (sym other ∙ is)
opposed false b is other = true≢false (sym is ∙ other)

pub row-ends : (frame : Frame) (words : List ℕ) (wanted : Bool) (part : Rect) (row start from to first «end» : ℕ)
    → IsRectangleIn (frame_area frame) part → part.bottom ≤ row → row < part.top
    → start ≡ (row - frame.bottom) * (64 * frame.words) → from ≡ start + (part.left - frame.left) → to ≡ start + (part.right - frame.left)
    → ArePlaceEnds words (not wanted) from to first «end»
    → IsTightOf (row_squares frame words wanted part row) (record { left = frame.left + (first - start); bottom = row; right = frame.left + («end» - start); top = row + 1 })
row-ends frame words wanted part row start from to first «end» inside low high is_start is_from is_to ends =
    let e : Rect = record { left = frame.left + (first - start); bottom = row; right = frame.left + («end» - start); top = row + 1 } in
    let place : (x : ℕ) → frame.left ≤ x → place_of frame x row ≡ start + (x - frame.left) = λ x on. ap (λ s. s + (x - frame.left)) (sym is_start) in
    let left = inside.left_in in
    let after = ends.after in
    let some = ends.some in
    let within = ends.within in
    let wide = inside.wide in
    tight-ends (row_squares frame words wanted part row) e
    (λ x y here.
    let parts = and_parts (is_between row (row + 1) y) (holds part x y && differs wanted (has_place words (place_of frame x y))) here in
    let both = and_parts (holds part x y) (differs wanted (has_place words (place_of frame x y))) parts.1 in
    let same = row-is row y parts.0 in
    let lines = holds_between part x y both.0 in
    let n = start + (x - frame.left) in
    let at : place_of frame x y ≡ n = ap (λ r. place_of frame x r) same ∙ place x (omega (arith, left, lines.0)) in
    let has : has_place words n ≡ not wanted = ap (has_place words) (sym at) ∙ differs-is wanted (has_place words (place_of frame x y)) both.1 in
    let opposite : (b : Bool) → b ≡ not wanted → b ≡ not (not wanted) → ⊥ = λ b is other. opposed wanted b is other in
    let on : first ≤ n = elim (cases_lt n first) [
      | inl before ↦ absurd (opposite (has_place words n) has (ends.none_before n (omega (arith, is_from, left, lines.0)) before))
      | inr after' ↦ after'
    ] in
    let under : n < «end» = elim (cases_lt n «end») [
      | inl before ↦ before
      | inr behind ↦ absurd (opposite (has_place words n) has (ends.none_behind n behind (omega (arith, is_to, left, lines.0, lines.1))))
    ] in
    between_holds e x y (omega (arith, on, left, lines.0)) (omega (arith, under, left, lines.0)) (omega (arith, same)) (omega (arith, same)))
    (omega (arith, is_from, after, some))
    refl
    (in-row frame words wanted part row e.left first
    (between_holds part e.left row (omega (arith, is_from, after, left)) (omega (arith, is_to, after, is_from, some, within, left, wide)) low high)
    (place e.left (omega arith) ∙ omega (arith, is_from, after)) ends.first)
    (in-row frame words wanted part row (e.right - 1) («end» - 1)
    (between_holds part (e.right - 1) row (omega (arith, is_from, after, some, left)) (omega (arith, is_to, after, is_from, some, within, left, wide)) low high)
    (place (e.right - 1) (omega (arith, is_from, after, some)) ∙ omega (arith, is_from, after, some)) ends.last)

-- and the same with another name for the frame's left line
pub row-ends-from : (frame : Frame) (words : List ℕ) (wanted : Bool) (part : Rect) (row line start from to first «end» : ℕ)
    → IsRectangleIn (frame_area frame) part → part.bottom ≤ row → row < part.top → line ≡ frame.left
    → start ≡ (row - frame.bottom) * (64 * frame.words) → from ≡ start + (part.left - frame.left) → to ≡ start + (part.right - frame.left)
    → ArePlaceEnds words (not wanted) from to first «end»
    → IsTightOf (row_squares frame words wanted part row) (record { left = line + (first - start); bottom = row; right = line + («end» - start); top = row + 1 })
row-ends-from frame words wanted part row line start from to first «end» inside low high is is_start is_from is_to ends =
    subst (λ (l : ℕ). IsTightOf (row_squares frame words wanted part row) (record { left = l + (first - start); bottom = row; right = l + («end» - start); top = row + 1 })) (sym is)
    (row-ends frame words wanted part row start from to first «end» inside low high is_start is_from is_to ends)

-- ---- row by row
one-row-more : (row y : ℕ) (s : Bool) → ((nat_lt y row && s) || (is_between row (row + 1) y && s)) ≡ (nat_lt y (row + 1) && s)
one-row-more row y true = grind (arith, nat_tests)
one-row-more row y false = grind (arith, nat_tests)

pub rows-more : (set : ℕ → ℕ → Bool) (row : ℕ) (a b : Rect) → IsTightOf (λ x y. nat_lt y row && set x y) a → IsTightOf (λ x y. is_between row (row + 1) y && set x y) b
    → IsTightOf (λ x y. nat_lt y (row + 1) && set x y) (joined a b)
rows-more set row a b was more =
    tight-same (λ x y. (nat_lt y row && set x y) || (is_between row (row + 1) y && set x y)) (λ x y. nat_lt y (row + 1) && set x y) (joined a b) (λ x y. one-row-more row y (set x y))
    (tight-joined (λ x y. nat_lt y row && set x y) (λ x y. is_between row (row + 1) y && set x y) a b was more)

all-below : (part : Rect) (row x y : ℕ) (d : Bool) → part.top ≤ row → (nat_lt y row && (holds part x y && d)) ≡ (holds part x y && d)
all-below part row x y true all = grind (arith, nat_tests)
all-below part row x y false all = grind (arith, nat_tests)

pub rows-bounds : (part : Rect) (set : ℕ → ℕ → Bool) (row : ℕ) (e : Rect) → part.top ≤ row → part.right ≤ 4294967295 → part.top ≤ 4294967295
    → IsTightOf (λ x y. nat_lt y row && (holds part x y && set x y)) e → IsBoundsOf (λ x y. holds part x y && set x y) e
rows-bounds part set row e all right top is =
    tight-bounds (λ x y. holds part x y && set x y) e
    (λ x y here. let lines = holds_between part x y (and_parts (holds part x y) (set x y) here).0 in (omega (arith, lines.1), omega (arith, lines.3)))
    (tight-same (λ x y. nat_lt y row && (holds part x y && set x y)) (λ x y. holds part x y && set x y) e (λ x y. all-below part row x y (set x y) all) is)

-- ---- the map of a rectangle
both-in : (r a h w : Bool) → ((a && r) && differs w h) ≡ ((r && a) && differs w (r && h))
both-in true true h w = refl
both-in true false h w = refl
both-in false true h w = refl
both-in false false h w = refl

pub part-squares : (map : MarkMap) (area part : Rect) (wanted : Bool) (x y : ℕ) → part ≡ common area map.rect
    → (holds part x y && differs wanted (has_place map.words (place_of map.frame x y))) ≡ ((holds map.rect x y && holds area x y) && differs wanted (mapped map x y))
part-squares map area part wanted x y is =
    ap (λ (e : Rect). holds e x y && differs wanted (has_place map.words (place_of map.frame x y))) is
    ∙ ap (λ b. b && differs wanted (has_place map.words (place_of map.frame x y))) (holds_common area map.rect x y)
    ∙ both-in (holds map.rect x y) (holds area x y) (has_place map.words (place_of map.frame x y)) wanted

-- ---- whether a row has a square
-- the places of a row of a rectangle: those of the row in the frame begin at a place, and its own lie between two
pub record IsRowOf (frame : Frame) (rect : Rect) (row start from to : ℕ) : Type 0 where
  pub begins : start ≡ (row - frame.bottom) * (64 * frame.words)
  pub first : from ≡ start + (rect.left - frame.left)
  pub end : to ≡ start + (rect.right - frame.left)

pub row-of : (frame : Frame) (rect whole part : Rect) (words row : ℕ) → whole ≡ frame_area frame → part ≡ rect → words ≡ frame.words
    → IsRowOf frame rect row ((row - whole.bottom) * (64 * words)) ((row - whole.bottom) * (64 * words) + (part.left - whole.left)) ((row - whole.bottom) * (64 * words) + (part.right - whole.left))
row-of frame rect whole part words row is_whole is_part is_words =
    let begin = (row - whole.bottom) * (64 * words) in
    let left = ap (λ (e : Rect). e.left) is_whole in
    record {
      begins = ap (λ (e : Rect). (row - e.bottom) * (64 * words)) is_whole ∙ ap (λ w. (row - frame.bottom) * (64 * w)) is_words;
      first = ap (λ (e : Rect). begin + (e.left - whole.left)) is_part ∙ ap (λ l. begin + (rect.left - l)) left;
      end = ap (λ (e : Rect). begin + (e.right - whole.left)) is_part ∙ ap (λ l. begin + (rect.right - l)) left;
    }

pub any-there : (frame : Frame) (rect : Rect) (words : List ℕ) (row start from to n : ℕ) → IsRound frame rect 0 → rect.bottom ≤ row → row < rect.top
    → IsRowOf frame rect row start from to → from ≤ n → n < to → has_place words n ≡ true → has_some rect (λ x y. has_place words (place_of frame x y)) ≡ true
any-there frame rect words row start from to n round low high is on before has =
    let x = frame.left + (n - start) in
    let left = round.left in
    let at : place_of frame x row ≡ n = ap (λ s. s + (x - frame.left)) (sym is.begins) ∙ omega (arith, is.first, on) in
    rect_finds rect (λ x y. has_place words (place_of frame x y))
    (x, row, between_holds rect x row (omega (arith, is.first, on, left)) (omega (arith, is.end, is.first, on, before, left)) low high, ap (has_place words) at ∙ has)

pub none-there : (frame : Frame) (rect : Rect) (words : List ℕ) (row start from to r : ℕ) → IsRound frame rect 0 → IsRowOf frame rect row start from to
    → to ≤ r → ((n : ℕ) → from ≤ n → n < r → has_place words n ≡ false)
    → (x y : ℕ) → holds rect x y ≡ true → y ≡ row → has_place words (place_of frame x y) ≡ false
none-there frame rect words row start from to r round is all none x y here same =
    let lines = holds_between rect x y here in
    let left = round.left in
    let n = start + (x - frame.left) in
    let at : place_of frame x y ≡ n = ap (λ w. place_of frame x w) same ∙ ap (λ s. s + (x - frame.left)) (sym is.begins) in
    ap (has_place words) at ∙ none n (omega (arith, is.first, lines.0, left)) (omega (arith, is.end, all, lines.1, lines.0, left))
