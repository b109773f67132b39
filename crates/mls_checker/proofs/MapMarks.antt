-- Squares that rules forbid, found on maps.
use Rattle.std.proofs.Common.{◌≡◌, ℕ, ◌+◌, ◌-◌, ◌*◌, ◌/◌, ◌%◌, ◌≤◌, ◌<◌, max, Bool, true, false, not, ◌||◌, ◌&&◌, List, length, drop, get_or, suc, add-one, drop-cons, refl, sym, ap, ◌∙◌, arith}
use Rattle.std.proofs.Math.Bool.{and_comm, or_comm}
use Rattle.std.proofs.lemmas.Nat.{mul-le}
use Rattle.mls_edgerule.specs.declared.edge_rule.EdgeRule.{EdgeRule}
use Rattle.mls_geom.specs.Layouts.{Layout}
use Rattle.mls_edgerule.specs.Halos.{halo_of}
use Rattle.mls_geom.specs.Rects.{IsRectangleIn, Rect, holds}
use Rattle.mls_geom.specs.World.{world}
use Rattle.mls_geom.proofs.Holds.{holds_between}
use Rattle.mls_checker.specs.Findings.{forbids_in}
use Rattle.mls_checker.specs.Forbids.{forbidden, forbids, is_disallowed, reaches}
use Rattle.mls_checker.specs.Grids.{has_column}
use Rattle.mls_checker.specs.Maps.{FitsIn, Frame, GainsDeep, HasDeep, HasLow, IsDeep, IsRound, Shows, forbidden_by_any, has_place, of_types, place_of, square}
use Rattle.mls_checker.specs.Marking.{has_some}
use Rattle.mls_checker.proofs.FoundInRect.{some-same}
use Rattle.mls_checker.proofs.MapFrames.{place-in}
use Rattle.mls_checker.proofs.MapReaches.{deep-home, here-in}
use Rattle.mls_checker.proofs.FoundSquares.{and_in, in_world}
use Rattle.mls_checker.proofs.ReachLemmas.{halo-bounds}

-- a word and a bit of a place that lies so many words before another
word-below : (n words : ℕ) → 64 * words ≤ n → (n / 64 - words ≡ (n - 64 * words) / 64) × (n % 64 ≡ (n - 64 * words) % 64)
word-below n words room = (omega arith, omega arith)

-- what is reached, but for what is allowed, is marked
pub forbidden-gained : (rule : EdgeRule) (layout : Layout) (frame : Frame) (reached allowed old new : List ℕ) (words : ℕ)
    → HasLow frame (1 + max rule.distance rule.corner_distance) (λ x y. reaches rule layout (square x y)) reached
    → Shows frame (of_types rule.ok_types (layout rule.check_plane)) allowed → words ≡ (1 + max rule.distance rule.corner_distance) * frame.words → length old ≡ frame.words * frame.rows
    → ((row column : ℕ) → row < length old → words ≤ row → has_column new row column ≡ (has_column old row column || (has_column reached (row - words) column && not (has_column allowed row column))))
    → GainsDeep frame (1 + max rule.distance rule.corner_distance) (λ x y. forbids rule layout (square x y)) old new
forbidden-gained rule layout frame reached allowed old new words has shown words_are long gained x y deep =
    let h = 1 + max rule.distance rule.corner_distance in
    let n = place_of frame x y in
    let here = here-in frame h x y deep in
    let same : 64 * words ≡ h * (64 * frame.words) = ap (λ m. 64 * m) words_are ∙ omega arith in
    let room : 64 * words ≤ n = omega (arith, same, deep-home frame h x y deep) in
    let there = word-below n words room in
    let within = place-in frame x y here in
    gained (n / 64) (n % 64) (omega (arith, within, long)) (omega (arith, room))
    ∙ ap (λ i. has_place old n || (has_column reached i (n % 64) && not (has_place allowed n))) there.0
    ∙ ap (λ i. has_place old n || (has_column reached ((n - 64 * words) / 64) i && not (has_place allowed n))) there.1
    ∙ ap (λ m. has_place old n || (has_place reached (n - m) && not (has_place allowed n))) same
    ∙ ap (λ b. has_place old n || (b && not (has_place allowed n))) (has x y deep)
    ∙ ap (λ b. has_place old n || (reaches rule layout (square x y) && not b)) (shown x y here)
    ∙ ap (λ b. has_place old n || b) (and_comm (reaches rule layout (square x y)) (is_disallowed rule layout (square x y)))

-- a square of a piece lies deep in a frame round it
pub deep-in-piece : (frame : Frame) (piece : Rect) (margin depth x y : ℕ) → IsRound frame piece margin → depth ≤ margin → holds piece x y ≡ true → IsDeep frame depth x y
deep-in-piece frame piece margin depth x y round within here =
    let lines = holds_between piece x y here in
    record {
      left = omega (arith, round.left, lines.0);
      right = omega (arith, round.right, lines.1);
      below = omega (arith, round.below, lines.2);
      above = omega (arith, round.above, lines.3);
    }

-- ---- bands
-- a row of a band has a word of the frame
pub band-word : (frame : Frame) (e : Rect) (first row : ℕ) → FitsIn frame e → e.left < e.right → first ≡ (e.bottom - frame.bottom) * frame.words + (e.left - frame.left) / 64 → e.bottom + row < e.top
    → first + row * frame.words < frame.words * frame.rows
band-word frame e first row fits wide is within =
    let high = mul-le (e.bottom - frame.bottom + row + 1) frame.words frame.rows frame.words (omega (arith, fits.above, fits.below)) (omega arith) in
    omega (arith, is, fits.left, fits.right, high)

-- the place of a square is one of its row's word
pub band-place : (frame : Frame) (e : Rect) (first x y : ℕ) → FitsIn frame e → e.left ≤ x → e.bottom ≤ y → first ≡ (e.bottom - frame.bottom) * frame.words + (e.left - frame.left) / 64
    → place_of frame x y ≡ 64 * (first + (y - e.bottom) * frame.words) + (x - e.left)
band-place frame e first x y fits on up is =
    let rows : y - frame.bottom ≡ (e.bottom - frame.bottom) + (y - e.bottom) = omega (arith, fits.below) in
    let columns : x - frame.left ≡ 64 * ((e.left - frame.left) / 64) + (x - e.left) = omega (arith, fits.left, fits.even) in
    ap (λ r. r * (64 * frame.words) + (x - frame.left)) rows ∙ omega (arith, columns, is)

-- ---- rules in turn
shallower : (frame : Frame) (less more x y : ℕ) → less ≤ more → IsDeep frame more x y → IsDeep frame less x y
shallower frame less more x y few deep = record {
  left = omega (arith, deep.left);
  right = omega (arith, deep.right);
  below = omega (arith, deep.below);
  above = omega (arith, deep.above);
}

-- a rule more, before those that follow it
one-rule-more : (rules : List EdgeRule) (layout : Layout) (i : ℕ) (rule : EdgeRule) (x y : ℕ) → i < length rules → get_or rules i rule ≡ rule
    → forbidden_by_any (drop i rules) layout x y ≡ (forbids rule layout (square x y) || forbidden_by_any (drop (i + 1) rules) layout x y)
one-rule-more rules layout i rule x y below there =
    ap (λ (rs : List EdgeRule). forbidden_by_any rs layout x y) (drop-cons rules i rule below)
    ∙ ap (λ r. forbids r layout (square x y) || forbidden_by_any (drop (suc i) rules) layout x y) there
    ∙ ap (λ k. forbids rule layout (square x y) || forbidden_by_any (drop k rules) layout x y) (sym (add-one i))

pub rule-added : (rules : List EdgeRule) (layout : Layout) (frame : Frame) (i n : ℕ) (rule : EdgeRule) (depth : ℕ) (old new : List ℕ) → i < length rules → n ≡ i + 1 → get_or rules i rule ≡ rule → halo_of rules ≤ depth
    → HasDeep frame depth (forbidden_by_any (drop n rules) layout) old → GainsDeep frame (1 + max rule.distance rule.corner_distance) (λ x y. forbids rule layout (square x y)) old new
    → HasDeep frame depth (forbidden_by_any (drop i rules) layout) new
rule-added rules layout frame i n rule depth old new below next there far before gains x y deep =
    let bound = halo-bounds rules rule (i, below, there) in
    gains x y (shallower frame (1 + max rule.distance rule.corner_distance) depth x y (omega arith) deep)
    ∙ ap (λ b. b || forbids rule layout (square x y)) (before x y deep) ∙ or_comm (forbidden_by_any (drop n rules) layout x y) (forbids rule layout (square x y))
    ∙ ap (λ k. forbids rule layout (square x y) || forbidden_by_any (drop k rules) layout x y) next ∙ sym (one-rule-more rules layout i rule x y below there)

had-already : (f a : Bool) → (f ≡ true → a ≡ true) → a ≡ (f || a)
had-already true a has = has refl
had-already false a has = refl

pub rule-skipped : (rules : List EdgeRule) (layout : Layout) (frame : Frame) (i n : ℕ) (rule : EdgeRule) (depth : ℕ) (old : List ℕ) → i < length rules → n ≡ i + 1 → get_or rules i rule ≡ rule
    → ((x y : ℕ) → forbids rule layout (square x y) ≡ true → forbidden_by_any (drop n rules) layout x y ≡ true)
    → HasDeep frame depth (forbidden_by_any (drop n rules) layout) old → HasDeep frame depth (forbidden_by_any (drop i rules) layout) old
rule-skipped rules layout frame i n rule depth old below next there covered before x y deep =
    before x y deep ∙ had-already (forbids rule layout (square x y)) (forbidden_by_any (drop n rules) layout x y) (covered x y)
    ∙ ap (λ k. forbids rule layout (square x y) || forbidden_by_any (drop k rules) layout x y) next ∙ sym (one-rule-more rules layout i rule x y below there)

-- ---- the piece
pub marks-found : (rules : List EdgeRule) (layout : Layout) (frame : Frame) (piece : Rect) (map : List ℕ) (x y : ℕ) → IsRound frame piece (halo_of rules)
    → HasDeep frame (halo_of rules) (forbidden_by_any rules layout) map
    → (holds piece x y && has_place map (place_of frame x y)) ≡ (holds piece x y && forbidden_by_any rules layout x y)
marks-found rules layout frame piece map x y round has =
    and_in (holds piece x y) (has_place map (place_of frame x y)) (forbidden_by_any rules layout x y)
    (λ here. has x y (deep-in-piece frame piece (halo_of rules) (halo_of rules) x y round (omega arith) here))

-- a piece lies in the world
pub forbidden-in : (rules : List EdgeRule) (layout : Layout) (piece : Rect) (x y : ℕ) → IsRectangleIn world piece
    → (holds piece x y && forbidden_by_any rules layout x y) ≡ (holds piece x y && forbidden rules layout x y)
forbidden-in rules layout piece x y inside =
    and_in (holds piece x y) (forbidden_by_any rules layout x y) (forbidden rules layout x y)
    (λ here. ap (λ b. b && forbidden_by_any rules layout x y) (sym (in_world piece x y inside here)))

-- ---- a rule alone
-- some square of the rectangle is on a map on which a rule alone has marked exactly where the rule forbids one
pub rule-found : (rule : EdgeRule) (layout : Layout) (frame : Frame) (rect : Rect) (old new : List ℕ)
    → IsRound frame rect (1 + max rule.distance rule.corner_distance) → ((n : ℕ) → has_place old n ≡ false)
    → GainsDeep frame (1 + max rule.distance rule.corner_distance) (λ x y. forbids rule layout (square x y)) old new
    → has_some rect (λ x y. has_place new (place_of frame x y)) ≡ forbids_in rect layout rule
rule-found rule layout frame rect old new round none gains =
    let h = 1 + max rule.distance rule.corner_distance in
    some-same rect (λ x y. has_place new (place_of frame x y)) (λ x y. forbids rule layout (square x y))
    (λ x y here. gains x y (deep-in-piece frame rect h h x y round (omega arith) here) ∙ ap (λ b. b || forbids rule layout (square x y)) (none (place_of frame x y)))

-- a frame round a piece is one with a narrower margin
pub narrower : (frame : Frame) (piece : Rect) (margin less : ℕ) → IsRound frame piece margin → less ≤ margin → IsRound frame piece less
narrower frame piece margin less round few = record {
  left = omega (arith, round.left);
  below = omega (arith, round.below);
  right = omega (arith, round.right);
  above = omega (arith, round.above);
}
