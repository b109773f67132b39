-- A row that is the same as the one below begins no area, and has as many squares.
use Rattle.std.proofs.Common.{◌≡◌, ℕ, ◌+◌, ◌-◌, ◌*◌, ◌/◌, ◌%◌, ◌<◌, ◌≤◌, inl, inr, Bool, true, ◌&&◌, List, slice_index, sym, ap, subst, ◌∙◌, arith}
use Rattle.mls_checker.proofs.FoundSquares.{and_in}
use Rattle.std.specs.List.{count_by}
use Rattle.std.proofs.Math.Path.{fun_ext}
use Rattle.std.proofs.lemmas.Bool.{cases_lt}
use Rattle.std.proofs.lemmas.Bool.Decides.{nat_tests}
use Rattle.std.proofs.lemmas.List.Elements.{All-contains}
use Rattle.std.proofs.lemmas.List.Folds.{Any-from_list_any, list_any-from_Any}
use Rattle.mls_geom.specs.Rects.{Rect, holds}
use Rattle.mls_geom.proofs.Holds.{between_holds, holds_between}
use Rattle.mls_kinds.specs.KindSets.{has_bit}
use Rattle.mls_checker.specs.MarkMaps.{IsMarkMap, MarkMap, mapped}
use Rattle.mls_checker.specs.MarkRuns.{AreAlike, HaveBefore, IsRowRun, IsStrip}
use Rattle.mls_checker.specs.Maps.{has_place, place_of}
use Rattle.mls_checker.specs.Marking.{SquareSet, squares_of}
use Rattle.mls_checker.proofs.RowRuns.{strip-goes-on}

-- its runs are those of the one below
pub alike-run : (set : SquareSet) (low row left right : ℕ) → AreAlike set low row → IsRowRun set low left right → IsRowRun set row left right
alike-run set low row left right alike run = record {
  some = run.some;
  begins = λ x next. sym (alike x) ∙ run.begins x next;
  all = λ x on before. sym (alike x) ∙ run.all x on before;
  ends = sym (alike right) ∙ run.ends;
}

-- the strip that has a square in the row below has it here
alike-square : (rect : Rect) (set : SquareSet) (low x : ℕ) (areas : List Rect) → AreAlike set low (low + 1) → HaveBefore rect set (low + 1) rect.left areas
    → set x (low + 1) ≡ true → squares_of areas x (low + 1) ≡ true
alike-square rect set low x areas alike have is =
    let (k, area, within, at, here) = Any-from_list_any (λ (e : Rect). holds e x low) areas (have.below x low (omega arith) (alike x ∙ is)) in
    let strip = All-contains (IsStrip rect set) areas area have.strips (k, within, at) in
    let lines = holds_between area x low here in
    let run = strip.rises.rows low lines.2 lines.3 in
    let first = between_holds area area.left low (omega arith) run.some lines.2 lines.3 in
    list_any-from_Any (λ (e : Rect). holds e x (low + 1)) areas
    (k, area, within, at, strip-goes-on rect set area low area.left area.right x strip first run (alike-run set low (low + 1) area.left area.right alike run) lines.0 lines.1)

pub alike-done : (rect : Rect) (set : SquareSet) (row : ℕ) (areas : List Rect) → ((x y : ℕ) → set x y ≡ true → rect.left ≤ x) → 0 < row → AreAlike set (row - 1) row
    → HaveBefore rect set row rect.left areas → HaveBefore rect set (row + 1) rect.left areas
alike-done rect set row areas inside some alike have =
    let back : row - 1 + 1 ≡ row = omega arith in
    record {
      strips = have.strips;
      below = λ x y under is. elim (cases_lt y row) [
        | inl lower ↦ have.below x y lower is
        | inr here ↦
            let same : y ≡ row - 1 + 1 = omega arith in
            ap (squares_of areas x) same ∙ alike-square rect set (row - 1) x areas (λ k. alike k ∙ ap (set k) (sym back))
            (subst (λ (r : ℕ). HaveBefore rect set r rect.left areas) (sym back) have) (sym (ap (set x) same) ∙ is)
      ];
      beside = λ x before is. let on = inside x (row + 1) is in absurd (omega (arith, on, before));
    }

pub alike-count : (set : SquareSet) (low row : ℕ) (list : List ℕ) → AreAlike set low row → count_by (λ x. set x low) list ≡ count_by (λ x. set x row) list
alike-count set low row list alike = ap (λ (test : ℕ → Bool). count_by test list) (fun_ext alike)

-- ---- words

alike-tests : (rect : Rect) (x row : ℕ) → rect.bottom < row → row < rect.top → holds rect x (row - 1) ≡ holds rect x row
alike-tests rect x row above before = grind (arith, nat_tests)

-- a place of a row by its word
place-word : (r w k : ℕ) → (r * (64 * w) + k) / 64 ≡ r * w + k / 64
place-word r w k = omega arith

place-bit : (r w k : ℕ) → (r * (64 * w) + k) % 64 ≡ k % 64
place-bit r w k = omega arith

alike-places : (words : List ℕ) (r w k : ℕ) → k < 64 * w → ((i : ℕ) → (r + 1) * w ≤ i → i < (r + 1) * w + w → slice_index words i ≡ slice_index words (i - w))
    → has_place words (r * (64 * w) + k) ≡ has_place words ((r + 1) * (64 * w) + k)
alike-places words r w k within same =
    let low = r * (64 * w) + k in
    let high = (r + 1) * (64 * w) + k in
    let there : low / 64 ≡ (r + 1) * w + k / 64 - w = place-word r w k ∙ omega arith in
    let here : high / 64 ≡ (r + 1) * w + k / 64 = place-word (r + 1) w k in
    let bit : low % 64 ≡ high % 64 = place-bit r w k ∙ sym (place-bit (r + 1) w k) in
    ap (λ i. has_bit (slice_index words i) (low % 64)) there ∙ ap (λ word. has_bit word (low % 64)) (sym (same ((r + 1) * w + k / 64) (omega arith) (omega (arith, within))))
    ∙ ap (λ i. has_bit (slice_index words i) (low % 64)) (sym here) ∙ ap (has_bit (slice_index words (high / 64))) bit

pub alike-words : (map : MarkMap) (row : ℕ) → IsMarkMap map → map.rect.bottom < row → row < map.rect.top
    → ((i : ℕ) → (row - map.frame.bottom) * map.frame.words ≤ i → i < (row - map.frame.bottom) * map.frame.words + map.frame.words → slice_index map.words i ≡ slice_index map.words (i - map.frame.words))
    → AreAlike (mapped map) (row - 1) row
alike-words map row is above before same x =
    let rect = map.rect in
    let next : row - map.frame.bottom ≡ row - 1 - map.frame.bottom + 1 = omega (arith, is.round.below) in
    ap (λ b. b && has_place map.words (place_of map.frame x (row - 1))) (alike-tests rect x row above before)
    ∙ and_in (holds rect x row) (has_place map.words (place_of map.frame x (row - 1))) (has_place map.words (place_of map.frame x row)) (λ here.
    let lines = holds_between rect x row here in
    alike-places map.words (row - 1 - map.frame.bottom) map.frame.words (x - map.frame.left) (omega (arith, is.round.left, is.round.right, lines.0, lines.1))
    (λ i on under. same i (omega (arith, on, ap (λ r. r * map.frame.words) next)) (omega (arith, under, ap (λ r. r * map.frame.words) next)))
    ∙ ap (λ r. has_place map.words (r * (64 * map.frame.words) + (x - map.frame.left))) (sym next))
