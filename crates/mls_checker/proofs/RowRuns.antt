-- Areas of rows that are alike have all squares: a run of a row begins an area, or lies in the one that has the run below it.
use Rattle.std.proofs.Common.{◌≡◌, ℕ, ◌+◌, ◌-◌, ◌<◌, ◌≤◌, ◌%◌, ◌==◌, inl, inr, true, false, true≢false, ◌||◌, ◌&&◌, List, [], ◌∷◌, ◌++◌, length, sym, ap, subst, ◌∙◌, arith}
use Rattle.std.specs.Cmp.{both_ways}
use Rattle.std.proofs.Math.Bool.{and-false, or-true}
use Rattle.std.proofs.lemmas.Bool.{and_parts, cases_eq, cases_lt, false_from_ne_true}
use Rattle.std.proofs.lemmas.List.Elements.{All-contains, All-push}
use Rattle.std.proofs.lemmas.List.Folds.{Any-from_list_any, list_any-from_Any}
use Rattle.std.proofs.lemmas.Bool.Decides.{nat_tests}
use Rattle.mls_geom.specs.Rects.{Rect, holds}
use Rattle.mls_geom.proofs.Holds.{between_holds, holds_between}
use Rattle.mls_kinds.proofs.BitLemmas.{has_bit-zero}
use Rattle.mls_checker.specs.Marking.{SquareSet, squares_of}
use Rattle.mls_checker.specs.Maps.{has_place, place_of}
use Rattle.mls_checker.specs.MarkMaps.{MarkMap, mapped}
use Rattle.mls_checker.specs.MarkRuns.{HaveBefore, IsNextRun, IsRise, IsRowRun, IsStrip}
use Rattle.mls_checker.proofs.MarkedAreas.{squares-push}

-- ---- runs of a row
-- a run begins no later and ends no earlier than another one of the row that has one of its squares
same-left : (set : SquareSet) (y left right left' right' x : ℕ) → IsRowRun set y left right → IsRowRun set y left' right' → left ≤ x → x < right → left' ≤ x → left' ≤ left
same-left set y left right left' right' x run other on before on' = elim (cases_lt left left') [
  | inl less ↦ absurd (true≢false (sym (run.all (left' - 1) (omega arith) (omega arith)) ∙ other.begins (left' - 1) (omega arith)))
  | inr more ↦ more
]

same-right : (set : SquareSet) (y left right left' right' x : ℕ) → IsRowRun set y left right → IsRowRun set y left' right' → left' ≤ x → x < right → x < right' → right' ≤ right
same-right set y left right left' right' x run other on' before before' = elim (cases_lt right right') [
  | inl less ↦ absurd (true≢false (sym (other.all right (omega arith) less) ∙ run.ends))
  | inr more ↦ more
]

-- two runs of a row that share a square are one
pub same-run : (set : SquareSet) (y left right left' right' x : ℕ) → IsRowRun set y left right → IsRowRun set y left' right' → left ≤ x → x < right → left' ≤ x → x < right'
    → (left' ≡ left) × (right' ≡ right)
same-run set y left right left' right' x run other on before on' before' =
    let a = same-left set y left right left' right' x run other on before on' in
    let b = same-left set y left' right' left right x other run on' before' on in
    let c = same-right set y left right left' right' x run other on' before before' in
    let d = same-right set y left' right' left right x other run on before' before in
    (omega (arith, a, b), omega (arith, c, d))

-- the next run from a column where none goes on
pub next-is-run : (set : SquareSet) (rect : Rect) (y from left right : ℕ) → ((x : ℕ) → set x y ≡ true → rect.left ≤ x) → (set from y ≡ true → from ≡ rect.left) → IsNextRun set y from left right
    → IsRowRun set y left right
next-is-run set rect y from left right inside starts run = record {
  some = run.some;
  begins = λ x next. elim (cases_lt x from) [
    | inl before ↦ false_from_ne_true (set x y) (λ is.
        let same : left ≡ from = omega (arith, run.after) in
        let first = starts (run.all from (omega (arith, same)) (omega (arith, same, run.some))) in
        let on = inside x is in
        omega (arith, first, on))
    | inr on ↦ run.none x on (omega arith)
  ];
  all = run.all;
  ends = run.ends;
}

-- where a run is, the next one from its first column or the one before begins with it
pub next-begins : (set : SquareSet) (y from left right start «end» : ℕ) → from ≤ left → left ≤ from + 1 → IsNextRun set y from start «end» → IsRowRun set y left right → start ≡ left
next-begins set y from left right start «end» on near next run = elim (cases_lt start left) [
  | inl before ↦ absurd (true≢false (sym (next.all start (omega arith) next.some) ∙ run.begins start (omega (arith, next.after))))
  | inr after ↦ elim (cases_lt left start) [
    | inl behind ↦ absurd (true≢false (sym (run.all left (omega arith) run.some) ∙ next.none left on behind))
    | inr here ↦ omega arith
  ]
]

-- a row more of a rise
pub rise-more : (set : SquareSet) (left right bottom row : ℕ) → ((y : ℕ) → bottom ≤ y → y < row → IsRowRun set y left right) → IsRowRun set row left right
    → (y : ℕ) → bottom ≤ y → y < row + 1 → IsRowRun set y left right
rise-more set left right bottom row so_far run y on before = elim (cases_lt y row) [
  | inl earlier ↦ so_far y on earlier
  | inr last ↦ let same : row ≡ y = omega arith in subst (λ (k : ℕ). IsRowRun set k left right) same run
]

-- ---- strips
-- a square of an area is marked
strip-squares : (rect : Rect) (set : SquareSet) (area : Rect) (x y : ℕ) → IsStrip rect set area → holds area x y ≡ true → set x y ≡ true
strip-squares rect set area x y strip here =
    let lines = holds_between area x y here in
    (strip.rises.rows y lines.2 lines.3).all x lines.0 lines.1

-- where the row below has the run as well, the strip that has it there has it here
pub strip-goes-on : (rect : Rect) (set : SquareSet) (area : Rect) (row left right x : ℕ) → IsStrip rect set area → holds area left row ≡ true
    → IsRowRun set row left right → IsRowRun set (row + 1) left right → left ≤ x → x < right → holds area x (row + 1) ≡ true
strip-goes-on rect set area row left right x strip here below run on before =
    let lines = holds_between area left row here in
    let same = same-run set row left right area.left area.right left below (strip.rises.rows row lines.2 lines.3) (omega arith) below.some lines.0 lines.1 in
    elim (cases_eq area.top (row + 1)) [
      | inl last ↦ absurd (strip.rises.ends (subst (λ (y : ℕ). IsRowRun set y area.left area.right) (sym last)
          (subst (λ (l : ℕ). IsRowRun set (row + 1) l area.right) (sym same.0) (subst (λ (r : ℕ). IsRowRun set (row + 1) left r) (sym same.1) run))))
      | inr more ↦ between_holds area x (row + 1) (omega (arith, same.0)) (omega (arith, same.1)) (omega (arith, lines.2)) (omega (arith, lines.3, more))
    ]

-- so its squares are there already
goes-on : (rect : Rect) (set : SquareSet) (row left right : ℕ) (areas : List Rect) → IsRowRun set row left right → IsRowRun set (row + 1) left right
    → HaveBefore rect set (row + 1) left areas → HaveBefore rect set (row + 1) right areas
goes-on rect set row left right areas below run have = record {
  strips = have.strips;
  below = have.below;
  beside = λ x before is. elim (cases_lt x left) [
    | inl earlier ↦ have.beside x earlier is
    | inr on ↦
        let there = have.below left row (omega arith) (below.all left (omega arith) below.some) in
        let (k, area, within, at, here) = Any-from_list_any (λ (e : Rect). holds e left row) areas there in
        let strip = All-contains (IsStrip rect set) areas area have.strips (k, within, at) in
        list_any-from_Any (λ (e : Rect). holds e x (row + 1)) areas (k, area, within, at, strip-goes-on rect set area row left right x strip here below run on before)
  ];
}

pub run-goes-on : (rect : Rect) (set : SquareSet) (low row left right : ℕ) (areas : List Rect) → low + 1 ≡ row → IsRowRun set low left right → IsRowRun set row left right
    → HaveBefore rect set row left areas → HaveBefore rect set row right areas
run-goes-on rect set low row left right areas next below run have =
    subst (λ (r : ℕ). IsRowRun set r left right → HaveBefore rect set r left areas → HaveBefore rect set r right areas) next (goes-on rect set low left right areas below) run have

-- an area more has what was there
kept : (areas : List Rect) (area : Rect) (x y : ℕ) → squares_of areas x y ≡ true → squares_of (areas ++ area ∷ []) x y ≡ true
kept areas area x y was = squares-push areas area x y ∙ ap (λ b. b || holds area x y) was

-- a run begins an area
pub run-begins : (rect : Rect) (set : SquareSet) (row top left right : ℕ) (areas : List Rect) → rect.left ≤ left → right ≤ rect.right → rect.bottom ≤ row → top ≤ rect.top → left < right
    → IsRise set left right row top → HaveBefore rect set row left areas
    → HaveBefore rect set row right (areas ++ record { left = left; bottom = row; right = right; top = top } ∷ [])
run-begins rect set row top left right areas first last low high some rises have =
    let area : Rect = record { left = left; bottom = row; right = right; top = top } in
    record {
      strips = All-push (IsStrip rect set) areas area have.strips (record {
        inside = record { left_in = first; wide = some; right_in = last; bottom_in = low; tall = rises.tall; top_in = high };
        rises = rises;
      });
      below = λ x y under is. kept areas area x y (have.below x y under is);
      beside = λ x before is. elim (cases_lt x left) [
        | inl earlier ↦ kept areas area x row (have.beside x earlier is)
        | inr on ↦ squares-push areas area x row ∙ ap (λ b. squares_of areas x row || b) (between_holds area x row on before (omega arith) rises.tall) ∙ or-true (squares_of areas x row)
      ];
    }

-- ---- rows

-- all runs of a row were added
pub row-done : (rect : Rect) (set : SquareSet) (row from : ℕ) (areas : List Rect) → ((x y : ℕ) → set x y ≡ true → rect.left ≤ x) → ((x : ℕ) → from ≤ x → set x row ≡ false)
    → HaveBefore rect set row from areas → HaveBefore rect set (row + 1) rect.left areas
row-done rect set row from areas inside none have = record {
  strips = have.strips;
  below = λ x y under is. elim (cases_lt y row) [
    | inl lower ↦ have.below x y lower is
    | inr here ↦
        let same : y ≡ row = omega arith in
        let is' = sym (ap (set x) same) ∙ is in
        ap (squares_of areas x) same ∙ elim (cases_lt x from) [
          | inl earlier ↦ have.beside x earlier is'
          | inr on ↦ absurd (true≢false (sym is' ∙ none x on))
        ]
  ];
  beside = λ x before is. let on = inside x (row + 1) is in absurd (omega (arith, on, before));
}

-- the areas have the squares of all rows, and no others
pub rows-done : (rect : Rect) (set : SquareSet) (row from : ℕ) (areas : List Rect) → ((x y : ℕ) → set x y ≡ true → y < row) → HaveBefore rect set row from areas
    → (x y : ℕ) → squares_of areas x y ≡ set x y
rows-done rect set row from areas inside have x y = both_ways (squares_of areas x y) (set x y)
    (λ here.
    let (k, area, within, at, is) = Any-from_list_any (λ (e : Rect). holds e x y) areas here in
    strip-squares rect set area x y (All-contains (IsStrip rect set) areas area have.strips (k, within, at)) is)
    (λ is. have.below x y (inside x y is) is)

-- ---- squares of a map
pub mapped-lines : (map : MarkMap) (x y : ℕ) → mapped map x y ≡ true → (map.rect.left ≤ x) × (x < map.rect.right) × (map.rect.bottom ≤ y) × (y < map.rect.top)
mapped-lines map x y is = holds_between map.rect x y (and_parts (holds map.rect x y) (has_place map.words (place_of map.frame x y)) is).0

empty-places : (words : List ℕ) (n : ℕ) → length words ≡ 0 → has_place words n ≡ false
empty-places [] n none = has_bit-zero (n % 64)
empty-places (word ∷ words) n none = absurd (omega arith)

-- without words no square is marked
pub mapped-none : (map : MarkMap) (x y : ℕ) → (length map.words == 0) ≡ true → mapped map x y ≡ false
mapped-none map x y none =
    ap (λ b. holds map.rect x y && b) (empty-places map.words (place_of map.frame x y) (grind (arith, nat_tests))) ∙ and-false (holds map.rect x y)
