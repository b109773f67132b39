-- The runs of a row: a square lies in one only, and between the runs of a list of them no square is covered.
use Rattle.mls_geom.proofs.Common.{◌≡◌, ◌≢◌, ℕ, ◌+◌, ◌-◌, ◌<◌, ◌≤◌, List, length, get_or, set, map, le_refl, sym, ap, ◌∙◌, arith, inl, inr, Any, cases_eq, cases_lt, get_or-map, get_or_past, length-map, map-set, set-get_or, All-map, All-set}
use Rattle.mls_geom.proofs.Definitions.{Rect, Picture, uncovered, AreInOrder, AreRuns, up_to, IsRun, Run}
use Rattle.mls_geom.proofs.ListChanges.{AllPairs-set, Any-set_kept}

-- the rows of the extent don't matter to a run
pub IsRun-extent : (extent : Rect) {picture : Picture} {left right y kind : ℕ} (line : ℕ) → IsRun (up_to line extent) picture left right y kind → IsRun extent picture left right y kind
IsRun-extent extent line run =
    record { from = run.from; wide = run.wide; to = run.to; one_kind = run.one_kind; ends_left = run.ends_left; ends_right = run.ends_right }

pub IsRun-up_to : (extent : Rect) {picture : Picture} {left right y kind : ℕ} (line : ℕ) → IsRun extent picture left right y kind → IsRun (up_to line extent) picture left right y kind
IsRun-up_to extent line run =
    record { from = run.from; wide = run.wide; to = run.to; one_kind = run.one_kind; ends_left = run.ends_left; ends_right = run.ends_right }

-- a row with the same squares there, and with those beside them, has the same run
pub IsRun-like :
    {extent : Rect} {p q : Picture} {l r y k : ℕ} (z : ℕ) → ((x : ℕ) → l ≤ x + 1 → x ≤ r → extent.left ≤ x → x < extent.right → q x z ≡ p x y)
    → IsRun extent p l r y k → IsRun extent q l r z k
IsRun-like {l = l} {r = r} z same run = record {
  from = run.from;
  wide = run.wide;
  to = run.to;
  one_kind = λ x from to. same x (omega arith) (omega arith) (omega (arith, run.from)) (omega (arith, run.to)) ∙ run.one_kind x from to;
  ends_left = λ inside is. run.ends_left inside (sym (same (l - 1) (omega arith) (omega (arith, run.wide)) (omega arith) (omega (arith, run.wide, run.to))) ∙ is);
  ends_right = λ inside is. run.ends_right inside (sym (same r (omega (arith, run.wide)) (le_refl r) (omega (arith, run.wide, run.from)) inside) ∙ is);
}

-- in a row that is alike there is the same run
pub IsRun-alike :
    {extent : Rect} {picture : Picture} {left right y kind : ℕ} (z : ℕ) → ((x : ℕ) → extent.left ≤ x → x < extent.right → picture x z ≡ picture x y)
    → IsRun extent picture left right y kind → IsRun extent picture left right z kind
IsRun-alike z alike run = IsRun-like z (λ x _ _. alike x) run

-- runs of a row that share a square have one kind, and neither begins or ends before the other
one_kind_shared :
    {extent : Rect} {picture : Picture} {l r y k l' r' k' : ℕ} (x : ℕ) → IsRun extent picture l r y k → IsRun extent picture l' r' y k'
    → l ≤ x → x < r → l' ≤ x → x < r' → k ≡ k'
one_kind_shared x p q from to from' to' = sym (p.one_kind x from to) ∙ q.one_kind x from' to'

begins_no_later :
    {extent : Rect} {picture : Picture} {l r y k l' r' k' : ℕ} (x : ℕ) → IsRun extent picture l r y k → IsRun extent picture l' r' y k'
    → l ≤ x → x < r → l' ≤ x → x < r' → l' ≤ l
begins_no_later {l} {l'} x p q from to from' to' = elim (cases_lt l l') [
  | inl before ↦ absurd (q.ends_left (omega (arith, p.from)) (p.one_kind (l' - 1) (omega arith) (omega arith) ∙ one_kind_shared x p q from to from' to'))
  | inr holds ↦ holds
]

ends_no_sooner :
    {extent : Rect} {picture : Picture} {l r y k l' r' k' : ℕ} (x : ℕ) → IsRun extent picture l r y k → IsRun extent picture l' r' y k'
    → l ≤ x → x < r → l' ≤ x → x < r' → r ≤ r'
ends_no_sooner {r} {r'} x p q from to from' to' = elim (cases_lt r' r) [
  | inl before ↦ absurd (q.ends_right (omega (arith, p.to)) (p.one_kind r' (omega arith) before ∙ one_kind_shared x p q from to from' to'))
  | inr holds ↦ holds
]

-- runs of a row that share a square are one
pub record AreOneRun (l r k l' r' k' : ℕ) : Type 0 where
  pub left : l ≡ l'
  pub right : r ≡ r'
  pub kind : k ≡ k'

pub both_one_run : {l r k l' r' k' l'' r'' k'' : ℕ} → AreOneRun l r k l' r' k' → AreOneRun l'' r'' k'' l' r' k' → AreOneRun l r k l'' r'' k''
both_one_run p q = record { left = p.left ∙ sym q.left; right = p.right ∙ sym q.right; kind = p.kind ∙ sym q.kind }

pub one_run :
    {extent : Rect} {picture : Picture} {l r y k l' r' k' : ℕ} (x : ℕ) → IsRun extent picture l r y k → IsRun extent picture l' r' y k'
    → l ≤ x → x < r → l' ≤ x → x < r' → AreOneRun l r k l' r' k'
one_run x p q from to from' to' = record {
  left = omega (arith, begins_no_later x p q from to from' to', begins_no_later x q p from' to' from to);
  right = omega (arith, ends_no_sooner x p q from to from' to', ends_no_sooner x q p from' to' from to);
  kind = one_kind_shared x p q from to from' to';
}

-- a run of covered squares is in the list of its row's runs
pub run_listed :
    {extent : Rect} {picture : Picture} {l r y k : ℕ} (runs : List Run) → AreRuns extent picture y runs → IsRun extent picture l r y k → k ≢ uncovered
    → Any (λ run. AreOneRun run.left run.right run.kind l r k) runs
run_listed {l} runs list run covered =
    let here = run.one_kind l (le_refl l) run.wide in
    let (n, here, within, is, at) = list.whole l run.from (omega (arith, run.wide, run.to)) (λ none. covered (sym here ∙ none)) in
    (n, here, within, is, one_run l (rw is at (list.each n here within)) run at.0 at.1 (omega arith) run.wide)

-- the left line of a run of the list, or, past the list's end, another line
abbrev pub left_line : List Run → ℕ → ℕ → ℕ
left_line runs n end = get_or (map (λ run. run.left) runs) n end

pub left_line-within : (runs : List Run) (n end : ℕ) (d : Run) → n < length runs → left_line runs n end ≡ (get_or runs n d).left
left_line-within runs n end d within = get_or-map (λ run. run.left) runs n d end within

pub left_line-past : (runs : List Run) (n end : ℕ) → length runs ≤ n → left_line runs n end ≡ end
left_line-past runs n end past = get_or_past (map (λ run. run.left) runs) n end (simp length-map past)

-- the runs of a row are in order
pub AreInOrder-runs : {extent : Rect} {picture : Picture} {y : ℕ} (runs : List Run) → AreRuns extent picture y runs → AreInOrder runs
AreInOrder-runs runs list = record { wide = λ k d within. (list.each k d within).wide; ordered = list.ordered }

-- runs in order end and begin in order
pub runs_ascend :
    (runs : List Run) (m n : ℕ) (d : Run) → AreInOrder runs → m ≤ n → n < length runs
    → ((get_or runs m d).left ≤ (get_or runs n d).left) × ((get_or runs m d).right ≤ (get_or runs n d).right)
runs_ascend runs m n d order up within = elim (cases_lt m n) [
  | inl before ↦ (
    omega (arith, order.ordered m n d before within, order.wide m d (omega arith)),
    omega (arith, order.ordered m n d before within, order.wide n d within),
  )
  | inr after ↦
      let same : m ≡ n = omega arith in
      rw same (le_refl (get_or runs n d).left, le_refl (get_or runs n d).right)
]

-- the left line of a run lies in the extent
left_lines_inside :
    {extent : Rect} {picture : Picture} {y : ℕ} (runs : List Run) (n : ℕ) → AreRuns extent picture y runs → extent.left ≤ extent.right
    → (extent.left ≤ left_line runs n extent.right) × (left_line runs n extent.right ≤ extent.right)
left_lines_inside {extent} runs n list wide =
    let lefts = map (λ (run : Run). run.left) runs in
    let inside = All-map (λ line. (extent.left ≤ line) × (line ≤ extent.right)) (λ (run : Run). run.left) runs
    (λ k d within. ((list.each k d within).from, omega (arith, (list.each k d within).wide, (list.each k d within).to))) in
    elim (cases_lt n (length lefts)) [
      | inl within ↦ inside n extent.right within
      | inr past ↦ rw (get_or_past lefts n extent.right past) (wide, le_refl extent.right)
    ]

pub left_line-from :
    {extent : Rect} {picture : Picture} {y : ℕ} (runs : List Run) (n : ℕ) → AreRuns extent picture y runs → extent.left ≤ extent.right → extent.left ≤ left_line runs n extent.right
left_line-from runs n list wide = (left_lines_inside runs n list wide).0

pub left_line-to :
    {extent : Rect} {picture : Picture} {y : ℕ} (runs : List Run) (n : ℕ) → AreRuns extent picture y runs → extent.left ≤ extent.right → left_line runs n extent.right ≤ extent.right
left_line-to runs n list wide = (left_lines_inside runs n list wide).1

-- the next run begins where a run ends, or further right
pub left_line-next :
    {extent : Rect} {picture : Picture} {y : ℕ} (runs : List Run) (n : ℕ) (d : Run) → AreRuns extent picture y runs → n < length runs
    → (get_or runs n d).right ≤ left_line runs (n + 1) extent.right
left_line-next {extent} runs n d list within = elim (cases_lt (n + 1) (length runs)) [
  | inl more ↦ rw (left_line-within runs (n + 1) extent.right d more) (list.ordered n (n + 1) d (omega arith) more)
  | inr last ↦ rw (left_line-past runs (n + 1) extent.right last) (list.each n d within).to
]

-- left of a run, and right of those before it, no square is covered
pub uncovered-between :
    {extent : Rect} {picture : Picture} {y : ℕ} (runs : List Run) (n x : ℕ) → AreRuns extent picture y runs → extent.left ≤ extent.right → extent.left ≤ x → x < left_line runs n extent.right
    → ((m : ℕ) (d : Run) → m < n → m < length runs → (get_or runs m d).right ≤ x) → picture x y ≡ uncovered
uncovered-between {extent} {picture} {y} runs n x list wide left before passed = elim (cases_eq (picture x y) uncovered) [
  | inl none ↦ none
  | inr some ↦
      let inside : x < extent.right = omega (arith, left_line-to runs n list wide) in
      let (m, run, within, is, at) = list.whole x left inside some in
      elim (cases_lt m n) [
        | inl sooner ↦ absurd (omega (arith, rw is at (passed m run sooner within), at.1))
        | inr later ↦ absurd (omega (arith, left_line-within runs n extent.right run (omega arith), rw is at (runs_ascend runs n m run (AreInOrder-runs runs list) later within), at.0))
      ]
]

-- a run with another strip
abbrev pub named : ℕ → Run → Run
named strip run = record { left = run.left; right = run.right; kind = run.kind; strip = strip }

pub left_line-set :
    (runs : List Run) (n strip k end : ℕ) (d : Run) → n < length runs → left_line (set runs n (named strip (get_or runs n d))) k end ≡ left_line runs k end
left_line-set runs n strip k end d within =
    let lefts = map (λ run. run.left) runs in
    let same = ap (λ line. set lefts n line) (sym (get_or-map (λ run. run.left) runs n d 0 within)) ∙ set-get_or lefts n 0 in
    ap (λ lines. get_or lines k end) (map-set (λ run. run.left) runs n (named strip (get_or runs n d)) ∙ same)

pub AreRuns-set :
    {extent : Rect} {picture : Picture} {y : ℕ} (runs : List Run) (n strip : ℕ) (d : Run) → n < length runs → AreRuns extent picture y runs
    → AreRuns extent picture y (set runs n (named strip (get_or runs n d)))
AreRuns-set {extent} {picture} {y} runs n strip d within list =
    let run = named strip (get_or runs n d) in
    record {
      each = All-set (λ run. IsRun extent picture run.left run.right y run.kind) runs n run (list.each n d within) list.each;
      covered = All-set (λ run. run.kind ≢ uncovered) runs n run (list.covered n d within) list.covered;
      whole = λ x from to some. Any-set_kept (λ run. (run.left ≤ x) × (x < run.right)) runs n run d (λ held. held) (list.whole x from to some);
      ordered = AllPairs-set (λ p q. p.right ≤ q.left) runs n run d (λ _ before. before) (λ _ before. before) list.ordered;
    }

-- rows that are alike have the same runs
pub AreRuns-alike :
    {extent : Rect} {p q : Picture} {y : ℕ} {runs : List Run} (z : ℕ) → ((x : ℕ) → extent.left ≤ x → x < extent.right → q x z ≡ p x y) → AreRuns extent p y runs
    → AreRuns extent q z runs
AreRuns-alike z alike list = record {
  each = λ k d within. IsRun-like z (λ x _ _. alike x) (list.each k d within);
  covered = list.covered;
  whole = λ x from to some. list.whole x from to (λ none. some (alike x from to ∙ none));
  ordered = list.ordered;
}
