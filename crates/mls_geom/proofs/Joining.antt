-- Runs of the covered squares of a row up to a line, and one more.
use Rattle.mls_geom.proofs.Common.{◌≡◌, ◌≢◌, ℕ, ◌<◌, ◌≤◌, List, [], ◌∷◌, ◌++◌, inl, inr, arith, rules, cases_lt, All-push, All-weaker, Any-push, all_pairs_push}
use Rattle.mls_geom.proofs.Definitions.{uncovered, Rect, Picture, IsRun, AreRunsBefore, Run}
use Rattle.mls_geom.proofs.JoinedLists.{Any-append_left}

-- left of the extent there is none
pub AreRunsBefore-none : (extent : Rect) (picture : Picture) (y line : ℕ) → line ≤ extent.left → AreRunsBefore extent picture y line []
AreRunsBefore-none extent picture y line start = record {
  each = search rules;
  covered = search rules;
  whole = λ x from below some. absurd (omega arith);
  ordered = search rules;
  before = search rules;
}

-- one more begins where those before it end
pub AreRunsBefore-push :
    (extent : Rect) (picture : Picture) (y : ℕ) (runs : List Run) (run : Run) → AreRunsBefore extent picture y run.left runs
    → IsRun extent picture run.left run.right y run.kind → run.kind ≢ uncovered → AreRunsBefore extent picture y run.right (runs ++ run ∷ [])
AreRunsBefore-push extent picture y runs run so_far next some = record {
  each = All-push (λ p. IsRun extent picture p.left p.right y p.kind) runs run so_far.each next;
  covered = All-push (λ p. p.kind ≢ uncovered) runs run so_far.covered some;
  whole = λ x from below shown. elim (cases_lt x run.left) [
    | inl earlier ↦ Any-append_left (λ p. (p.left ≤ x) × (x < p.right)) runs (run ∷ []) (so_far.whole x from earlier shown)
    | inr here ↦ Any-push (λ p. (p.left ≤ x) × (x < p.right)) runs run (here, below)
  ];
  ordered = all_pairs_push (λ p q. p.right ≤ q.left) runs run so_far.ordered so_far.before;
  before = All-push (λ p. p.right ≤ run.right) runs run
      (All-weaker (λ p. p.right ≤ run.left) (λ p. p.right ≤ run.right) (λ p left_of. omega (arith, left_of, next.wide)) runs so_far.before) (omega arith);
}

-- squares that nothing covers are in no run
pub AreRunsBefore-uncovered :
    (extent : Rect) (picture : Picture) (y line next : ℕ) (runs : List Run) → AreRunsBefore extent picture y line runs → line ≤ next
    → ((x : ℕ) → line ≤ x → x < next → picture x y ≡ uncovered) → AreRunsBefore extent picture y next runs
AreRunsBefore-uncovered extent picture y line next runs so_far on none = record {
  each = so_far.each;
  covered = so_far.covered;
  whole = λ x from below shown. elim (cases_lt x line) [
    | inl earlier ↦ so_far.whole x from earlier shown
    | inr here ↦ absurd (shown (none x here below))
  ];
  ordered = so_far.ordered;
  before = All-weaker (λ p. p.right ≤ line) (λ p. p.right ≤ next) (λ p left_of. omega arith) runs so_far.before;
}
