-- What slots show is the topmost piece that has them.
use Rattle.mls_geom.proofs.Common.{◌≡◌, ◌+◌, ◌^◌, ◌<◌, ◌≤◌, ◌==◌, ◌&&◌, ◌||◌, ◌⊎◌, ◌∙◌, if◌then◌else◌, Bool, List, arith, false, inl, inr, max, nat_lt, not, refl, suc, sym, true, zero, ℕ, pow_pos, nat_tests, cases_Bool, cases_lt, lt-ltb, ltb-true, false_from_ne_true, false≢true}
use Rattle.mls_geom.proofs.Definitions.{Span, Segment, IsInside, IsRankOf, has_node, has_slot, lies_in, node_of, span_of}
use Rattle.mls_geom.specs.Sweep.Trees.{shown}
use Rattle.mls_geom.proofs.ShownSlots.{twice}

-- a rank of one set or of another
rank_of_either :
    {P Q R : ℕ → Type 0} (a b : ℕ) → IsRankOf P a → IsRankOf Q b → ((i : ℕ) → R i → P i ⊎ Q i) → ((i : ℕ) → P i → R i) → ((i : ℕ) → Q i → R i)
    → IsRankOf R (max a b)
rank_of_either a b p q parts from_p from_q = record {
  over = λ i r. elim (parts i r) [
    | inl one ↦ omega (arith, p.over i one)
    | inr other ↦ omega (arith, q.over i other)
  ];
  some = elim (cases_lt a b) [
    | inl less ↦ elim q.some [
      | inl none ↦ absurd (omega (arith, none, less))
      | inr is ↦ (let most : max a b ≡ b = omega (arith, less) in rw most (inr (from_q _ is)))
    ]
    | inr more ↦ (let most : max a b ≡ a = omega (arith, more) in elim p.some [
      | inl none ↦ inl (most ∙ none)
      | inr is ↦ rw most (inr (from_p _ is))
    ])
  ];
}

-- sets of the same numbers have one rank
IsRankOf-alike :
    {P Q : ℕ → Type 0} (rank : ℕ) → ((i : ℕ) → P i → Q i) → ((i : ℕ) → Q i → P i) → IsRankOf P rank → IsRankOf Q rank
IsRankOf-alike rank to back p = record {
  over = λ i q. p.over i (back i q);
  some = elim p.some [
    | inl none ↦ inl none
    | inr is ↦ inr (to _ is)
  ];
}

-- a part has its own nodes
has_node-split :
    (inside : Bool) (h first n : ℕ) (left right : Bool) → (left ≡ true → IsInside h first n) → (right ≡ true → IsInside h (first + 2 ^ h) n)
    → (if inside then n == node_of (suc h) first else (left || right)) ≡ true → IsInside (suc h) first n
has_node-split true h first n left right in_left in_right has =
    let two = twice h in
    let some = pow_pos h in
    grind (arith, nat_tests)
has_node-split false h first n true right in_left in_right has =
    let (low, high) = in_left refl in
    let two = twice h in
    (low, omega (arith, high, two))
has_node-split false h first n false true in_left in_right has =
    let (low, high) = in_right refl in
    let two = twice h in
    (omega (arith, low), omega (arith, high, two))
has_node-split false h first n false false in_left in_right has = absurd (false≢true has)

-- so a node that a segment has in a part is one of the part
pub has_node-inside : (span : Span) (h first n : ℕ) → has_node span h first n ≡ true → IsInside h first n
unfolding has_node
has_node-inside span zero first n has = grind (arith, nat_tests)
has_node-inside span (suc h) first n has =
    has_node-split (lies_in (suc h) first span) h first n (has_node span h first n) (has_node span h (first + 2 ^ h) n)
    (has_node-inside span h first n) (has_node-inside span h (first + 2 ^ h) n) has

-- as no half has the topmost node, a span has it where the part lies there
top-split : (inside : Bool) (n : ℕ) (left right : Bool) → left ≡ false → right ≡ false → (if inside then n == n else (left || right)) ≡ inside
top-split true n left right no_left no_right = grind (arith, nat_tests)
top-split false n left right no_left no_right = rw (no_left, no_right) refl

-- and has another node where the part doesn't lie there, and its half has the node
half-split : (inside node either half : Bool) → node ≡ false → either ≡ half → (if inside then node else either) ≡ (not inside && half)
half-split true node either half no_node is = no_node
half-split false node either half no_node is = is

-- the topmost node of a part is that of the segments in which it lies
has_node-top :
    (span : Span) (h first : ℕ) → has_node span h first (node_of h first) ≡ lies_in h first span
unfolding has_node
has_node-top span zero first = grind (arith, nat_tests)
has_node-top span (suc h) first =
    let two = twice h in
    let some = pow_pos h in
    let left = false_from_ne_true (has_node span h first (node_of (suc h) first)) (λ has. absurd (omega (arith, (has_node-inside span h first _ has).1, two, some))) in
    let right = false_from_ne_true (has_node span h (first + 2 ^ h) (node_of (suc h) first)) (λ has. absurd (omega (arith, (has_node-inside span h (first + 2 ^ h) _ has).0, two, some))) in
    top-split (lies_in (suc h) first span) (node_of (suc h) first) _ _ left right

-- where one of two tests fails the other one decides
or-false : (b : Bool) → (b || false) ≡ b
or-false true = refl
or-false false = refl

-- a node of the left half is one of the part that doesn't lie in the span
has_node-left :
    (span : Span) (h first n : ℕ) → IsInside h first n → has_node span (suc h) first n ≡ (not (lies_in (suc h) first span) && has_node span h first n)
unfolding has_node
has_node-left span h first n (low, high) =
    let two = twice h in
    let some = pow_pos h in
    let other = false_from_ne_true (has_node span h (first + 2 ^ h) n) (λ has. absurd (omega (arith, (has_node-inside span h (first + 2 ^ h) n has).0, high))) in
    let away : (n == node_of (suc h) first) ≡ false = grind (arith, nat_tests) in
    half-split (lies_in (suc h) first span) _ _ _ away (rw other (or-false (has_node span h first n)))

-- and so is a node of the right half
has_node-right :
    (span : Span) (h first n : ℕ) → IsInside h (first + 2 ^ h) n → has_node span (suc h) first n ≡ (not (lies_in (suc h) first span) && has_node span h (first + 2 ^ h) n)
unfolding has_node
has_node-right span h first n (low, high) =
    let two = twice h in
    let some = pow_pos h in
    let other = false_from_ne_true (has_node span h first n) (λ has. absurd (omega (arith, (has_node-inside span h first n has).1, low))) in
    let away : (n == node_of (suc h) first) ≡ false = grind (arith, nat_tests) in
    half-split (lies_in (suc h) first span) _ _ _ away (rw other refl)

-- the part doesn't lie in the span, and its half has the node
not-and : (inside half : Bool) → (not inside && half) ≡ true → (inside ≡ false) × (half ≡ true)
not-and true half has = absurd (false≢true has)
not-and false half has = (refl, has)

-- and back
and-not : (inside half : Bool) → inside ≡ false → half ≡ true → (not inside && half) ≡ true
and-not inside half out has = rw (out, has) refl

-- a part that lies in a span has its slots there
lies_in-has_slot : (h first s : ℕ) (span : Span) → first ≤ s → s < first + 2 ^ h → lies_in h first span ≡ true → has_slot span s ≡ true
lies_in-has_slot h first s span from to inside = grind (arith, nat_tests)

-- a part of one slot that the span has lies in it
one_slot : (first s : ℕ) (span : Span) → first ≤ s → s < first + 2 ^ zero → has_slot span s ≡ true → lies_in zero first span ≡ true
one_slot first s span from to has = grind (arith, nat_tests)

-- the pieces of a node in a half of a part
half-tops :
    (P : ℕ → Type 0) (segments : List Segment) (h first k start n rank : ℕ)
    → ((i : ℕ) → has_node (span_of segments i) (suc h) first n ≡ (not (lies_in (suc h) first (span_of segments i)) && has_node (span_of segments i) k start n))
    → IsRankOf (λ i. P i × (has_node (span_of segments i) (suc h) first n ≡ true)) rank
    → IsRankOf (λ i. (P i × (lies_in (suc h) first (span_of segments i) ≡ false)) × (has_node (span_of segments i) k start n ≡ true)) rank
half-tops P segments h first k start n rank same right =
    IsRankOf-alike rank
    (λ i has. (let (out, in_half) = not-and _ _ (sym (same i) ∙ has.1) in ((has.0, out), in_half)))
    (λ i has. (has.0.0, same i ∙ and-not _ _ has.0.1 has.1))
    right

-- the pieces of the topmost node, and those of the half below
join-top :
    (P : ℕ → Type 0) (segments : List Segment) (h first s a b : ℕ) → first ≤ s → s < first + 2 ^ suc h
    → IsRankOf (λ i. P i × (lies_in (suc h) first (span_of segments i) ≡ true)) a
    → IsRankOf (λ i. (P i × (lies_in (suc h) first (span_of segments i) ≡ false)) × (has_slot (span_of segments i) s ≡ true)) b
    → IsRankOf (λ i. P i × (has_slot (span_of segments i) s ≡ true)) (max a b)
join-top P segments h first s a b from to top below =
    rank_of_either a b top below
    (λ i has. elim (cases_Bool (lies_in (suc h) first (span_of segments i))) [
      | inl inside ↦ inl (has.0, inside)
      | inr out ↦ inr ((has.0, out), has.1)
    ])
    (λ i has. (has.0, lies_in-has_slot (suc h) first s (span_of segments i) from to has.1))
    (λ i has. (has.0.0, has.1))

-- a slot shows the topmost of the pieces that have it
pub IsRankOf-shown :
    (ranks : ℕ → ℕ) (segments : List Segment) (P : ℕ → Type 0) (h first s : ℕ)
    → ((n : ℕ) → IsInside h first n → IsRankOf (λ i. P i × (has_node (span_of segments i) h first n ≡ true)) (ranks n))
    → first ≤ s → s < first + 2 ^ h
    → IsRankOf (λ i. P i × (has_slot (span_of segments i) s ≡ true)) (shown ranks h first s)
unfolding shown
IsRankOf-shown ranks segments P zero first s right from to =
    IsRankOf-alike _
    (λ i has. (has.0, lies_in-has_slot zero first s (span_of segments i) from to (sym (has_node-top (span_of segments i) zero first) ∙ has.1)))
    (λ i has. (has.0, has_node-top (span_of segments i) zero first ∙ one_slot first s (span_of segments i) from to has.1))
    (right (node_of zero first) (omega arith, omega arith))
IsRankOf-shown ranks segments P (suc h) first s right from to =
    let two = twice h in
    let some = pow_pos h in
    let at = node_of (suc h) first in
    let top : IsRankOf (λ i. P i × (lies_in (suc h) first (span_of segments i) ≡ true)) (ranks at) = IsRankOf-alike (ranks at)
    (λ i has. (has.0, sym (has_node-top (span_of segments i) (suc h) first) ∙ has.1))
    (λ i has. (has.0, has_node-top (span_of segments i) (suc h) first ∙ has.1))
    (right at (omega (arith, two, some), omega (arith, two, some))) in
    elim (cases_lt s (first + 2 ^ h)) [
      | inl before ↦
          let below = IsRankOf-shown ranks segments (λ i. P i × (lies_in (suc h) first (span_of segments i) ≡ false)) h first s
          (λ n inside. half-tops P segments h first h first n (ranks n) (λ i. has_node-left (span_of segments i) h first n inside) (right n (inside.0, omega (arith, inside.1, two)))) from before in
          rw (lt-ltb s (first + 2 ^ h) before) (join-top P segments h first s (ranks at) (shown ranks h first s) from to top below)
      | inr after ↦
          let below = IsRankOf-shown ranks segments (λ i. P i × (lies_in (suc h) first (span_of segments i) ≡ false)) h (first + 2 ^ h) s
          (λ n inside. half-tops P segments h first h (first + 2 ^ h) n (ranks n) (λ i. has_node-right (span_of segments i) h first n inside) (right n (omega (arith, inside.0), omega (arith, inside.1, two)))) after (omega (arith, to, two)) in
          rw (false_from_ne_true (nat_lt s (first + 2 ^ h)) (λ under. absurd (omega (arith, ltb-true s (first + 2 ^ h) under, after)))) (join-top P segments h first s (ranks at) (shown ranks h (first + 2 ^ h) s) from to top below)
    ]
