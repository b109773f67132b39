-- Nodes that bound what their slots show.
use Rattle.mls_geom.proofs.Common.{◌≡◌, ◌≢◌, ℕ, ◌+◌, ◌^◌, ◌<◌, ◌≤◌, zero, suc, max, nat_lt, if◌then◌else◌, List, refl, ◌∙◌, arith, pow_pos}
use Rattle.mls_geom.proofs.Definitions.{Node, Segment, IsInside, node_of, node_at, Agrees, Bounds, IsSummed, AreSummed, AreSummedBelow, IsLinked, Tree}
use Rattle.mls_geom.specs.Sweep.Trees.{shown}
use Rattle.mls_geom.proofs.ShownSlots.{twice, shown_alike}

-- the topmost one of a part whose nodes all do
pub AreSummed-top :
    (segments : List Segment) (nodes : List Node) (ranks : ℕ → ℕ) (h first : ℕ) → AreSummed segments nodes ranks h first → IsSummed segments nodes ranks h first
unfolding AreSummed
AreSummed-top segments nodes ranks zero first summed = summed
AreSummed-top segments nodes ranks (suc h) first summed = summed.0

-- and those below it
pub AreSummed-below :
    (segments : List Segment) (nodes : List Node) (ranks : ℕ → ℕ) (h first : ℕ) → AreSummed segments nodes ranks h first → AreSummedBelow segments nodes ranks h first
unfolding AreSummed
AreSummed-below segments nodes ranks zero first summed = zero
AreSummed-below segments nodes ranks (suc h) first (top, left, right) = (left, right)

-- whether a part's nodes do depends on them and on their ranks alone
AreSummed-alike :
    (segments : List Segment) (nodes others : List Node) (ranks other_ranks : ℕ → ℕ) (h first : ℕ)
    → ((n : ℕ) → IsInside h first n → node_at others n ≡ node_at nodes n) → ((n : ℕ) → IsInside h first n → other_ranks n ≡ ranks n)
    → AreSummed segments nodes ranks h first → AreSummed segments others other_ranks h first
unfolding AreSummed
AreSummed-alike segments nodes others ranks other_ranks zero first same alike summed = λ s from to.
    rw (same (node_of zero first) (omega arith, omega arith), shown_alike other_ranks ranks zero first s (λ n low high. alike n (low, high))) (summed s from to)
AreSummed-alike segments nodes others ranks other_ranks (suc h) first same alike (top, left, right) =
    let two = twice h in
    let some = pow_pos h in (
      λ s from to. rw (same (node_of (suc h) first) (omega (arith, two, some), omega (arith, two, some)), shown_alike other_ranks ranks (suc h) first s (λ n low high. alike n (low, high))) (top s from to),
      AreSummed-alike segments nodes others ranks other_ranks h first
          (λ n inside. same n (inside.0, omega (arith, inside.1, two))) (λ n inside. alike n (inside.0, omega (arith, inside.1, two))) left,
      AreSummed-alike segments nodes others ranks other_ranks h (first + 2 ^ h)
          (λ n inside. same n (omega (arith, inside.0), omega (arith, inside.1, two))) (λ n inside. alike n (omega (arith, inside.0), omega (arith, inside.1, two))) right,
    )

-- the nodes below the topmost one don't depend on it
pub AreSummedBelow-alike :
    (segments : List Segment) (nodes others : List Node) (ranks other_ranks : ℕ → ℕ) (h first : ℕ)
    → ((n : ℕ) → n ≢ node_of h first → node_at others n ≡ node_at nodes n) → ((n : ℕ) → n ≢ node_of h first → other_ranks n ≡ ranks n)
    → AreSummedBelow segments nodes ranks h first → AreSummedBelow segments others other_ranks h first
AreSummedBelow-alike segments nodes others ranks other_ranks zero first same alike below = zero
AreSummedBelow-alike segments nodes others ranks other_ranks (suc h) first same alike (left, right) =
    let two = twice h in
    let some = pow_pos h in
    let on_left : (n : ℕ) → IsInside h first n → n ≢ node_of (suc h) first = λ n inside is. absurd (omega (arith, inside.1, is, two, some)) in
    let on_right : (n : ℕ) → IsInside h (first + 2 ^ h) n → n ≢ node_of (suc h) first = λ n inside is. absurd (omega (arith, inside.0, is, two, some)) in (
      AreSummed-alike segments nodes others ranks other_ranks h first (λ n inside. same n (on_left n inside)) (λ n inside. alike n (on_left n inside)) left,
      AreSummed-alike segments nodes others ranks other_ranks h (first + 2 ^ h) (λ n inside. same n (on_right n inside)) (λ n inside. alike n (on_right n inside)) right,
    )

-- a node that is summed up over one that bounds what is shown below it
pub Bounds-over :
    (segments : List Segment) (below node : Node) (top rank : ℕ) → node.least ≡ max top below.least → node.most ≡ max top below.most
    → Agrees segments node.shown (max top rank) → Bounds segments below rank → Bounds segments node (max top rank)
Bounds-over segments below node top rank least most shows bounds = record {
  least = omega (arith, least, bounds.least);
  most = omega (arith, most, bounds.most);
  shown = shows;
}

-- a part's nodes, once its topmost one is summed up
pub AreSummed-summed_up :
    (segments : List Segment) (nodes others : List Node) (ranks : ℕ → ℕ) (h first : ℕ) (below : Node) → (h ≡ zero → Bounds segments below 0)
    → ((k s : ℕ) → h ≡ suc k → first ≤ s → s < first + 2 ^ h → IsSummed segments nodes ranks k first → IsSummed segments nodes ranks k (first + 2 ^ k)
    → Bounds segments below (if nat_lt s (first + 2 ^ k) then shown ranks k first s else shown ranks k (first + 2 ^ k) s))
    → ((rank : ℕ) → Bounds segments below rank → Bounds segments (node_at others (node_of h first)) (max (ranks (node_of h first)) rank))
    → ((n : ℕ) → n ≢ node_of h first → node_at others n ≡ node_at nodes n)
    → AreSummedBelow segments nodes ranks h first → AreSummed segments others ranks h first
unfolding AreSummed shown
AreSummed-summed_up segments nodes others ranks zero first below leaf halves over same summed = λ s from to.
    let none : max (ranks (node_of zero first)) 0 ≡ ranks (node_of zero first) = omega arith in
    rw none at (over 0 (leaf refl))
AreSummed-summed_up segments nodes others ranks (suc h) first below leaf halves over same summed =
    let (left, right) = AreSummedBelow-alike segments nodes others ranks ranks (suc h) first same (λ n other. refl) summed in
    (λ s from to. over _ (halves h s refl from to (AreSummed-top segments nodes ranks h first summed.0) (AreSummed-top segments nodes ranks h (first + 2 ^ h) summed.1)), left, right)

-- those below a part's topmost one, once its left half has changed and then its right one
pub AreSummedBelow-halves :
    (segments : List Segment) (nodes left_nodes right_nodes : List Node) (ranks left_ranks right_ranks : ℕ → ℕ) (k first : ℕ)
    → ((n : ℕ) → IsInside k (first + 2 ^ k) n → node_at left_nodes n ≡ node_at nodes n) → ((n : ℕ) → IsInside k (first + 2 ^ k) n → left_ranks n ≡ ranks n)
    → ((n : ℕ) → IsInside k first n → node_at right_nodes n ≡ node_at left_nodes n) → ((n : ℕ) → IsInside k first n → right_ranks n ≡ left_ranks n)
    → (AreSummed segments nodes ranks k first → AreSummed segments left_nodes left_ranks k first)
    → (AreSummed segments left_nodes left_ranks k (first + 2 ^ k) → AreSummed segments right_nodes right_ranks k (first + 2 ^ k))
    → AreSummed segments nodes ranks (suc k) first → AreSummedBelow segments right_nodes right_ranks (suc k) first
unfolding AreSummed
AreSummedBelow-halves segments nodes left_nodes right_nodes ranks left_ranks right_ranks k first same_left alike_left same_right alike_right left right (top, on_left, on_right) = (
  AreSummed-alike segments left_nodes right_nodes left_ranks right_ranks k first same_right alike_right (left on_left),
  right (AreSummed-alike segments nodes left_nodes ranks left_ranks k (first + 2 ^ k) same_left alike_left on_right),
)

-- a node whose first entry and rank stay keeps its chain
pub IsLinked-alike :
    (old new : Tree) (n : ℕ) (chain : List ℕ) → new.entries ≡ old.entries → new.segments ≡ old.segments
    → (node_at new.nodes.items n).head ≡ (node_at old.nodes.items n).head → (node_at new.nodes.items n).top ≡ (node_at old.nodes.items n).top
    → IsLinked old n chain → IsLinked new n chain
IsLinked-alike old new n chain entries segments head top is = record {
  entries = rw (entries, head) is.entries;
  top = top ∙ is.top;
  falling = is.falling;
  known = rw segments is.known;
}
