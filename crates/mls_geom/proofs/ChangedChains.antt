-- Chains that are changed at the topmost nodes of a part that lie in a span.
use Rattle.mls_geom.proofs.Common.{◌≡◌, ◌≢◌, ℕ, ◌+◌, ◌^◌, ◌==◌, ◌&&◌, ◌||◌, zero, suc, Bool, true, false, nat_lt, nat_le, if◌then◌else◌, List, refl, sym, ap, subst, ◌∙◌, arith, ne_eqb, fun_ext, pow_pos, false_from_ne_true, nat_tests}
use Rattle.mls_geom.proofs.Definitions.{Span, Node, Segment, rank_of, IsInside, node_of, lies_in, has_node, node_at, AreSummed, AreSummedBelow, AreLinked, changed_in, HasChanged, IsSummedUp, Tree}
use Rattle.mls_geom.proofs.ShownSlots.{twice}
use Rattle.mls_geom.proofs.TopSlots.{has_node-inside}
use Rattle.mls_geom.proofs.SummedNodes.{AreSummed-below, AreSummedBelow-alike, AreSummedBelow-halves}

-- a span that doesn't meet a part has none of its nodes
has_node-apart :
    (span : Span) (h first n : ℕ) → (nat_lt span.first (first + 2 ^ h) && nat_lt first span.end) ≡ false → has_node span h first n ≡ false
unfolding has_node
has_node-apart span zero first n apart = grind (arith, nat_tests)
has_node-apart span (suc h) first n apart =
    let two = twice h in
    let some = pow_pos h in
    let out : lies_in (suc h) first span ≡ false = grind (arith, nat_tests) in
    rw (out, has_node-apart span h first n (grind (arith, nat_tests)), has_node-apart span h (first + 2 ^ h) n (grind (arith, nat_tests))) refl

-- a span in which a part lies has its topmost node alone
has_node-whole : (span : Span) (h first n : ℕ) → lies_in h first span ≡ true → has_node span h first n ≡ (n == node_of h first)
unfolding has_node
has_node-whole span zero first n inside = rw inside refl
has_node-whole span (suc h) first n inside = rw inside refl

-- any other has those of the part's halves
has_node-halves :
    (span : Span) (h first n : ℕ) → lies_in (suc h) first span ≡ false
    → has_node span (suc h) first n ≡ (has_node span h first n || has_node span h (first + 2 ^ h) n)
unfolding has_node
has_node-halves span h first n out = rw out refl

-- where the span doesn't meet the part the chains stay as they are
changed_in-apart :
    (span : Span) (h first width : ℕ) (change : List ℕ → List ℕ) (chains : ℕ → List ℕ) → width ≡ 2 ^ h
    → (nat_lt span.first (first + width) && nat_lt first span.end) ≡ false → changed_in span h first change chains ≡ chains
changed_in-apart span h first width change chains is apart =
    fun_ext (λ n. rw (has_node-apart span h first n (rw is at apart)) refl)

-- where the part lies in the span its topmost node is changed
changed_in-whole :
    (span : Span) (h first width : ℕ) (change : List ℕ → List ℕ) (chains : ℕ → List ℕ) → width ≡ 2 ^ h
    → (nat_le span.first first && nat_le (first + width) span.end) ≡ true
    → changed_in span h first change chains ≡ (λ n. if n == node_of h first then change (chains n) else chains n)
changed_in-whole span h first width change chains is inside =
    fun_ext (λ n. rw (has_node-whole span h first n (rw is at inside)) refl)

-- a chain that one of two tests changes is changed where either passes
changed-either :
    (left right : Bool) (change : List ℕ → List ℕ) (chain : List ℕ) → (left ≡ true → right ≡ true → ⊥)
    → (if right then change (if left then change chain else chain) else (if left then change chain else chain)) ≡ (if (left || right) then change chain else chain)
changed-either true true change chain apart = absurd (apart refl refl)
changed-either true false change chain apart = refl
changed-either false true change chain apart = refl
changed-either false false change chain apart = refl

-- otherwise one half is changed after the other
changed_in-halves :
    (span : Span) (k first width : ℕ) (change : List ℕ → List ℕ) (chains : ℕ → List ℕ) → width ≡ 2 ^ suc k
    → (nat_le span.first first && nat_le (first + width) span.end) ≡ false
    → changed_in span (suc k) first change chains ≡ changed_in span k (first + 2 ^ k) change (changed_in span k first change chains)
changed_in-halves span k first width change chains is out =
    fun_ext (λ n. rw (has_node-halves span k first n (rw is at out)) (sym (changed-either (has_node span k first n) (has_node span k (first + 2 ^ k) n) change (chains n)
    (λ left right. absurd (omega (arith, (has_node-inside span k first n left).1, (has_node-inside span k (first + 2 ^ k) n right).0))))))

-- chains of nodes outside the part stay as they are
changed_in-outside :
    (span : Span) (h first n : ℕ) (change : List ℕ → List ℕ) (chains : ℕ → List ℕ) → (IsInside h first n → ⊥)
    → changed_in span h first change chains n ≡ chains n
changed_in-outside span h first n change chains out =
    rw (false_from_ne_true (has_node span h first n) (λ has. out (has_node-inside span h first n has))) refl

-- and so do those of all but the topmost node of a part that lies in the span
changed_in-away :
    (span : Span) (h first width n : ℕ) (change : List ℕ → List ℕ) (chains : ℕ → List ℕ) → width ≡ 2 ^ h
    → (nat_le span.first first && nat_le (first + width) span.end) ≡ true → n ≢ node_of h first → changed_in span h first change chains n ≡ chains n
changed_in-away span h first width n change chains is inside away =
    rw (has_node-whole span h first n (rw is at inside), ne_eqb n (node_of h first) away) refl

-- nodes below the topmost one of a part that lies in the span
AreSummedBelow-whole :
    (segments : List Segment) (nodes others : List Node) (span : Span) (h first width : ℕ) (change : List ℕ → List ℕ) (chains : ℕ → List ℕ) → width ≡ 2 ^ h
    → (nat_le span.first first && nat_le (first + width) span.end) ≡ true → ((n : ℕ) → n ≢ node_of h first → node_at others n ≡ node_at nodes n)
    → AreSummed segments nodes (λ n. rank_of (chains n)) h first → AreSummedBelow segments others (λ n. rank_of (changed_in span h first change chains n)) h first
AreSummedBelow-whole segments nodes others span h first width change chains is inside same summed =
    AreSummedBelow-alike segments nodes others (λ n. rank_of (chains n)) (λ n. rank_of (changed_in span h first change chains n)) h first same
    (λ n away. ap rank_of (changed_in-away span h first width n change chains is inside away))
    (AreSummed-below segments nodes (λ n. rank_of (chains n)) h first summed)

-- nodes below the topmost one of a part of which one half is changed after the other
AreSummedBelow-changed :
    (segments : List Segment) (nodes left_nodes right_nodes : List Node) (span : Span) (k first width : ℕ) (change : List ℕ → List ℕ) (chains : ℕ → List ℕ) → width ≡ 2 ^ suc k
    → (nat_le span.first first && nat_le (first + width) span.end) ≡ false
    → ((n : ℕ) → IsInside k (first + 2 ^ k) n → node_at left_nodes n ≡ node_at nodes n) → ((n : ℕ) → IsInside k first n → node_at right_nodes n ≡ node_at left_nodes n)
    → (AreSummed segments nodes (λ n. rank_of (chains n)) k first → AreSummed segments left_nodes (λ n. rank_of (changed_in span k first change chains n)) k first)
    → (AreSummed segments left_nodes (λ n. rank_of (changed_in span k first change chains n)) k (first + 2 ^ k)
    → AreSummed segments right_nodes (λ n. rank_of (changed_in span k (first + 2 ^ k) change (changed_in span k first change chains) n)) k (first + 2 ^ k))
    → AreSummed segments nodes (λ n. rank_of (chains n)) (suc k) first
    → AreSummedBelow segments right_nodes (λ n. rank_of (changed_in span (suc k) first change chains n)) (suc k) first
AreSummedBelow-changed segments nodes left_nodes right_nodes span k first width change chains is out same_left same_right left right summed =
    let left_chains = changed_in span k first change chains in
    let right_chains = changed_in span k (first + 2 ^ k) change left_chains in
    subst (λ (changed : ℕ → List ℕ). AreSummedBelow segments right_nodes (λ n. rank_of (changed n)) (suc k) first) (sym (changed_in-halves span k first width change chains is out))
    (AreSummedBelow-halves segments nodes left_nodes right_nodes (λ n. rank_of (chains n)) (λ n. rank_of (left_chains n)) (λ n. rank_of (right_chains n)) k first
    same_left (λ n inside. ap rank_of (changed_in-outside span k first n change chains (λ other. absurd (omega (arith, inside.0, other.1)))))
    same_right (λ n inside. ap rank_of (changed_in-outside span k (first + 2 ^ k) n change left_chains (λ other. absurd (omega (arith, inside.1, other.0)))))
    left right summed)

-- the topmost node stands in its part
IsInside-top : (h first : ℕ) → IsInside h first (node_of h first)
IsInside-top h first =
    let some = pow_pos h in
    (omega (arith, some), omega (arith, some))

-- a tree whose part the span doesn't meet stays as it is
pub HasChanged-apart :
    {tree : Tree} {span : Span} {h first width : ℕ} {change : List ℕ → List ℕ} → width ≡ 2 ^ h
    → (nat_lt span.first (first + width) && nat_lt first span.end) ≡ false → HasChanged tree tree span change h first
HasChanged-apart {tree} {span} {h} {first} {width} {change} is apart = record {
  linked = λ chains before. subst (λ (changed : ℕ → List ℕ). AreLinked tree changed) (sym (changed_in-apart span h first width change chains is apart)) before;
  summed = λ chains before summed. subst (λ (changed : ℕ → List ℕ). AreSummed tree.segments.items tree.nodes.items (λ n. rank_of (changed n)) h first)
      (sym (changed_in-apart span h first width change chains is apart)) summed;
  others = λ n out. refl;
}

-- where the part lies in the span its topmost node is changed, and then summed up
pub HasChanged-whole :
    {old mid new : Tree} {span : Span} {h first width : ℕ} {change : List ℕ → List ℕ} → width ≡ 2 ^ h
    → (nat_le span.first first && nat_le (first + width) span.end) ≡ true → mid.segments ≡ old.segments
    → ((chains : ℕ → List ℕ) → AreLinked old chains → AreLinked mid (λ n. if n == node_of h first then change (chains n) else chains n))
    → ((n : ℕ) → n ≢ node_of h first → node_at mid.nodes.items n ≡ node_at old.nodes.items n)
    → IsSummedUp mid new h first → HasChanged old new span change h first
HasChanged-whole {old} {mid} {new} {span} {h} {first} {width} {change} is inside segments changes same up =
    let linked : (chains : ℕ → List ℕ) → AreLinked old chains → AreLinked mid (changed_in span h first change chains) = λ chains before.
    subst (λ (changed : ℕ → List ℕ). AreLinked mid changed) (sym (changed_in-whole span h first width change chains is inside)) (changes chains before) in
    record {
      linked = λ chains before. up.linked _ (linked chains before);
      summed = λ chains before summed. up.summed (changed_in span h first change chains) (linked chains before)
          (rw segments (AreSummedBelow-whole old.segments.items old.nodes.items mid.nodes.items span h first width change chains is inside same summed));
      others = λ n out. (let away : n ≢ node_of h first = λ at. out (rw at (IsInside-top h first)) in up.others n away ∙ same n away);
    }

-- otherwise one half is changed, then the other, and then the topmost node is summed up
pub HasChanged-halves :
    {old left right new : Tree} {span : Span} {k first width : ℕ} {change : List ℕ → List ℕ} → width ≡ 2 ^ suc k
    → (nat_le span.first first && nat_le (first + width) span.end) ≡ false → left.segments ≡ old.segments → right.segments ≡ left.segments
    → HasChanged old left span change k first → HasChanged left right span change k (first + 2 ^ k)
    → IsSummedUp right new (suc k) first → HasChanged old new span change (suc k) first
HasChanged-halves {old} {left} {right} {new} {span} {k} {first} {width} {change} is out left_segments right_segments on_left on_right up =
    let two = twice k in
    let some = pow_pos k in
    let linked : (chains : ℕ → List ℕ) → AreLinked old chains → AreLinked right (changed_in span (suc k) first change chains) = λ chains before.
    subst (λ (changed : ℕ → List ℕ). AreLinked right changed) (sym (changed_in-halves span k first width change chains is out))
    (on_right.linked _ (on_left.linked chains before)) in
    record {
      linked = λ chains before. up.linked _ (linked chains before);
      summed = λ chains before summed. up.summed (changed_in span (suc k) first change chains) (linked chains before)
          (rw (right_segments, left_segments) (AreSummedBelow-changed old.segments.items old.nodes.items left.nodes.items right.nodes.items span k first width change chains is out
          (λ n inside. on_left.others n (λ other. absurd (omega (arith, inside.0, other.1))))
          (λ n inside. on_right.others n (λ other. absurd (omega (arith, inside.1, other.0))))
          (rw left_segments at (on_left.summed chains before))
          (rw (right_segments, left_segments) at (on_right.summed (changed_in span k first change chains) (on_left.linked chains before)))
          summed));
      others = λ n outside. up.others n (λ at. outside (rw at (IsInside-top (suc k) first)))
          ∙ on_right.others n (λ inside. outside (omega (arith, inside.0), omega (arith, inside.1, two)))
          ∙ on_left.others n (λ inside. outside (inside.0, omega (arith, inside.1, two)));
    }
