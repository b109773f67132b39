-- Segment trees in which no piece is present.
use Rattle.mls_geom.proofs.Common.{◌≡◌, ℕ, zero, suc, ◌+◌, ◌*◌, ◌^◌, ◌<◌, ◌≤◌, ◌++◌, max, nat_lt, Bool, true, false, if◌then◌else◌, None, List, [], ◌∷◌, length, refl, ap, ◌∙◌, arith, inl, inr, pow-suc, replicate, cases_lt, false≢true, get_or_past, get_or-replicate, length_push, length-replicate, All-push, pow_pos}
use Rattle.mls_geom.proofs.Definitions.{Each, rank_of, Agrees, AreSummed, Bounds, HasHeight, IsSummed, IsTree, node_at, node_of, none, Node, Shown, Nothing, One, Several, Segment, Tree}
use Rattle.mls_geom.specs.Sweep.Trees.{shown}

-- a chain of pieces of which there are none has none
no_pieces : (P : ℕ → Type 0) (chain : List ℕ) → ((i : ℕ) → P i → ⊥) → Each P chain → chain ≡ []
no_pieces P [] absent each = refl
no_pieces P (piece ∷ rest) absent each = absurd (absent piece each.0)

-- of two ranks of 0, whichever a test chooses, the greatest is 0
max-if-zero : (b : Bool) → max 0 (if b then 0 else 0) ≡ 0
max-if-zero true = refl
max-if-zero false = refl

-- slots show nothing where no node has a rank
shown-zero :
    (ranks : ℕ → ℕ) (h first s : ℕ) → ((n : ℕ) → n + 1 < 2 * (first + 2 ^ h) → ranks n ≡ 0) → shown ranks h first s ≡ 0
unfolding shown
shown-zero ranks zero first s no_rank = no_rank (node_of zero first) (omega arith)
shown-zero ranks (suc h) first s no_rank =
    let two = pow-suc 2 h in
    let some = pow_pos h in
    let node = no_rank (node_of (suc h) first) (omega arith) in
    let left = shown-zero ranks h first s (λ n within. no_rank n (omega arith)) in
    let right = shown-zero ranks h (first + 2 ^ h) s (λ n within. no_rank n (omega arith)) in
    rw (node, left, right) (max-if-zero (nat_lt s (first + 2 ^ h)))

-- what shows nothing agrees with what a node says, whatever the pieces are
Agrees-zero : (old new : List Segment) (kind : Shown) → Agrees old kind 0 → Agrees new kind 0
Agrees-zero old new Nothing agrees = refl
Agrees-zero old new (One kind) agrees = inl refl
Agrees-zero old new Several agrees = 0

-- and with bounds of it
Bounds-zero : (old new : List Segment) (node : Node) → Bounds old node 0 → Bounds new node 0
Bounds-zero old new node bounds = record { least = bounds.least; most = bounds.most; shown = Agrees-zero old new node.shown bounds.shown }

-- no node has a rank
abbrev NoRanks : (ℕ → ℕ) → ℕ → ℕ → Type 0
NoRanks ranks h first = (n : ℕ) → n + 1 < 2 * (first + 2 ^ h) → ranks n ≡ 0

-- so the topmost node of a part bounds what its slots show, whatever the pieces are
IsSummed-zero :
    (old new : List Segment) (nodes : List Node) (ranks others : ℕ → ℕ) (h first : ℕ) → NoRanks ranks h first → NoRanks others h first
    → IsSummed old nodes ranks h first → IsSummed new nodes others h first
IsSummed-zero old new nodes ranks others h first one other summed = λ s after before.
    rw (shown-zero others h first s other) (Bounds-zero old new (node_at nodes (node_of h first)) (rw (shown-zero ranks h first s one) at (summed s after before)))

-- and all its nodes do
AreSummed-zero :
    (old new : List Segment) (nodes : List Node) (ranks others : ℕ → ℕ) (h first : ℕ) → NoRanks ranks h first → NoRanks others h first
    → AreSummed old nodes ranks h first → AreSummed new nodes others h first
unfolding AreSummed
AreSummed-zero old new nodes ranks others zero first one other summed = IsSummed-zero old new nodes ranks others zero first one other summed
AreSummed-zero old new nodes ranks others (suc h) first one other summed =
    let two = pow-suc 2 h in
    let some = pow_pos h in
    let (top, left, right) = summed in (
      IsSummed-zero old new nodes ranks others (suc h) first one other top,
      AreSummed-zero old new nodes ranks others h first (λ n within. one n (omega arith)) (λ n within. other n (omega arith)) left,
      AreSummed-zero old new nodes ranks others h (first + 2 ^ h) (λ n within. one n (omega arith)) (λ n within. other n (omega arith)) right,
    )

-- empty nodes bound what shows nothing
abbrev pub AreEmpty : List Node → Type 0
AreEmpty nodes = (n : ℕ) → node_at nodes n ≡ record { head = None; top = 0; least = 0; most = 0; shown = Nothing }

-- as does a list of copies of one
pub AreEmpty-copies : (count : ℕ) → AreEmpty (replicate count (record { head = None; top = 0; least = 0; most = 0; shown = Nothing }))
AreEmpty-copies count n =
    let empty : Node = record { head = None; top = 0; least = 0; most = 0; shown = Nothing } in
    elim (cases_lt n count) [
      | inl within ↦ get_or-replicate count n empty empty within
      | inr past ↦ get_or_past (replicate count empty) n empty (omega (arith, past, length-replicate count empty))
    ]

-- the topmost node of a part of them does
IsSummed-empty : (segments : List Segment) (nodes : List Node) (h first : ℕ) → AreEmpty nodes → IsSummed segments nodes (λ n. 0) h first
IsSummed-empty segments nodes h first empty = λ s after before.
    rw (empty (node_of h first), shown-zero (λ n. 0) h first s (λ n within. refl)) (record { least = omega arith; most = omega arith; shown = refl })

-- and all do
AreSummed-empty : (segments : List Segment) (nodes : List Node) (h first : ℕ) → AreEmpty nodes → AreSummed segments nodes (λ n. 0) h first
unfolding AreSummed
AreSummed-empty segments nodes zero first empty = IsSummed-empty segments nodes zero first empty
AreSummed-empty segments nodes (suc h) first empty = (
  IsSummed-empty segments nodes (suc h) first empty,
  AreSummed-empty segments nodes h first empty,
  AreSummed-empty segments nodes h (first + 2 ^ h) empty,
)

-- nodes without chains are those of a tree without pieces
IsTree-bare :
    (tree : Tree) (height : ℕ) → HasHeight tree height
    → ((n : ℕ) → n < length tree.nodes.items → ((node_at tree.nodes.items n).head ≡ None) × ((node_at tree.nodes.items n).top ≡ 0))
    → AreSummed tree.segments.items tree.nodes.items (λ n. 0) height 0 → IsTree tree none
IsTree-bare tree height sizes bare summed = record {
  height = height;
  sizes = sizes;
  known = λ i present. absurd (false≢true present);
  chains = λ n. [];
  linked = λ n within. record { entries = (bare n within).0; top = (bare n within).1; falling = record {}; known = record {} };
  pieces = λ n within. record { each = record {}; hidden = λ i is. absurd (false≢true is.0); stairs = record {} };
  summed = summed;
}

-- a tree of empty nodes
pub IsTree-empty :
    (tree : Tree) (height : ℕ) → tree.width ≡ 2 ^ height → length tree.nodes.items + 1 ≡ 2 * tree.width → tree.segments.items ≡ [] → AreEmpty tree.nodes.items
    → IsTree tree none
IsTree-empty tree height width count without empty =
    let sizes : HasHeight tree height = record { width = width; count = count; few = rw without (omega arith); spans = rw without (λ k d within. absurd (omega arith)) } in
    IsTree-bare tree height sizes (λ n within. rw (empty n) (refl, refl)) (AreSummed-empty tree.segments.items tree.nodes.items height 0 empty)

-- one piece more that isn't present
pub IsTree-added :
    (old new : Tree) (segment : Segment) → new.segments.items ≡ old.segments.items ++ segment ∷ [] → new.nodes ≡ old.nodes → new.width ≡ old.width
    → segment.span.first < segment.span.end → segment.span.end ≤ old.width → length old.segments.items + 1 < 2 ^ 32 → IsTree old none → IsTree new none
IsTree-added old new segment segments nodes width some within few tree =
    let sizes = tree.sizes in
    let fits = λ (s : Segment). (s.span.first < s.span.end) × (s.span.end ≤ old.width) in
    let no_chains : (n : ℕ) → n < length old.nodes.items → tree.chains n ≡ [] = λ n in_list.
    no_pieces _ (tree.chains n) (λ i is. false≢true is.0) (tree.pieces n in_list).each in
    let new_sizes : HasHeight new tree.height = record {
      width = width ∙ sizes.width;
      count = rw (nodes, width) sizes.count;
      few = rw segments (omega (arith, length_push old.segments.items segment));
      spans = rw (segments, width) (All-push fits old.segments.items segment sizes.spans (some, within));
    } in
    let bare : (n : ℕ) → n < length new.nodes.items → ((node_at new.nodes.items n).head ≡ None) × ((node_at new.nodes.items n).top ≡ 0) = λ n in_list.
    let in_old = rw nodes at in_list in
    let linked = rw (no_chains n in_old) at (tree.linked n in_old) in
    rw nodes (linked.entries, linked.top) in
    let no_rank : (n : ℕ) → n + 1 < 2 * (0 + 2 ^ tree.height) → rank_of (tree.chains n) ≡ 0 = λ n in_part.
    let count = sizes.count in
    let wide = sizes.width in
    ap rank_of (no_chains n (omega arith)) in
    IsTree-bare new tree.height new_sizes bare
    (rw nodes (AreSummed-zero old.segments.items new.segments.items old.nodes.items (λ n. rank_of (tree.chains n)) (λ n. 0) tree.height 0 no_rank (λ n in_part. refl) tree.summed))
