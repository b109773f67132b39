-- The rank that a slot of a tree shows is that of its topmost present piece.
use Rattle.std.proofs.Common.{◌≡◌, ◌<◌, ◌≤◌, ◌∷◌, [], Bool, List, arith, inl, inr, length, true, ℕ}
use Rattle.mls_geom.proofs.Definitions.{Tree, Each, rank_of, IsInside, IsRankOf, IsTop, IsTree, end_of, has_node, node_at, span_of}
use Rattle.mls_geom.specs.Sweep.Trees.{shown}
use Rattle.mls_geom.proofs.TopSlots.{IsRankOf-shown}
use Rattle.mls_geom.proofs.ChainLists.{IsRankOf-chain}

-- no rank of a set is greater than another
IsRankOf-below : {P : ℕ → Type 0} (a b : ℕ) → IsRankOf P a → IsRankOf P b → a ≤ b
IsRankOf-below a b one other = elim one.some [
  | inl none ↦ omega (arith, none)
  | inr is ↦ omega (arith, other.over _ is)
]

-- so it has one rank
pub IsRankOf-one : {P : ℕ → Type 0} (a b : ℕ) → IsRankOf P a → IsRankOf P b → a ≡ b
IsRankOf-one a b one other = omega (arith, IsRankOf-below a b one other, IsRankOf-below b a other one)

-- the ranks of a tree's nodes
abbrev pub ranks_in : {tree : Tree} {present : ℕ → Bool} → IsTree tree present → ℕ → ℕ
ranks_in whole n = rank_of (whole.chains n)

-- a slot of a tree shows the topmost present piece that has it
pub IsTop-shown :
    (tree : Tree) (present : ℕ → Bool) (s : ℕ) (whole : IsTree tree present) → s < tree.width
    → IsTop tree.segments.items present s (shown (ranks_in whole) whole.height 0 s)
IsTop-shown tree present s whole within =
    let width = whole.sizes.width in
    let count = whole.sizes.count in
    let top : (n : ℕ) → IsInside whole.height 0 n → IsRankOf (λ i. (present i ≡ true) × (has_node (span_of tree.segments.items i) whole.height 0 n ≡ true)) (rank_of (whole.chains n)) =
    λ n inside. (let pieces = whole.pieces n (omega (arith, inside.1, width, count)) in
    IsRankOf-chain (end_of tree.segments.items) _ (whole.chains n) pieces.stairs pieces.each pieces.hidden) in
    IsRankOf-shown (ranks_in whole) tree.segments.items (λ i. present i ≡ true) whole.height 0 s top (omega arith) (omega (arith, width, within))

-- a rank of known pieces is at most their number
rank_of-known : (count : ℕ) (chain : List ℕ) → Each (λ piece. piece < count) chain → rank_of chain ≤ count
rank_of-known count [] each = omega arith
rank_of-known count (piece ∷ rest) (here, each) = omega (arith, here)

-- a node of a tree has its chain's rank, which is at most the number of pieces
pub top-known :
    (tree : Tree) (present : ℕ → Bool) (n : ℕ) (whole : IsTree tree present) → n < length tree.nodes.items
    → ((node_at tree.nodes.items n).top ≡ ranks_in whole n) × (ranks_in whole n ≤ length tree.segments.items)
top-known tree present n whole within =
    let linked = whole.linked n within in
    (linked.top, rank_of-known (length tree.segments.items) (whole.chains n) linked.known)
