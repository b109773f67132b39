-- Segment trees on slots (Bentley 1977). The topmost node of the 2 ^ h slots from the first one on stands in the middle of their nodes.
use Rattle.std.specs.Prelude.{◌≡◌, ℕ, ◌+◌, ◌-◌, ◌*◌, ◌^◌, ◌<◌, ◌≤◌, ◌==◌, ◌&&◌, ◌||◌, ◌⊎◌, ◌≢◌, not, zero, suc, max, Bool, true, false, nat_lt, nat_le, if◌then◌else◌, Option, Some, None, List, length, slice_index_or}
use Rattle.std.specs.List.{All}
use Rattle.mls_geom.specs.Sweep.Chains.{IsChain, IsChainOf, IsFalling, Each, rank_of}
use Rattle.mls_geom.specs.declared.part.Part.{Part}
use Rattle.mls_geom.specs.declared.part.Span.{Span}
use Rattle.mls_geom.specs.declared.node.Node.{Node}
use Rattle.mls_geom.specs.declared.node.Shown.{Shown}
use Rattle.mls_geom.specs.declared.node.Shown.TheVariants.{Nothing, One, Several}
use Rattle.mls_geom.specs.declared.segment.Segment.{Segment}
use Rattle.mls_geom.specs.declared.tree.Tree.{Tree}

-- the part has 2 ^ h slots
abbrev pub HasWidth : ℕ → Part → Type 0
HasWidth h part = part.width ≡ 2 ^ h

-- the node stands in the part
abbrev pub IsInside : ℕ → ℕ → ℕ → Type 0
IsInside h first n = (2 * first ≤ n) × (n + 1 < 2 * (first + 2 ^ h))

-- where the topmost node of the part stands
abbrev pub node_of : ℕ → ℕ → ℕ
node_of h first = 2 * first + 2 ^ h - 1

-- the span has the slot
abbrev pub has_slot : Span → ℕ → Bool
has_slot span s = nat_le span.first s && nat_lt s span.end

-- all slots of the part are in the span
abbrev pub lies_in : ℕ → ℕ → Span → Bool
lies_in h first span = nat_le span.first first && nat_le (first + 2 ^ h) span.end

-- the node is one of the topmost ones of the part that lie in the span
unfoldable pub has_node : Span → ℕ → ℕ → ℕ → Bool
has_node span zero first n = lies_in zero first span && n == node_of zero first
has_node span (suc h) first n =
    if lies_in (suc h) first span then n == node_of (suc h) first
    else (has_node span h first n || has_node span h (first + 2 ^ h) n)

-- the rank that the slot shows: the greatest one of the nodes that it lies in
unfoldable pub shown : (ℕ → ℕ) → ℕ → ℕ → ℕ → ℕ
shown ranks zero first s = ranks (node_of zero first)
shown ranks (suc h) first s =
    max (ranks (node_of (suc h) first))
    (if nat_lt s (first + 2 ^ h) then shown ranks h first s else shown ranks h (first + 2 ^ h) s)

-- the rank is that of the greatest number of which P holds, or 0 if it holds of none
pub record IsRankOf (P : ℕ → Type 0) (rank : ℕ) : Type 0 where
  pub over : (i : ℕ) → P i → i < rank
  pub some : (rank ≡ 0) ⊎ P (rank - 1)

-- a segment of the list
abbrev pub segment_at : List Segment → ℕ → Segment
segment_at segments i = slice_index_or segments i (record { span = record { first = 0; end = 0 }; end = 0; kind = 0 })

-- its slots, the line at which it ends, and its kind
abbrev pub span_of : List Segment → ℕ → Span
span_of segments i = (segment_at segments i).span

abbrev pub end_of : List Segment → ℕ → ℕ
end_of segments i = (segment_at segments i).end

abbrev pub kind_of : List Segment → ℕ → ℕ
kind_of segments i = (segment_at segments i).kind

-- the kind of a slot that shows the rank
abbrev pub kind_shown : List Segment → ℕ → Option ℕ
kind_shown segments rank = if rank == 0 then None else Some (kind_of segments (rank - 1))

-- the rank is that of the topmost present piece that has the slot
abbrev pub IsTop : List Segment → (ℕ → Bool) → ℕ → ℕ → Type 0
IsTop segments present s rank = IsRankOf (λ i. (present i ≡ true) × (has_slot (span_of segments i) s ≡ true)) rank

-- a node of the list
abbrev pub node_at : List Node → ℕ → Node
node_at nodes n = slice_index_or nodes n (record { head = None; top = 0; least = 0; most = 0; shown = Nothing })

-- a slot that shows the rank agrees with what its node says
abbrev pub Agrees : List Segment → Shown → ℕ → Type 0
Agrees segments Nothing rank = rank ≡ 0
Agrees segments (One kind) rank = (rank ≡ 0) ⊎ (kind_of segments (rank - 1) ≡ kind)
Agrees segments Several rank = ℕ

-- the node bounds the rank that a slot shows
pub record Bounds (segments : List Segment) (node : Node) (rank : ℕ) : Type 0 where
  pub least : node.least ≤ rank
  pub most : rank ≤ node.most
  pub shown : Agrees segments node.shown rank

-- the topmost node of the part bounds what all its slots show
abbrev pub IsSummed : List Segment → List Node → (ℕ → ℕ) → ℕ → ℕ → Type 0
IsSummed segments nodes ranks h first =
    (s : ℕ) → first ≤ s → s < first + 2 ^ h → Bounds segments (node_at nodes (node_of h first)) (shown ranks h first s)

-- so do all its nodes
unfoldable pub AreSummed : List Segment → List Node → (ℕ → ℕ) → ℕ → ℕ → Type 0
AreSummed segments nodes ranks zero first = IsSummed segments nodes ranks zero first
AreSummed segments nodes ranks (suc h) first =
    IsSummed segments nodes ranks (suc h) first × AreSummed segments nodes ranks h first × AreSummed segments nodes ranks h (first + 2 ^ h)

-- the node has a chain of these pieces
pub record IsLinked (tree : Tree) (n : ℕ) (chain : List ℕ) : Type 0 where
  pub entries : IsChain tree.entries.items n (node_at tree.nodes.items n).head chain
  pub top : (node_at tree.nodes.items n).top ≡ rank_of chain
  pub falling : IsFalling chain
  pub known : Each (λ piece. piece < length tree.segments.items) chain

-- each node has its chain
abbrev pub AreLinked : Tree → (ℕ → List ℕ) → Type 0
AreLinked tree chains = (n : ℕ) → n < length tree.nodes.items → IsLinked tree n (chains n)

-- each segment has a slot of the first ones
abbrev pub AreSpans : ℕ → List Segment → Type 0
AreSpans slots segments = All (λ segment. (segment.span.first < segment.span.end) × (segment.span.end ≤ slots)) segments

-- a tree of these sizes
pub record HasHeight (tree : Tree) (height : ℕ) : Type 0 where
  pub width : tree.width ≡ 2 ^ height
  pub count : length tree.nodes.items + 1 ≡ 2 * tree.width
  pub few : length tree.segments.items < 2 ^ 32
  pub spans : AreSpans tree.width tree.segments.items

-- the tree has these pieces
pub record IsTree (tree : Tree) (present : ℕ → Bool) : Type 0 where
  pub height : ℕ
  pub sizes : HasHeight tree height
  pub known : (i : ℕ) → present i ≡ true → i < length tree.segments.items
  pub chains : ℕ → List ℕ
  pub linked : AreLinked tree chains
  pub pieces : (n : ℕ) → n < length tree.nodes.items
      → IsChainOf (end_of tree.segments.items) (λ i. (present i ≡ true) × (has_node (span_of tree.segments.items i) height 0 n ≡ true)) (chains n)
  pub summed : AreSummed tree.segments.items tree.nodes.items (λ n. rank_of (chains n)) height 0

-- none, one more, and one less
abbrev pub none : ℕ → Bool
none i = false

abbrev pub with_piece : (ℕ → Bool) → ℕ → ℕ → Bool
with_piece present piece i = present i || i == piece

abbrev pub without_piece : (ℕ → Bool) → ℕ → ℕ → Bool
without_piece present piece i = present i && not (i == piece)

-- no present piece ends before this one, or with it and lies under it
abbrev pub EndsFirst : List Segment → (ℕ → Bool) → ℕ → Type 0
EndsFirst segments present piece =
    (i : ℕ) → present i ≡ true → i ≢ piece
    → (end_of segments piece < end_of segments i) ⊎ ((end_of segments piece ≡ end_of segments i) × (piece < i))

-- the nodes below the part's topmost one bound what their slots show
abbrev pub AreSummedBelow : List Segment → List Node → (ℕ → ℕ) → ℕ → ℕ → Type 0
AreSummedBelow segments nodes ranks zero first = ℕ
AreSummedBelow segments nodes ranks (suc h) first = AreSummed segments nodes ranks h first × AreSummed segments nodes ranks h (first + 2 ^ h)

-- a tree keeps its chains, and the part's topmost node bounds what its slots show, where those below it do
pub record IsSummedUp (old new : Tree) (h first : ℕ) : Type 0 where
  pub linked : (chains : ℕ → List ℕ) → AreLinked old chains → AreLinked new chains
  pub summed : (chains : ℕ → List ℕ) → AreLinked old chains
      → AreSummedBelow old.segments.items old.nodes.items (λ n. rank_of (chains n)) h first
      → AreSummed new.segments.items new.nodes.items (λ n. rank_of (chains n)) h first
  pub others : (n : ℕ) → n ≢ node_of h first → node_at new.nodes.items n ≡ node_at old.nodes.items n

-- the chains, changed at the part's topmost nodes that lie in the span
abbrev pub changed_in : Span → ℕ → ℕ → (List ℕ → List ℕ) → (ℕ → List ℕ) → ℕ → List ℕ
changed_in span h first change chains n = if has_node span h first n then change (chains n) else chains n

-- the chains of a tree have changed there, and the part's nodes bound what their slots show, if they did before
pub record HasChanged (old new : Tree) (span : Span) (change : List ℕ → List ℕ) (h first : ℕ) : Type 0 where
  pub linked : (chains : ℕ → List ℕ) → AreLinked old chains → AreLinked new (changed_in span h first change chains)
  pub summed : (chains : ℕ → List ℕ) → AreLinked old chains
      → AreSummed old.segments.items old.nodes.items (λ n. rank_of (chains n)) h first
      → AreSummed new.segments.items new.nodes.items (λ n. rank_of (changed_in span h first change chains n)) h first
  pub others : (n : ℕ) → (IsInside h first n → ⊥) → node_at new.nodes.items n ≡ node_at old.nodes.items n
