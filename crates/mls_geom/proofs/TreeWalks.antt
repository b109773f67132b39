-- A walk down a tree, from all slots to those of a part that has the slot.
use Rattle.mls_geom.proofs.Common.{◌≡◌, ◌+◌, ◌-◌, ◌*◌, ◌^◌, ◌<◌, ◌≤◌, ◌/◌, ◌∙◌, if◌then◌else◌, Bool, List, ap, arith, inl, inr, length, max, nat_lt, refl, slice_index_or, suc, sym, zero, ℕ, get_or_default, pow_pos, cases_lt, lt-ltb, ltb-true, false_from_ne_true, cases_eq}
use Rattle.mls_geom.proofs.Definitions.{Node, Part, Segment, Tree, AreSummed, Bounds, HasWidth, IsTop, IsTree, node_at, node_of}
use Rattle.mls_geom.specs.Sweep.Trees.{shown}
use Rattle.mls_geom.proofs.ShownSlots.{twice}
use Rattle.mls_geom.proofs.TreeTops.{ranks_in, IsTop-shown, top-known}
use Rattle.mls_geom.proofs.SummedNodes.{AreSummed-below, AreSummed-top}

-- the part that the walk came to, and the greatest rank of the nodes above it
pub record IsWalkedTo (segments : List Segment) (nodes : List Node) (ranks : ℕ → ℕ) (width height slot above : ℕ) (part : Part) : Type 0 where
  pub low : ℕ
  pub size : HasWidth low part
  pub within : part.first + part.width ≤ width
  pub from : part.first ≤ slot
  pub to : slot < part.first + part.width
  pub known : above ≤ length segments
  pub summed : AreSummed segments nodes ranks low part.first
  pub shows : (s : ℕ) → part.first ≤ s → s < part.first + part.width → shown ranks height 0 s ≡ max above (shown ranks low part.first s)

-- what slots of a part's left half show
shown-left :
    (ranks : ℕ → ℕ) (h first s : ℕ) → s < first + 2 ^ h → shown ranks (suc h) first s ≡ max (ranks (node_of (suc h) first)) (shown ranks h first s)
unfolding shown
shown-left ranks h first s before = rw (lt-ltb s (first + 2 ^ h) before) refl

-- and those of its right one
shown-right :
    (ranks : ℕ → ℕ) (h first s : ℕ) → first + 2 ^ h ≤ s → shown ranks (suc h) first s ≡ max (ranks (node_of (suc h) first)) (shown ranks h (first + 2 ^ h) s)
unfolding shown
shown-right ranks h first s after =
    rw (false_from_ne_true (nat_lt s (first + 2 ^ h)) (λ under. absurd (omega (arith, ltb-true s (first + 2 ^ h) under, after)))) refl

-- a part of more than one slot has two halves
two-halves : (h width : ℕ) → width ≡ 2 ^ h → 1 < width → (k : ℕ) × (h ≡ suc k) × (width / 2 ≡ 2 ^ k) × (width ≡ 2 ^ k + 2 ^ k)
two-halves zero width is more = absurd (omega (arith, is, more))
two-halves (suc k) width is more =
    let two = twice k in
    (k, refl, omega (arith, is, two), omega (arith, is, two))

-- it goes on to the half that has the slot
IsWalkedTo-half :
    (segments : List Segment) (nodes : List Node) (ranks : ℕ → ℕ) (width height slot above top : ℕ) (part half : Part)
    → IsWalkedTo segments nodes ranks width height slot above part → 1 < part.width
    → half.first ≡ (if nat_lt slot (part.first + part.width / 2) then part.first else part.first + part.width / 2) → half.width ≡ part.width / 2
    → top ≡ ranks (2 * part.first + part.width - 1) → top ≤ length segments
    → IsWalkedTo segments nodes ranks width height slot (max above top) half
IsWalkedTo-half segments nodes ranks width height slot above top part half walked more first' width' top_is few =
    let (k, next, mid, both) = two-halves walked.low part.width walked.size more in
    let summed : AreSummed segments nodes ranks (suc k) part.first = rw next at walked.summed in
    let (left, right) = AreSummed-below segments nodes ranks (suc k) part.first summed in
    let shows : (s : ℕ) → part.first ≤ s → s < part.first + part.width → shown ranks height 0 s ≡ max above (shown ranks (suc k) part.first s) = rw next at walked.shows in
    let node : top ≡ ranks (node_of (suc k) part.first) = top_is ∙ ap ranks (omega (arith, both, twice k)) in
    elim (cases_lt slot (part.first + part.width / 2)) [
      | inl before ↦
          let first : half.first ≡ part.first = rw (lt-ltb slot (part.first + part.width / 2) before) at first' in
          record {
            low = k;
            size = width' ∙ mid;
            within = omega (arith, first, width', walked.within);
            from = omega (arith, first, walked.from);
            to = omega (arith, first, width', before);
            known = omega (arith, walked.known, few);
            summed = rw first left;
            shows = λ s from to.
                (let here = shown-left ranks k part.first s (omega (arith, to, first, width', mid)) in
                let all = shows s (omega (arith, from, first)) (omega (arith, to, first, width')) in
                all ∙ rw (here, sym node, first) (omega arith));
          }
      | inr after ↦
          let first : half.first ≡ part.first + 2 ^ k = (rw (false_from_ne_true (nat_lt slot (part.first + part.width / 2)) (λ under. absurd (omega (arith, ltb-true slot (part.first + part.width / 2) under, after)))) at first') ∙ ap (λ w. part.first + w) mid in
          record {
            low = k;
            size = width' ∙ mid;
            within = omega (arith, first, width', mid, both, walked.within);
            from = omega (arith, first, mid, after);
            to = omega (arith, first, width', mid, both, walked.to);
            known = omega (arith, walked.known, few);
            summed = rw first right;
            shows = λ s from to.
                (let here = shown-right ranks k part.first s (omega (arith, from, first)) in
                let all = shows s (omega (arith, from, first)) (omega (arith, to, first, width', mid, both)) in
                all ∙ rw (here, sym node, first) (omega arith));
          }
    ]

-- at the end of the walk all slots of the part show the greatest rank of its nodes
IsWalkedTo-leaf :
    (segments : List Segment) (nodes : List Node) (ranks : ℕ → ℕ) (width height slot above top s : ℕ) (part : Part)
    → IsWalkedTo segments nodes ranks width height slot above part → part.width ≤ 1 → slot ≤ s → s < part.first + part.width
    → top ≡ ranks (2 * part.first + part.width - 1) → shown ranks height 0 s ≡ max above top
unfolding shown
IsWalkedTo-leaf segments nodes ranks width height slot above top s part walked one from to top_is =
    let all = walked.shows s (omega (arith, walked.from, from)) to in
    elim (cases_eq walked.low 0) [
      | inl leaf ↦ all ∙ rw leaf (ap (max above) (sym (top_is ∙ ap ranks (let size : part.width ≡ 2 ^ 0 = rw leaf at walked.size in omega (arith, size)))))
      | inr more ↦ absurd (let k = walked.low - 1 in let next : walked.low ≡ suc k = omega (arith, more) in omega (arith, walked.size, ap (λ h. 2 ^ h) next, twice k, pow_pos k, one))
    ]

-- where the topmost node of the part stands
abbrev pub top_of : Part → ℕ
top_of part = 2 * part.first + part.width - 1

-- the walk came to a part of the tree that has the slot, whatever pieces the tree has
pub record HasWalkedTo (tree : Tree) (slot above : ℕ) (part : Part) : Type 0 where
  pub some : 0 < part.width
  pub within : 2 * (part.first + part.width) ≤ length tree.nodes.items + 1
  pub node : top_of part < length tree.nodes.items
  pub has : slot < part.first + part.width
  pub walked : (present : ℕ → Bool) (whole : IsTree tree present)
      → IsWalkedTo tree.segments.items tree.nodes.items (ranks_in whole) tree.width whole.height slot above part

-- a part that a walk came to is one of the tree
HasWalkedTo-made :
    {tree : Tree} {slot above : ℕ} {part : Part} → (present : ℕ → Bool) × IsTree tree present
    → ((present : ℕ → Bool) (whole : IsTree tree present)
    → IsWalkedTo tree.segments.items tree.nodes.items (ranks_in whole) tree.width whole.height slot above part)
    → HasWalkedTo tree slot above part
HasWalkedTo-made (present, whole) walk =
    let walked = walk present whole in
    let count = whole.sizes.count in
    record {
      some = omega (arith, walked.from, walked.to);
      within = omega (arith, walked.within, count);
      node = omega (arith, walked.within, walked.from, walked.to, count);
      has = walked.to;
      walked = walk;
    }

-- it begins with all slots
pub HasWalkedTo-whole :
    {tree : Tree} {slot : ℕ} {part : Part} → (present : ℕ → Bool) × IsTree tree present → slot < tree.width → part.first ≡ 0 → part.width ≡ tree.width
    → HasWalkedTo tree slot 0 part
HasWalkedTo-whole has within first width = HasWalkedTo-made has (λ present whole. record {
  low = whole.height;
  size = width ∙ whole.sizes.width;
  within = omega (arith, first, width);
  from = omega (arith, first);
  to = omega (arith, first, width, within);
  known = omega arith;
  summed = rw first whole.summed;
  shows = λ s from to. rw first (omega arith);
})

-- the node that is looked up for a part is its topmost one
pub node-looked_up :
    {tree : Tree} {slot above : ℕ} {part : Part} {n : ℕ} {node : Node} → HasWalkedTo tree slot above part → n ≡ top_of part
    → node ≡ slice_index_or tree.nodes.items n node → node ≡ node_at tree.nodes.items (top_of part)
node-looked_up walk at is = is ∙ rw at (get_or_default _ _ _ _ walk.node)

-- it has its rank, which is that of a known piece
top-looked_up :
    {tree : Tree} {slot above : ℕ} {part : Part} {node : Node} {present : ℕ → Bool} (whole : IsTree tree present) → HasWalkedTo tree slot above part
    → node ≡ node_at tree.nodes.items (top_of part)
    → (node.top ≡ ranks_in whole (top_of part)) × (node.top ≤ length tree.segments.items)
top-looked_up whole walk is =
    let (top, few) = top-known _ _ _ whole walk.node in
    let here = ap (λ n. n.top) is ∙ top in
    (here, rw here few)

-- the ranks above a part are those of known pieces
pub above-known : {tree : Tree} {slot above : ℕ} {part : Part} → (present : ℕ → Bool) × IsTree tree present → HasWalkedTo tree slot above part → above ≤ length tree.segments.items
above-known (present, whole) walk = (walk.walked present whole).known

-- and so is its own
pub max-known :
    {tree : Tree} {slot above : ℕ} {part : Part} {node : Node} → (present : ℕ → Bool) × IsTree tree present → HasWalkedTo tree slot above part
    → node ≡ node_at tree.nodes.items (top_of part) → max above node.top ≤ length tree.segments.items
max-known (present, whole) walk is = omega (arith, (walk.walked present whole).known, (top-looked_up whole walk is).1)

-- the walk goes on to the half that has the slot
pub HasWalkedTo-half :
    {tree : Tree} {slot above over : ℕ} {part half : Part} {node : Node} → (present : ℕ → Bool) × IsTree tree present → HasWalkedTo tree slot above part → 1 < part.width
    → node ≡ node_at tree.nodes.items (top_of part) → over ≡ max above node.top
    → half.first ≡ (if nat_lt slot (part.first + part.width / 2) then part.first else part.first + part.width / 2) → half.width ≡ part.width / 2
    → HasWalkedTo tree slot over half
HasWalkedTo-half has walk more is over_is first width = HasWalkedTo-made has (λ present whole.
    let (top, few) = top-looked_up whole walk is in
    rw over_is (IsWalkedTo-half _ _ (ranks_in whole) _ _ _ _ _ _ _ (walk.walked present whole) more first width top few))

-- what is so of all ranks that the part's topmost node bounds, under those above it, is so of those that its slots show
pub HasWalkedTo-bounds :
    {tree : Tree} {slot above : ℕ} {part : Part} {node : Node} (P : ℕ → Type 0) → HasWalkedTo tree slot above part
    → node ≡ node_at tree.nodes.items (top_of part) → ((below : ℕ) → Bounds tree.segments.items node below → P (max above below))
    → (present : ℕ → Bool) (s : ℕ) → IsTree tree present → slot ≤ s → s < part.first + part.width
    → (rank : ℕ) × IsTop tree.segments.items present s rank × P rank
HasWalkedTo-bounds {tree = tree} {part = part} P walk is all present s whole from to =
    let walked = walk.walked present whole in
    let first : part.first ≤ s = omega (arith, walked.from, from) in
    let below = shown (ranks_in whole) walked.low part.first s in
    let bounds : Bounds tree.segments.items (node_at tree.nodes.items (top_of part)) below =
    rw walked.size (AreSummed-top _ _ (ranks_in whole) walked.low part.first walked.summed s first (rw walked.size at to)) in
    (shown (ranks_in whole) whole.height 0 s, IsTop-shown _ present s whole (omega (arith, to, walked.within)), rw (walked.shows s first to) (all below (rw is bounds)))

-- what is so of the greatest rank of a slot's nodes is so of the one that it shows
pub HasWalkedTo-leaf :
    {tree : Tree} {slot above : ℕ} {part : Part} {node : Node} (P : ℕ → Type 0) → HasWalkedTo tree slot above part
    → node ≡ node_at tree.nodes.items (top_of part) → part.width ≤ 1 → P (max above node.top)
    → (present : ℕ → Bool) (s : ℕ) → IsTree tree present → slot ≤ s → s < part.first + part.width
    → (rank : ℕ) × IsTop tree.segments.items present s rank × P rank
HasWalkedTo-leaf P walk is one so present s whole from to =
    let walked = walk.walked present whole in
    let shows = IsWalkedTo-leaf _ _ (ranks_in whole) _ _ _ _ _ s _ walked one from to (top-looked_up whole walk is).0 in
    (shown (ranks_in whole) whole.height 0 s, IsTop-shown _ present s whole (omega (arith, to, walked.within)), rw shows so)
