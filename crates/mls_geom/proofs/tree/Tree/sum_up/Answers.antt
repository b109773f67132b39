-- The topmost node is set, and bounds what the slots show; all others stay.
use Rattle.mls_geom.proofs.Common.{◌≡◌, ◌≢◌, ℕ, ◌^◌, ◌<◌, max, None, length, set, inl, inr, refl, ap, ◌∙◌, arith, pow_pos, cases_eq, get_or-set_same, get_or-set_other, get_or_default, length-set}
use Rattle.mls_geom.proofs.Definitions.{Node, Nothing, rank_of, node_of, node_at, Agrees, Bounds}
use Rattle.mls_geom.proofs.SummedNodes.{Bounds-over, AreSummed-summed_up, IsLinked-alike}
use Rattle.mls_geom.proofs.tree.Tree.sum_up.Goals as goal

pub returns-clause-summed : goal.returns-clause-summed
returns-clause-summed c = λ height is.
    let first = c.args.part.first in
    let segments = c.args.self.now.segments.items in
    let nodes = c.args.self.now.nodes.items in
    let place = node_of height first in
    let nothing : Node = record { head = None; top = 0; least = 0; most = 0; shown = Nothing } in
    let node : Node = record { head = c.index_mut-node.result.now.head; top = c.index_mut-node.result.now.top; least = c.max-node.result; most = c.max-node-2.result; shown = c.under-shown.result } in
    let set_at : c.node-2.result ≡ place = omega (arith, c.node-2.ensures, is) in
    let read_at : c.node.result ≡ place = omega (arith, c.node.ensures, is) in
    let within : place < length nodes = omega (arith, is, c.requires.within, pow_pos height) in
    let stood : c.index_mut-node.result.now ≡ node_at nodes place = rw set_at at c.index_mut-node.ensures.value ∙ get_or_default nodes place c.index_mut-node.result.now nothing within in
    let read : c.index.result.now ≡ node_at nodes place = rw read_at at c.index.ensures ∙ get_or_default nodes place c.index.result.now nothing within in
    let under : (rank : ℕ) → Bounds segments c.below-below.result rank → Agrees segments c.under-shown.result (max c.index.result.now.top rank) =
    rw c.deref.ensures.value at c.under-shown.ensures in
    let here = get_or-set_same nodes place node nothing within in
    let there : (n : ℕ) → n ≢ place → node_at (set nodes place node) n ≡ node_at nodes n = λ n other. get_or-set_other nodes place n node nothing other in
    rw set_at record {
      linked = λ chains linked n inside. elim (cases_eq n place) [
        | inl same ↦ rw same (IsLinked-alike _ _ place (chains place) refl refl (ap (λ (found : Node). found.head) here ∙ ap (λ (found : Node). found.head) stood)
            (ap (λ (found : Node). found.top) here ∙ ap (λ (found : Node). found.top) stood) (linked place within))
        | inr other ↦ IsLinked-alike _ _ n (chains n) refl refl (ap (λ (found : Node). found.head) (there n other)) (ap (λ (found : Node). found.top) (there n other)) (linked n (omega (arith, inside, length-set nodes place node)))
      ];
      summed = λ chains linked summed.
          let ranks : ℕ → ℕ = λ n. rank_of (chains n) in
          let top : c.index.result.now.top ≡ ranks place = ap (λ (found : Node). found.top) read ∙ (linked place within).top in
          AreSummed-summed_up segments nodes (set nodes place node) ranks height first c.below-below.result
          (λ none. c.below-below.ensures.leaf (is ∙ ap (λ h. 2 ^ h) none))
          (λ k s next from to left right. c.below-below.ensures.halves k ranks s (is ∙ ap (λ h. 2 ^ h) next) from (omega (arith, to, is)) left right)
          (λ rank bounds. rw (here, ← top) (Bounds-over segments c.below-below.result node c.index.result.now.top rank c.max-node.ensures c.max-node-2.ensures (under rank bounds) bounds))
          there summed;
      others = there;
    }
