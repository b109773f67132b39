-- Trees once a piece is put or taken.
use Rattle.mls_geom.proofs.Common.{◌≡◌, ◌≢◌, ℕ, ◌<◌, ◌⊎◌, Bool, true, false, if◌then◌else◌, List, [], ◌∷◌, length, inl, inr, sym, ap, ◌∙◌, arith, ne_eqb, eq-eqb, cases_Bool, cases_eq, false≢true}
use Rattle.mls_geom.proofs.Definitions.{IsChainOf, linked, stepped, unlinked, IsNext, has_node, span_of, end_of, EndsFirst, changed_in, HasChanged, with_piece, without_piece, HasHeight, IsTree, Step, Begins, Ends, Tree}
use Rattle.mls_geom.specs.Sweep.Events.{moved}
use Rattle.mls_geom.proofs.ChainLists.{linked-hides, linked-hides-new, IsStaircase-linked, taken-hides}
use Rattle.mls_geom.proofs.EachOfChain.{Each-both, Each-weaker, Each-linked}
use Rattle.mls_geom.proofs.PresentPieces.{with-old, with-new, with-which, without-others, without-which}

-- a chain of some pieces is one of the same pieces
IsChainOf-alike :
    {ends : ℕ → ℕ} {P Q : ℕ → Type 0} (chain : List ℕ) → ((i : ℕ) → P i → Q i) → ((i : ℕ) → Q i → P i) → IsChainOf ends P chain → IsChainOf ends Q chain
IsChainOf-alike chain to back is = record { each = Each-weaker _ _ chain to is.each; hidden = λ i at. is.hidden i (back i at); stairs = is.stairs }

-- a node's chain once a piece that wasn't present is put
IsChainOf-with :
    (ends : ℕ → ℕ) (present has : ℕ → Bool) (piece : ℕ) (chain : List ℕ) → present piece ≡ false
    → IsChainOf ends (λ i. (present i ≡ true) × (has i ≡ true)) chain
    → IsChainOf ends (λ i. (with_piece present piece i ≡ true) × (has i ≡ true)) (if has piece then linked ends piece chain else chain)
IsChainOf-with ends present has piece chain absent is = elim (cases_Bool (has piece)) [
  | inl here ↦
      let old = Each-weaker _ _ chain (λ i at. (with-old present piece i at.0, at.1)) is.each in
      rw here record {
        each = Each-linked ends (λ i. (with_piece present piece i ≡ true) × (has i ≡ true)) piece chain (with-new present piece, here) old;
        hidden = λ i at. elim (with-which present piece i at.0) [
          | inl was ↦ linked-hides ends piece i chain is.stairs (is.hidden i (was, at.1))
          | inr same ↦ rw same (linked-hides-new ends piece chain)
        ];
        stairs = IsStaircase-linked ends piece chain is.stairs (Each-weaker _ _ chain (λ i at same. false≢true (sym absent ∙ (rw same at at.0))) is.each);
      }
  | inr away ↦ rw away (IsChainOf-alike chain (λ i at. (with-old present piece i at.0, at.1)) (λ i at. elim (with-which present piece i at.0) [
    | inl was ↦ (was, at.1)
    | inr same ↦ absurd (false≢true (sym away ∙ (rw same at at.1)))
  ]) is)
]

-- a chain with the piece that ends first on top, or without it
taken :
    (ends : ℕ → ℕ) (present has : ℕ → Bool) (piece : ℕ) (chain : List ℕ)
    → ((i : ℕ) → present i ≡ true → i ≢ piece → (ends piece < ends i) ⊎ ((ends piece ≡ ends i) × (piece < i)))
    → IsChainOf ends (λ i. (present i ≡ true) × (has i ≡ true)) chain
    → IsChainOf ends (λ i. (without_piece present piece i ≡ true) × (has i ≡ true)) (unlinked piece chain)
taken ends present has piece [] first is = record {
  each = tt;
  hidden = λ i at. is.hidden i ((without-which present piece i at.0).0, at.1);
  stairs = tt;
}
taken ends present has piece (over ∷ rest) first is = elim (cases_eq over piece) [
  | inl top ↦
      let (below, stairs) = is.stairs in
      let (here, each) = is.each in
      rw (eq-eqb over piece top) record {
        each = Each-both rest (λ i at steps. (without-others present piece i at.0 (λ same. absurd (omega (arith, same, top, steps.0))), at.1)) each below;
        hidden = λ i at. (let (was, other) = without-which present piece i at.0 in taken-hides ends piece over i rest top other (first i was other) (is.hidden i (was, at.1)));
        stairs = stairs;
      }
  | inr under ↦
      let (below, stairs) = is.stairs in
      let (here, each) = is.each in
      rw (ne_eqb over piece under) record {
        each = (
          (without-others present piece over here.0 under, here.1),
          Each-both rest (λ i at steps. (
            without-others present piece i at.0 (λ same. elim (first over here.0 under) [
              | inl sooner ↦ absurd (omega (arith, sooner, ap ends same, steps.1))
              | inr with_it ↦ absurd (omega (arith, with_it.0, ap ends same, steps.1))
            ]),
            at.1,
          )) each below,
        );
        hidden = λ i at. (let (was, other) = without-which present piece i at.0 in is.hidden i (was, at.1));
        stairs = (below, stairs);
      }
]

-- a node's chain once the piece that ends first is taken
IsChainOf-without :
    (ends : ℕ → ℕ) (present has : ℕ → Bool) (piece : ℕ) (chain : List ℕ)
    → ((i : ℕ) → present i ≡ true → i ≢ piece → (ends piece < ends i) ⊎ ((ends piece ≡ ends i) × (piece < i)))
    → IsChainOf ends (λ i. (present i ≡ true) × (has i ≡ true)) chain
    → IsChainOf ends (λ i. (without_piece present piece i ≡ true) × (has i ≡ true)) (if has piece then unlinked piece chain else chain)
IsChainOf-without ends present has piece chain first is = elim (cases_Bool (has piece)) [
  | inl here ↦ rw here (taken ends present has piece chain first is)
  | inr away ↦ rw away (IsChainOf-alike chain (λ i at. (without-others present piece i at.0 (λ same. false≢true (sym away ∙ (rw same at at.1))), at.1))
      (λ i at. ((without-which present piece i at.0).0, at.1)) is)
]

-- a tree with the same segments and as many nodes has the same height
HasHeight-kept :
    (old new : Tree) (height : ℕ) → new.segments ≡ old.segments → new.width ≡ old.width → length new.nodes.items ≡ length old.nodes.items
    → HasHeight old height → HasHeight new height
HasHeight-kept old new height segments width nodes sizes = record {
  width = width ∙ sizes.width;
  count = omega (arith, nodes, width, sizes.count);
  few = rw segments sizes.few;
  spans = rw (segments, width) sizes.spans;
}

-- a tree whose chains have changed at the nodes of a piece, where such a change gives chains of the next pieces
IsTree-changed :
    (change : List ℕ → List ℕ) (old new : Tree) (present next : ℕ → Bool) (piece : ℕ) (tree : IsTree old present)
    → new.segments ≡ old.segments → new.width ≡ old.width → length new.nodes.items ≡ length old.nodes.items
    → ((i : ℕ) → next i ≡ true → i < length old.segments.items)
    → ((has : ℕ → Bool) (chain : List ℕ) → IsChainOf (end_of old.segments.items) (λ i. (present i ≡ true) × (has i ≡ true)) chain
    → IsChainOf (end_of old.segments.items) (λ i. (next i ≡ true) × (has i ≡ true)) (if has piece then change chain else chain))
    → HasChanged old new (span_of old.segments.items piece) change tree.height 0 → IsTree new next
IsTree-changed change old new present next piece tree segments width nodes known chain changed = record {
  height = tree.height;
  sizes = HasHeight-kept old new tree.height segments width nodes tree.sizes;
  known = λ i has. rw segments (known i has);
  chains = changed_in (span_of old.segments.items piece) tree.height 0 change tree.chains;
  linked = changed.linked tree.chains tree.linked;
  pieces = λ n within. rw segments (chain (λ i. has_node (span_of old.segments.items i) tree.height 0 n) (tree.chains n) (tree.pieces n (rw nodes at within)));
  summed = changed.summed tree.chains tree.linked tree.summed;
}

-- a tree whose chains have one piece more
IsTree-with :
    (old new : Tree) (present : ℕ → Bool) (piece : ℕ) (tree : IsTree old present)
    → new.segments ≡ old.segments → new.width ≡ old.width → length new.nodes.items ≡ length old.nodes.items
    → piece < length old.segments.items → present piece ≡ false → HasChanged old new (span_of old.segments.items piece) (linked (end_of old.segments.items) piece) tree.height 0
    → IsTree new (with_piece present piece)
IsTree-with old new present piece tree segments width nodes known absent =
    IsTree-changed (linked (end_of old.segments.items) piece) old new present (with_piece present piece) piece tree segments width nodes
    (λ i has. elim (with-which present piece i has) [
      | inl was ↦ tree.known i was
      | inr same ↦ rw same known
    ])
    (λ has chain. IsChainOf-with (end_of old.segments.items) present has piece chain absent)

-- and one whose chains have one less, which ends first
IsTree-without :
    (old new : Tree) (present : ℕ → Bool) (piece : ℕ) (tree : IsTree old present)
    → new.segments ≡ old.segments → new.width ≡ old.width → length new.nodes.items ≡ length old.nodes.items
    → EndsFirst old.segments.items present piece → HasChanged old new (span_of old.segments.items piece) (unlinked piece) tree.height 0
    → IsTree new (without_piece present piece)
IsTree-without old new present piece tree segments width nodes first =
    IsTree-changed (unlinked piece) old new present (without_piece present piece) piece tree segments width nodes
    (λ i has. tree.known i (without-which present piece i has).0)
    (λ has chain. IsChainOf-without (end_of old.segments.items) present has piece chain first)

-- so a piece that is the next to begin or to end has done so
pub IsTree-moved :
    (step : Step) (old new : Tree) (present : ℕ → Bool) (piece : ℕ) (tree : IsTree old present)
    → new.segments ≡ old.segments → new.width ≡ old.width → length new.nodes.items ≡ length old.nodes.items
    → piece < length old.segments.items → IsNext step old.segments.items present piece
    → HasChanged old new (span_of old.segments.items piece) (stepped step (end_of old.segments.items) piece) tree.height 0
    → IsTree new (moved step present piece)
IsTree-moved Begins old new present piece tree segments width nodes known next = IsTree-with old new present piece tree segments width nodes known next
IsTree-moved Ends old new present piece tree segments width nodes known next = IsTree-without old new present piece tree segments width nodes next
