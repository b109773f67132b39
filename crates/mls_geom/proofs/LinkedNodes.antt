-- The chains of a segment tree's nodes, where one of them changes.
use Rattle.mls_geom.proofs.Common.{◌≡◌, ◌≢◌, ℕ, ◌<◌, ◌≤◌, nat_lt, nat_le, ◌==◌, true, false, if◌then◌else◌, Option, List, [], ◌∷◌, length, inl, inr, arith, cases_eq, cases_lt, nat_tests}
use Rattle.mls_geom.proofs.Definitions.{Each, IsChain, IsFalling, linked, outliving, rank_of, stepped, AreLinked, IsLinked, node_at, Step, Begins, Ends, Tree}
use Rattle.mls_geom.proofs.EachOfChain.{Each-weaker, Each-outliving, Each-linked, Each-stepped, either, outliving-passed, unlinked-passed}

-- those that outlive the piece lie under it, where the first one doesn't lie over it
lower-outliving :
    (ends : ℕ → ℕ) (piece over : ℕ) (rest : List ℕ) → IsFalling (over ∷ rest) → over ≤ piece → Each (λ under. under < piece) (outliving ends piece (over ∷ rest))
lower-outliving ends piece over rest falling lower = elim (cases_lt over piece) [
  | inl less ↦ Each-outliving ends (λ under. under < piece) piece (over ∷ rest)
      (less, Each-weaker (λ under. under < over) (λ under. under < piece) rest (λ under below. omega arith) falling.0)
  | inr same ↦
      let is : over ≡ piece = omega arith in
      let ended : nat_le (ends over) (ends piece) ≡ true = rw is (grind (arith, nat_tests)) in
      rw ended (Each-outliving ends (λ under. under < piece) piece rest (rw is at falling.0))
]

-- where a piece is linked, a chain that falls still does
IsFalling-linked : (ends : ℕ → ℕ) (piece : ℕ) (chain : List ℕ) → IsFalling chain → IsFalling (linked ends piece chain)
IsFalling-linked ends piece [] falling = (record {}, record {})
IsFalling-linked ends piece (over ∷ rest) falling = elim (cases_lt piece over) [
  | inl under ↦
      let test : nat_lt piece over ≡ true = grind (arith, nat_tests) in
      rw test (either IsFalling (nat_le (ends piece) (ends over)) (over ∷ rest) (over ∷ linked ends piece rest) falling
      (Each-linked ends (λ other. other < over) piece rest under falling.0, IsFalling-linked ends piece rest falling.1))
  | inr lower ↦
      let test : nat_lt piece over ≡ false = grind (arith, nat_tests) in
      rw test (lower-outliving ends piece over rest falling lower, outliving-passed IsFalling (λ top under falls. falls.1) ends piece (over ∷ rest) falling)
]

-- and where one begins or ends
IsFalling-stepped : (step : Step) (ends : ℕ → ℕ) (piece : ℕ) (chain : List ℕ) → IsFalling chain → IsFalling (stepped step ends piece chain)
IsFalling-stepped Begins ends piece chain falling = IsFalling-linked ends piece chain falling
IsFalling-stepped Ends ends piece chain falling = unlinked-passed IsFalling (λ top under falls. falls.1) piece chain falling

-- a node whose chain has changed for a piece that begins or ends has the new one
pub IsLinked-stepped :
    (step : Step) (ends : ℕ → ℕ) (old new : Tree) (n piece : ℕ) (chain : List ℕ) → IsLinked old n chain → piece < length old.segments.items → new.segments ≡ old.segments
    → IsChain new.entries.items n (node_at new.nodes.items n).head (stepped step ends piece chain) → (node_at new.nodes.items n).top ≡ rank_of (stepped step ends piece chain)
    → IsLinked new n (stepped step ends piece chain)
IsLinked-stepped step ends old new n piece chain before known same entries top = record {
  entries = entries;
  top = top;
  falling = IsFalling-stepped step ends piece chain before.falling;
  known = rw same (Each-stepped step ends (λ other. other < length old.segments.items) piece chain known before.known);
}

-- a node that stays, with its chain
IsLinked-kept :
    (old new : Tree) (n : ℕ) (chain : List ℕ) → IsLinked old n chain → node_at new.nodes.items n ≡ node_at old.nodes.items n → new.segments ≡ old.segments
    → ((next : Option ℕ) (others : List ℕ) → IsChain old.entries.items n next others → IsChain new.entries.items n next others) → IsLinked new n chain
IsLinked-kept old new n chain before node same kept = record {
  entries = rw node (kept (node_at old.nodes.items n).head chain before.entries);
  top = rw node before.top;
  falling = before.falling;
  known = rw same before.known;
}

-- all nodes, where one of them changes
pub AreLinked-at :
    (change : List ℕ → List ℕ) (old new : Tree) (node : ℕ) (chains : ℕ → List ℕ) → AreLinked old chains → length new.nodes.items ≡ length old.nodes.items
    → new.segments ≡ old.segments → ((n : ℕ) → n ≢ node → node_at new.nodes.items n ≡ node_at old.nodes.items n)
    → ((n : ℕ) (next : Option ℕ) (chain : List ℕ) → n ≢ node → IsChain old.entries.items n next chain → IsChain new.entries.items n next chain)
    → IsLinked new node (change (chains node)) → AreLinked new (λ n. if n == node then change (chains n) else chains n)
AreLinked-at change old new node chains before count same others kept here = λ n within. elim (cases_eq n node) [
  | inl is ↦
      let test : (n == node) ≡ true = grind (arith, nat_tests) in
      rw (test, is) here
  | inr isnt ↦
      let test : (n == node) ≡ false = grind (arith, nat_tests) in
      rw test (IsLinked-kept old new n (chains n) (before n (omega arith)) (others n isnt) same (λ next chain. kept n next chain isnt))
]
