-- Lists in another order: what takes the place of tiles does so in any order.
use Rattle.std.proofs.Common.{◌≡◌, ◌≢◌, ℕ, nat_eq, Bool, List, AllPairs, Any, Contains, IsPermutation, IsSome, IsTrue, Option, inl, inr, get_or, refl, sym, subst, arith}
use Rattle.std.specs.Bool.{Decides}
use Rattle.std.proofs.lemmas.Bool.{both_ways, eq-eqb, eqb-true, false_from_ne_true}
use Rattle.std.proofs.lemmas.Cmp.{nat_eq_equiv}
use Rattle.std.proofs.lemmas.List.Elements.{All-contains, Contains-get_or}
use Rattle.std.proofs.lemmas.List.Sorted.{All-permutation, Contains-permutation, IsPermutation-sym}
use Rattle.std.proofs.lemmas.Map.Keys.{IsDistinct-IsPermutation, IsDistinct-from_apart, apart_from_distinct}
use Rattle.mls_geom.specs.Rects.{IsRectangleIn, holds}
use Rattle.mls_geom.specs.World.{world}
use Rattle.mls_geom.specs.declared.piece.Piece.{Piece}
use Rattle.mls_stitch.specs.Replacements.{AreDisjoint, TakePlace}
use Rattle.mls_stitch.specs.Stitches.{HoldsAt}
use Rattle.mls_stitch.proofs.FreshTiles.{AllPairs-either}
use Rattle.mls_stitch.proofs.MaximalTiles.{holds_corner}
use Rattle.mls_stitch.proofs.ReplacedStitches.{Any-contained}
use Rattle.mls_paint.specs.Changes.{is_same}
use Rattle.mls_paint.proofs.ChangedTiles.{is_same-Decides, is_same-flips}

-- what holds of each pair, both ways round, and of no element with itself, holds of each pair in any order
pub AllPairs-moved :
    {X : Type 0} (same : X → X → Bool) (R : X → X → Type 0) (xs ys : List X) → ((x y : X) → Decides (same x y) (x ≡ y)) → ((x y : X) → same x y ≡ same y x) → ((x y : X) → R x y → R y x)
    → ((x : X) → Contains xs x → R x x → ⊥) → IsPermutation xs ys → AllPairs R xs → AllPairs R ys
AllPairs-moved {X} same R xs ys decides flips turns never moved pairs =
    let distinct =
    IsDistinct-from_apart same xs (λ i j d before within. false_from_ne_true _ (λ alike.
    let one : get_or xs j d ≡ get_or xs i d = sym ((decides _ _).0 alike) in
    never (get_or xs i d) (Contains-get_or xs i d (omega (arith, before, within))) (subst (R (get_or xs i d)) one (pairs i j d before within)))) in
    let moved_distinct = IsDistinct-IsPermutation same flips xs ys moved distinct in
    λ i j d before within.
    let back = λ (x : X) (there : Contains ys x). Contains-permutation ys xs x (IsPermutation-sym xs ys moved) there in
    elim (AllPairs-either R xs (get_or ys i d) (get_or ys j d) pairs (back _ (Contains-get_or ys i d (omega (arith, before, within)))) (back _ (Contains-get_or ys j d within))) [
      | inl one ↦ absurd (both_ways _ (apart_from_distinct same ys i j d moved_distinct before within) ((decides _ _).1 one))
      | inr (inl here) ↦ here
      | inr (inr back_here) ↦ turns _ _ back_here
    ]

-- what holds of some element holds of some in any order
Any-moved : {X : Type 0} (P : X → Type 0) (xs ys : List X) → IsPermutation xs ys → Any P xs → Any P ys
Any-moved P xs ys moved (k, x, within, is, holding) = Any-contained P ys x (Contains-permutation xs ys x moved (k, within, is)) holding

apart_back : (p q : Piece) → AreDisjoint p q → AreDisjoint q p
apart_back p q apart = λ at in_q in_p. apart at in_p in_q

-- pieces take the place of tiles in any order
pub TakePlace-moved :
    (blocks : ℕ → Option Piece) (touched names : List ℕ) (fresh put : List Piece) → IsPermutation touched names → IsPermutation fresh put → TakePlace blocks touched fresh
    → TakePlace blocks names put
TakePlace-moved blocks touched names fresh put named moved takes = record {
  there = All-permutation (λ key. IsSome (blocks key)) touched names named takes.there;
  once =
      AllPairs-moved nat_eq (λ a b. a ≢ b) touched names (λ a b. (eqb-true a b, eq-eqb a b)) nat_eq_equiv.symm (λ a b differ same. differ (sym same)) (λ a there differ. differ refl) named takes.once;
  legal = All-permutation (λ piece. IsRectangleIn world piece.rect) fresh put moved takes.legal;
  apart =
      AllPairs-moved is_same AreDisjoint fresh put is_same-Decides is_same-flips apart_back
      (λ piece there apart.
      let corner = holds_corner world piece.rect (All-contains (λ p. IsRectangleIn world p.rect) fresh piece takes.legal there) in
      apart (record { x = piece.rect.left; y = piece.rect.bottom }) corner corner)
      moved takes.apart;
  same = λ at. (
    λ held.
        Any-moved (λ piece. IsTrue (holds piece.rect at.x at.y)) fresh put moved
        ((takes.same at).0 (Any-moved (λ key. HoldsAt blocks key at) names touched (IsPermutation-sym touched names named) held)),
    λ inside.
        Any-moved (λ key. HoldsAt blocks key at) touched names named
        ((takes.same at).1 (Any-moved (λ piece. IsTrue (holds piece.rect at.x at.y)) put fresh (IsPermutation-sym fresh put moved) inside)),
  );
}
