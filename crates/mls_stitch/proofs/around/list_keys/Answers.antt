-- The keys are listed as they come, and then sorted.
use Rattle.std.proofs.Common.{◌≡◌, ◌+◌, ◌++◌, ◌∷◌, [], take, ap, refl, sym, ◌∙◌, arith}
use Rattle.mls_stitch.proofs.Common.{take_all, take_more, Contains-permutation, IsNonDecreasingBy-from_sort, IsPermutation-sym}
use Rattle.mls_stitch.proofs.around.list_keys.Goals as goal

pub loop-id-init : goal.loop-id-init
loop-id-init c = record { each = c.clear.ensures.items; len = c.clear.ensures.len; room = refl }

pub loop-id-preserved : goal.loop-id-preserved
loop-id-preserved c =
    let ids = c.args.touched.now in
    let i = c.loop-id.id-index in
    let id = c.id-item.result in
    let more : take (i + 1) ids ≡ take i ids ++ id ∷ [] = take_more ids i id c.loop-id-test.true ∙ ap (λ k. take i ids ++ k ∷ []) (sym c.id-item.is) in
    record {
      each = c.push_reserved.ensures.items ∙ ap (λ l. l ++ c.key.result ∷ []) c.loop-id.invariant.each ∙ ap (λ k. take i ids ++ k ∷ []) c.key.ensures ∙ sym more;
      len = omega arith;
      room = cc;
    }

pub returns-clause-ascending : goal.returns-clause-ascending
returns-clause-ascending c = IsNonDecreasingBy-from_sort (λ k. k) _ c.sort_unstable.ensures.sorted

pub returns-clause-members : goal.returns-clause-members
returns-clause-members c =
    let all : take c.loop-id.id-index c.args.touched.now ≡ c.args.touched.now = take_all c.loop-id.id-index c.args.touched.now (omega arith) in
    let each = c.loop-id.invariant.each ∙ all in
    let moved = c.sort_unstable.ensures.permutation in
    λ key. (
      λ found. rw each at (Contains-permutation _ _ key (IsPermutation-sym _ _ moved) found),
      λ found. Contains-permutation _ _ key moved (rw each found),
    )
