-- A sort of the touched pieces changes nothing in which strips are none of them, and pairing only changes the order.
use Rattle.std.proofs.Common.{◌≡◌, ◌≤◌, ◌++◌, ℕ, List, length, take, drop, IsPermutation, ap, ◌∙◌, subst, rules, arith}
use Rattle.std.proofs.Math.Seq.{take-append_seam}
use Rattle.std.proofs.lemmas.Fn.{always_returns_same}
use Rattle.std.proofs.lemmas.List.Sorted.{length_permutation}
use Rattle.mls_stitch.specs.Pending.{keys_of}
use Rattle.mls_stitch.proofs.FreshStrips.{pieces_of}
use Rattle.mls_paint.specs.Changes.{gone_of, put_of, sort_key_of}
use Rattle.mls_paint.proofs.ChangedTiles.{IsWorkedOut-moved, length-put_of-le}
use Rattle.mls_paint.proofs.SortedPieces.{AreInOrder-sorted, AreInOrder-strips, ordered_from_sort, put_of-sorted}
use Rattle.mls_paint.proofs.plans.Plan.make.Goals as goal

pub list_gone-requires-clause-order : goal.list_gone-requires-clause-order
list_gone-requires-clause-order c = AreInOrder-strips c.args.strips.now c.requires.covered.ordered

pub list_fresh-requires-clause-order : goal.list_fresh-requires-clause-order
list_fresh-requires-clause-order c =
    let sort = c.sort_unstable_by_key.ensures in
    let sorted = ordered_from_sort c.sort_unstable_by_key.new.self.items (sort.sorted sort_key_of (always_returns_same _ _ _ (λ a r f called. search rules))) in
    rw c.deref.ensures.value (AreInOrder-sorted c.args.touched.now.items _ c.requires.corners sort.permutation sorted)

-- a list that is filled whole has what filled it
filled : {X : Type 0} (xs rest : List X) (n : ℕ) → n ≡ length xs → take n (xs ++ rest) ≡ xs
filled xs rest n long = ap (λ k. take k (xs ++ rest)) long ∙ take-append_seam xs rest

pub invariant_of-self : goal.invariant_of-self
invariant_of-self c =
    let tiles = c.args.tiles.now in
    let strips = c.args.strips.now in
    let pieces = pieces_of tiles in
    let gone = c.pair_up.new.tiles in
    let fresh = c.pair_up.new.strips in
    let put : c.list_fresh.new.fresh.items ≡ put_of strips pieces =
    c.list_fresh.ensures.items ∙ ap (put_of strips) c.deref.ensures.value ∙ put_of-sorted strips _ _ c.sort_unstable_by_key.ensures.permutation ∙ ap (put_of strips) c.requires.touched in
    let away : IsPermutation (gone_of tiles strips) gone = subst (λ l. IsPermutation l gone) (c.deref_mut.ensures.value ∙ c.list_gone.ensures.items) c.pair_up.ensures.tiles in
    let come : IsPermutation (put_of strips pieces) fresh = subst (λ l. IsPermutation l fresh) (c.deref_mut-2.ensures.value ∙ put) c.pair_up.ensures.strips in
    let as_many = length_permutation _ gone away in
    let as_many' = length_permutation _ fresh come in
    let gone_are = filled gone (drop (length gone) c.list_gone.new.gone.items) c.list_gone.new.gone.len (omega (arith, as_many, ap length c.list_gone.ensures.items, c.list_gone.new.gone.ok.0)) in
    let fresh_are = filled fresh (drop (length fresh) c.list_fresh.new.fresh.items) c.list_fresh.new.fresh.len (omega (arith, as_many', ap length put, c.list_fresh.new.fresh.ok.0)) in
    let names_are : c.list_names.new.names.items ≡ keys_of gone = c.list_names.ensures.items ∙ ap keys_of (c.deref-2.ensures.value ∙ gone_are) in
    let tiles_are : c.extend_from_slice-2.new.self.items ≡ tiles = search rules in
    let over_are : c.extend_from_slice.new.self.items ≡ c.args.over.now = search rules in
    let worked = IsWorkedOut-moved tiles c.args.over.now strips gone fresh c.requires.kinds c.requires.legal c.requires.covered (rw c.requires.touched at c.requires.corners) away come in
    let few : length fresh ≤ c.self.inside.room = omega (arith, as_many', length-put_of-le strips pieces, c.requires.strips_fit, ap (λ p. p.room) c.self.view_is) in (
      search rules,
      search rules,
      search rules,
      search rules,
      search rules,
      rw fresh_are few,
      rw tiles_are (rw over_are (rw names_are (rw fresh_are worked))),
    )
