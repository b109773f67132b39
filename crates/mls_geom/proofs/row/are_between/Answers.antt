-- Both lines of this turn's piece were found.
use Rattle.mls_geom.proofs.Common.{◌≡◌, ℕ, ◌<◌, List, length, slice_index, slice_get, IsSomeAnd, subst, ap, ◌∙◌, Contains, take_all, All-more, Contains-get_or, slice_get-get_or}
use Rattle.mls_geom.proofs.Definitions.{Rect, IsBetweenLines}
use Rattle.mls_geom.proofs.row.are_between.Goals as goal

found_in : (lines : List ℕ) (index line : ℕ) → index < length lines → slice_index lines index ≡ line → Contains lines line
found_in lines index line within is = subst (Contains lines) is (Contains-get_or lines index 0 within)

pub loop-i-preserved : goal.loop-i-preserved
loop-i-preserved c =
    let lines = c.args.lines.now in
    let pieces = c.args.pieces.now in
    let active = c.args.active.now in
    let i = slice_index active c.loop-i.i-index in
    let is = slice_get-get_or pieces i c.index-pieces-i.result (c.requires.within c.loop-i.i-index 0 c.loop-i-test.true) in
    let left = found_in lines c.in-Some.left c.edges.inside.left c.in-Some.ensures.found.0 c.in-Some.ensures.found.1 in
    let right = found_in lines c.in-Some-find_line.right c.edges.inside.right c.in-Some-find_line.ensures.found.0 c.in-Some-find_line.ensures.found.1 in
    All-more (λ i. IsSomeAnd (slice_get pieces i) (λ p. IsBetweenLines lines p.rect)) active c.loop-i.i-index 0 c.loop-i-test.true c.loop-i.invariant
    (rw is (record {
      left = subst (Contains lines) (ap (λ (e : Rect). e.left) (c.edges.view_is ∙ c.area-edges.ensures.value)) left;
      right = subst (Contains lines) (ap (λ (e : Rect). e.right) (c.edges.view_is ∙ c.area-edges.ensures.value)) right;
    }))

pub returns : goal.returns
returns c = λ _. rw (take_all c.loop-i.i-index c.args.active.now c.loop-i-test.false) at c.loop-i.invariant
