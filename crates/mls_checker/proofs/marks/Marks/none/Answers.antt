use Rattle.std.proofs.Common.{◌≡◌, List, ℕ, [], sym, ap, subst, ◌∙◌}
use Rattle.mls_geom.specs.Rects.{Rect}
use Rattle.mls_checker.specs.MarkMaps.{AreMarksOf, MarkMap}
use Rattle.mls_checker.proofs.MarkCounts.{none-marked}
use Rattle.mls_checker.proofs.marks.Marks.none.Goals as goal

pub invariant_of-result : goal.invariant_of-result
invariant_of-result c =
    let words : c.new-2.result ≡ record { rect = c.args.rect; frame = c.of.result; words = [] } =
    c.new-2.ensures ∙ ap (λ (ws : List ℕ). record { rect = c.args.rect; frame = c.of.result; words = ws }) c.new.ensures.items in
    subst (λ (m : MarkMap). AreMarksOf m c.new-3.result.items 0) (sym words)
    (subst (λ (areas : List Rect). AreMarksOf (record { rect = c.args.rect; frame = c.of.result; words = [] }) areas 0) (sym c.new-3.ensures.items) (none-marked c.args.rect c.of.result))
