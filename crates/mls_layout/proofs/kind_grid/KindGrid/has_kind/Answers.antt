use Rattle.std.proofs.Common.{ℕ, List, subst, ◌∙◌}
use Rattle.mls_geom.specs.Rects.{Rect}
use Rattle.mls_layout.proofs.UniformRows.{TellsKind, tells-picture}
use Rattle.mls_layout.proofs.kind_grid.KindGrid.has_kind.Goals as goal

pub returns : goal.returns
returns c =
    let result = c.rows_have_kind.result in
    let kind = c.args.kind in
    let squares = c.deref.ensures.value ∙ c.self.view_is in
    let told = subst (λ (ks : List ℕ). TellsKind ks c.args.block c.args.rect kind result) squares
    (subst (λ (e : Rect). TellsKind c.deref.result.now c.args.block e kind result) c.area-2.ensures.value
    (subst (λ (e : Rect). TellsKind c.deref.result.now e c.area-2.result kind result) c.area.ensures.value c.rows_have_kind.ensures)) in
    tells-picture c.args.self.now c.args.block c.args.rect kind result c.requires.inside told
