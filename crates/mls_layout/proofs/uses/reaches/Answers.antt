use Rattle.std.proofs.Common.{Option, ap, sym, ◌∙◌, rules}
use Rattle.std.specs.Int.{w32}
use Rattle.std.specs.Prelude.{FitsSigned}
use Rattle.std.proofs.lemmas.Int.{to_z-of_z}
use Rattle.mls_geom.specs.Rects.{Rect}
use Rattle.mls_layout.specs.Inner.{bounds_hold}
use Rattle.mls_layout.specs.Moves.{is_moved}
use Rattle.mls_layout.proofs.MovedParts.{IsPartOf-none}
use Rattle.mls_layout.proofs.uses.reaches.Goals as goal

pub returns-in-Some : goal.returns-in-Some
returns-in-Some c = λ apart x y inside.
    let dx = c.args.cell_use.now.dx in
    let dy = c.args.cell_use.now.dy in
    let along : FitsSigned w32 dx = search rules in
    let up : FitsSigned w32 dy = search rules in
    let part = simp to_z-of_z at c.moved_part.ensures in
    ap (λ (bounds : Option Rect). bounds_hold bounds dx dy x y) (sym c.in-Some.ensures)
    ∙ IsPartOf-none c.args.area (is_moved c.in-Some.bounds dx dy) c.moved_part.result (sym c.is_some.ensures ∙ apart) part x y inside
