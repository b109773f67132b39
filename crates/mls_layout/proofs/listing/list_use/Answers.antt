use Rattle.std.proofs.Common.{List, sym, ap, subst, ◌∙◌, rules}
use Rattle.std.specs.Int.{w32}
use Rattle.std.specs.Prelude.{FitsSigned}
use Rattle.std.proofs.lemmas.Int.{to_z-of_z}
use Rattle.mls_geom.specs.Locality.{laid}
use Rattle.mls_stitch.specs.declared.laid_tile.LaidTile.{LaidTile}
use Rattle.mls_layout.specs.Inner.{ShowMoved}
use Rattle.mls_layout.specs.Moves.{moved_picture}
use Rattle.mls_layout.specs.Uses.{over}
use Rattle.mls_layout.proofs.listing.list_use.Goals as goal

pub returns-clause-laid : goal.returns-clause-laid
returns-clause-laid c = λ done x y inside.
    let dx = c.in-Some.cell_use.dx in
    let dy = c.in-Some.cell_use.dy in
    let along : FitsSigned w32 dx = search rules in
    let up : FitsSigned w32 dy = search rules in
    let found = c.in-Some.ensures.found in
    let show = subst (λ (list : List LaidTile). ShowMoved found.picture dx dy c.args.rect list) (sym c.tiles.ensures) found.show in
    let all = simp to_z-of_z at c.push_tiles.ensures.laid in
    found.painted (laid c.args.workspace.now.pieces.items) (laid c.push_tiles.new.pieces.items) x y inside
    (all done found.picture show x y inside
    ∙ ap (λ pieces. over (moved_picture found.picture dx dy) (laid pieces.items) x y) c.in-Some.ensures.pieces)
