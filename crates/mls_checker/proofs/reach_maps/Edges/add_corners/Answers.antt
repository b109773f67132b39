use Rattle.std.proofs.Common.{◌||◌, ◌&&◌, ◌∙◌, Bool, List, not, ap, sym, arith}
use Rattle.std.specs.List.{list_any}
use Rattle.mls_geom.specs.declared.direction.Direction.{Direction}
use Rattle.mls_checker.specs.Maps.{comes_first, corner_begins, has_place}
use Rattle.mls_checker.proofs.MapReaches.{across-places, two-more}
use Rattle.mls_checker.proofs.reach_maps.Edges.add_corners.Goals as goal

pub add_flank-requires-clause-across : goal.add_flank-requires-clause-across
add_flank-requires-clause-across c = (across-places c.args.self.now.types.now.frame c.args.direction c.flanks-flank.result.0 c.flanks-flank.result.1 c.flanks-flank.ensures).0

pub add_flank-requires-2-clause-across : goal.add_flank-requires-2-clause-across
add_flank-requires-2-clause-across c = (across-places c.args.self.now.types.now.frame c.args.direction c.flanks-flank.result.0 c.flanks-flank.result.1 c.flanks-flank.ensures).1

pub returns : goal.returns
returns c n within some =
    let types = c.args.self.now.types.now in
    let direction = c.args.direction in
    let test : Direction → Bool = λ flank. not (c.args.self.now.same && comes_first flank direction) && corner_begins types.before types.behind types.beside c.args.self.now.types.now.frame c.args.count c.args.self.now.home n direction flank in
    c.add_flank-2.ensures n (omega (arith, within, c.add_flank.auto.blocks)) ∙ ap (λ b. b || test c.flanks-flank.result.1) (c.add_flank.ensures n within)
    ∙ two-more (has_place c.args.blocks.now n) (test c.flanks-flank.result.0) (test c.flanks-flank.result.1)
    ∙ ap (λ (ds : List Direction). has_place c.args.blocks.now n || list_any test ds) (sym c.flanks-flank.ensures)
