use Rattle.std.proofs.Common.{◌||◌, ◌&&◌, ◌∙◌, Bool, List, get_or, not, ap, sym, arith}
use Rattle.std.specs.List.{list_any}
use Rattle.std.proofs.lemmas.List.{take_all}
use Rattle.std.proofs.lemmas.List.Folds.{list_any_more}
use Rattle.mls_geom.specs.declared.direction.Direction.{Direction}
use Rattle.mls_geom.specs.declared.direction.Direction.TheVariants.{Right}
use Rattle.mls_checker.specs.Maps.{corners_begin, is_level, row_begins}
use Rattle.mls_checker.proofs.reach_maps.Edges.find_beginnings.Goals as goal

pub loop-direction-preserved : goal.loop-direction-preserved
loop-direction-preserved c =
    let types = c.args.self.now.types.now in
    let rule = c.args.rule.now in
    let place = c.loop-direction.direction-index in
    let items = c.list-direction-items.result.now in
    let d = get_or items place Right in
    record {
      level = λ n within.
          let test : Direction → Bool = λ direction. is_level direction && row_begins types.before types.behind c.args.self.now.types.now.frame rule.distance c.args.self.now.home n direction in
          c.add_rows.ensures.level n (omega (arith, within, c.loop-direction.auto.level)) ∙ ap (λ b. b || test d) (c.loop-direction.invariant.level n within)
          ∙ sym (list_any_more test items place Right (omega arith));
      upright = λ n within.
          let test : Direction → Bool = λ direction. not (is_level direction) && row_begins types.before types.behind c.args.self.now.types.now.frame rule.distance c.args.self.now.home n direction in
          c.add_rows.ensures.upright n (omega (arith, within, c.loop-direction.auto.upright)) ∙ ap (λ b. b || test d) (c.loop-direction.invariant.upright n within)
          ∙ sym (list_any_more test items place Right (omega arith));
      blocks = λ n within some.
          let test : Direction → Bool = corners_begin types.before types.behind types.beside c.args.self.now.types.now.frame c.args.self.now.same rule.corner_distance c.args.self.now.home n in
          c.add_corners.ensures n (omega (arith, within, c.loop-direction.auto.blocks)) some ∙ ap (λ b. b || test d) (c.loop-direction.invariant.blocks n within some)
          ∙ sym (list_any_more test items place Right (omega arith));
    }

pub returns-clause-level : goal.returns-clause-level
returns-clause-level c n within =
    let types = c.args.self.now.types.now in
    let test : Direction → Bool = λ direction. is_level direction && row_begins types.before types.behind c.args.self.now.types.now.frame c.args.rule.now.distance c.args.self.now.home n direction in
    c.loop-direction.invariant.level n within ∙ ap (λ (ds : List Direction). list_any test ds) (take_all c.loop-direction.direction-index c.list-direction-items.result.now (omega arith) ∙ c.list-direction-items.ensures)

pub returns-clause-upright : goal.returns-clause-upright
returns-clause-upright c n within =
    let types = c.args.self.now.types.now in
    let test : Direction → Bool = λ direction. not (is_level direction) && row_begins types.before types.behind c.args.self.now.types.now.frame c.args.rule.now.distance c.args.self.now.home n direction in
    c.loop-direction.invariant.upright n within ∙ ap (λ (ds : List Direction). list_any test ds) (take_all c.loop-direction.direction-index c.list-direction-items.result.now (omega arith) ∙ c.list-direction-items.ensures)

pub returns-clause-blocks : goal.returns-clause-blocks
returns-clause-blocks c n within some =
    let types = c.args.self.now.types.now in
    let test : Direction → Bool = corners_begin types.before types.behind types.beside c.args.self.now.types.now.frame c.args.self.now.same c.args.rule.now.corner_distance c.args.self.now.home n in
    c.loop-direction.invariant.blocks n within some ∙ ap (λ (ds : List Direction). list_any test ds) (take_all c.loop-direction.direction-index c.list-direction-items.result.now (omega arith) ∙ c.list-direction-items.ensures)
