use Rattle.std.proofs.Common.{◌*◌, ◌||◌, ◌∙◌, max, List, ℕ, length, ap, arith}
use Rattle.mls_checker.specs.Maps.{has_ahead, has_place}
use Rattle.mls_checker.proofs.MapSteps.{spread-apart, spread-joined, upright-within}
use Rattle.mls_checker.proofs.reach_maps.spread.Goals as goal
use Rattle.mls_checker.proofs.reach_maps.spread.Goals.{then-distance-corner_distance, else-distance-corner_distance}

pub returns : goal.returns
returns c n within =
    let d = c.args.rule.now.distance in
    let cd = c.args.rule.now.corner_distance in
    let row = c.args.row in
    let total = 64 * length c.args.level.now in
    c.add_wide-2.ensures n (omega (arith, upright-within row d (max d cd) n total (omega arith) within, c.if-distance-corner_distance.auto.level))
    ∙ ap (λ b. b || has_ahead (has_place c.args.upright.now) row d n) (elim c.if-distance-corner_distance.branch [
      | then-distance-corner_distance w ↦ ap (λ (map : List ℕ). has_place map n) w.level-is
          ∙ spread-joined (has_place c.args.level.now) (has_place w.add_wide.new.map) (has_place w.widen.new.map) (has_place c.args.blocks.now)
          row d cd (max d cd) total n (omega arith) (omega arith) (omega (arith, w.if-distance-corner_distance.true)) w.add_wide.ensures
          (λ k few. w.widen.ensures k (omega (arith, few, w.add_wide.auto.map))) within
      | else-distance-corner_distance w ↦ ap (λ (map : List ℕ). has_place map n) w.level-is
          ∙ spread-apart (has_place c.args.level.now) (has_place w.widen-else-distance-corner_distance-2.new.map) (has_place w.add_wide-else-distance-corner_distance.new.map)
          (has_place c.args.blocks.now) (has_place w.widen-else-distance-corner_distance.new.map)
          row d cd (max d cd) total n (omega arith) (omega arith)
          (λ k few. w.widen-else-distance-corner_distance.ensures k (omega (arith, few, c.requires.blocks)))
          (λ k few. w.widen-else-distance-corner_distance-2.ensures k (omega (arith, few)))
          (λ k few. w.add_wide-else-distance-corner_distance.ensures k (omega (arith, few, w.widen-else-distance-corner_distance-2.auto.map))) within
    ])
