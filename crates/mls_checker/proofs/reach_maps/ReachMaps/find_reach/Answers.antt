use Rattle.std.proofs.Common.{◌≡◌, ◌+◌, ◌-◌, ◌*◌, ◌∙◌, ℕ, max, List, length, ap, arith}
use Rattle.mls_checker.specs.Maps.{has_place, place_of}
use Rattle.mls_checker.proofs.MapReaches.{reach-found}
use Rattle.mls_checker.proofs.Stacks.{given-back}
use Rattle.mls_checker.proofs.reach_maps.ReachMaps.find_reach.Goals as goal

pub returns-clause-reached : goal.returns-clause-reached
returns-clause-reached c layout types x y deep =
    let self = c.args.self.now in
    let rule = c.args.rule.now in
    let frame = self.frame in
    let found = c.find_beginnings in
    let level_found = rw c.requires.frame at found.ensures.level in
    let upright_found = rw c.requires.frame at found.ensures.upright in
    let blocks_found = rw c.requires.frame at found.ensures.blocks in
    let level_back = given-back self.level.items c.deref_mut.result.now found.new.level self.level.len c.deref_mut.ensures.value found.auto.level c.deref_mut.ensures.len in
    let upright_back = given-back self.upright.items c.deref_mut-2.result.now found.new.upright self.upright.len c.deref_mut-2.ensures.value found.auto.upright c.deref_mut-2.ensures.len in
    let blocks_back = given-back self.blocks.items c.deref_mut-3.result.now found.new.blocks self.blocks.len c.deref_mut-3.ensures.value found.auto.blocks c.deref_mut-3.ensures.len in
    let level_lent : c.deref_mut-4.result.now ≡ found.new.level = c.deref_mut-4.ensures.value ∙ level_back in
    let upright_lent : c.deref_mut-5.result.now ≡ found.new.upright = c.deref_mut-5.ensures.value ∙ upright_back in
    let blocks_lent : c.deref_mut-6.result.now ≡ found.new.blocks = c.deref_mut-6.ensures.value ∙ blocks_back in
    let back = given-back _ c.deref_mut-4.result.now c.spread.new.level self.level.len c.deref_mut-4.ensures.value c.spread.auto.level c.deref_mut-4.ensures.len in
    let spread = rw (c.step-row.ensures.places, level_lent, upright_lent, blocks_lent) at c.spread.ensures in
    ap (λ (map : List ℕ). has_place map (place_of frame x y - (1 + max rule.distance rule.corner_distance) * (64 * frame.words))) back
    ∙ reach-found rule layout c.args.types.now frame c.has_same_types.result found.new.level found.new.upright found.new.blocks c.spread.new.level (c.words_below-below.result * 64) x y
    c.step-row.ensures.frame c.requires.frame types c.has_same_types.ensures (ap (λ m. m * 64) c.words_below-below.ensures.value ∙ omega arith)
    (omega (arith, found.auto.level, ap length c.deref_mut.ensures.value)) (omega (arith, found.auto.upright, ap length c.deref_mut-2.ensures.value)) (omega (arith, found.auto.blocks, ap length c.deref_mut-3.ensures.value))
    (λ n within. level_found n (omega (arith, within, found.auto.level))) (λ n within. upright_found n (omega (arith, within, found.auto.upright)))
    (λ n within some. blocks_found n (omega (arith, within, found.auto.blocks)) some) spread deep
