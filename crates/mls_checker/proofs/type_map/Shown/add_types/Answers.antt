use Rattle.std.proofs.Common.{◌≡◌, ◌||◌, ◌&&◌, nat_lt, ap, ◌∙◌, arith, rules}
use Rattle.mls_kinds.specs.KindSets.{has_bit}
use Rattle.mls_checker.specs.Copies.{copied_layout}
use Rattle.mls_checker.specs.Maps.{has_place, place_of}
use Rattle.mls_checker.proofs.TypeMaps.{all-kinds}
use Rattle.mls_checker.proofs.type_map.Shown.add_types.Goals as goal

pub returns : goal.returns
returns c x y here =
    let kind = copied_layout c.args.self.now.snapshot.now c.args.plane x y in
    let old = has_place c.args.map.now (place_of c.args.self.now.frame x y) in
    let end : c.loop-number.number ≡ 64 = omega arith in
    c.loop-number.invariant x y here ∙ ap (λ n. old || (nat_lt kind n && has_bit c.args.types kind)) end
    ∙ ap (λ b. old || b) (all-kinds c.args.types kind (search rules))
