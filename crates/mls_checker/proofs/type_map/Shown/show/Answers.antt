use Rattle.std.proofs.Common.{◌||◌, not, sym, ap, ◌∙◌, arith}
use Rattle.mls_kinds.specs.KindSets.{has_bit}
use Rattle.mls_checker.specs.Copies.{copied_layout}
use Rattle.mls_checker.specs.Maps.{place_of}
use Rattle.mls_checker.proofs.MapFrames.{place-in}
use Rattle.mls_checker.proofs.type_map.Shown.show.Goals as goal

pub returns-in-Some : goal.returns-in-Some
returns-in-Some c x y here =
    let frame = c.args.self.now.frame in
    let kind = copied_layout c.args.self.now.snapshot.now c.args.plane x y in
    let n = place_of frame x y in
    c.invert.ensures n (omega (arith, place-in frame x y here, c.requires.size, c.add_types.auto.map))
    ∙ ap not (c.add_types.ensures x y here ∙ ap (λ b. b || has_bit c.in-Some.others kind) (c.requires.empty n))
    ∙ sym (c.in-Some.ensures x y)

pub returns-in-None : goal.returns-in-None
returns-in-None c x y here =
    let kind = copied_layout c.args.self.now.snapshot.now c.args.plane x y in
    c.add_types-in-None.ensures x y here ∙ ap (λ b. b || has_bit c.args.types kind) (c.requires.empty (place_of c.args.self.now.frame x y))
