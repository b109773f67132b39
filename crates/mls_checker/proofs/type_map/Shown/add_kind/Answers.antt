use Rattle.std.proofs.Common.{◌||◌, ◌/◌, ◌%◌, ℕ, ap, ◌∙◌, arith}
use Rattle.mls_kinds.specs.KindSets.{has_bit}
use Rattle.mls_checker.specs.Copies.{copied_layout}
use Rattle.mls_checker.specs.Maps.{has_place, place_of}
use Rattle.mls_checker.proofs.TypeMaps.{one-kind}
use Rattle.mls_checker.proofs.type_map.Shown.add_kind.Goals as goal

pub join-requires : goal.join-requires
join-requires c =
    let known = c.in-Some.ensures c.args.self.now.frame (copied_layout c.args.self.now.snapshot.now) c.requires.kept in
    omega (arith, c.requires.size, known.size)

pub returns-in-Some : goal.returns-in-Some
returns-in-Some c x y here =
    let frame = c.args.self.now.frame in
    let layout = copied_layout c.args.self.now.snapshot.now in
    let kind = layout c.args.plane x y in
    let n = place_of frame x y in
    let known = c.in-Some.ensures frame layout c.requires.kept in
    c.join.ensures (n / 64) (n % 64) ∙ ap (λ b. has_place c.args.map.now n || b)
    (known.shows x y here ∙ ap (λ (set : ℕ). has_bit set kind) c.single-types.ensures ∙ one-kind c.args.kind kind c.requires.below)

pub returns-in-None : goal.returns-in-None
returns-in-None c x y here =
    let kind = copied_layout c.args.self.now.snapshot.now c.args.plane x y in
    c.add_tiles.ensures x y here ∙ ap (λ b. has_place c.args.map.now (place_of c.args.self.now.frame x y) || b)
    (ap (λ (set : ℕ). has_bit set kind) c.single-types.ensures ∙ one-kind c.args.kind kind c.requires.below)
