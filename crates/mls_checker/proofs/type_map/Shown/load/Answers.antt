use Rattle.std.proofs.Common.{◌∙◌, ℕ, List, ap, arith}
use Rattle.mls_checker.specs.Copies.{copied_layout}
use Rattle.mls_checker.specs.Maps.{has_place, place_of}
use Rattle.mls_checker.proofs.type_map.Shown.load.Goals as goal

pub copy_from_slice-requires : goal.copy_from_slice-requires
copy_from_slice-requires c =
    let known = c.in-Some.ensures c.args.self.now.frame (copied_layout c.args.self.now.snapshot.now) c.requires.kept in
    omega (arith, c.requires.size, known.size)

pub returns-in-Some : goal.returns-in-Some
returns-in-Some c x y here =
    let known = c.in-Some.ensures c.args.self.now.frame (copied_layout c.args.self.now.snapshot.now) c.requires.kept in
    ap (λ (words : List ℕ). has_place words (place_of c.args.self.now.frame x y)) c.copy_from_slice.ensures.after ∙ known.shows x y here ∙ c.shown_of-shown.ensures x y
