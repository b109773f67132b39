-- the squares of the area lie in the tile, whose kind the rule allows
use Rattle.std.proofs.Common.{◌≡◌, true, rules}
use Rattle.mls_geom.specs.Rects.{holds}
use Rattle.mls_geom.proofs.Holds.{holds-IsWithin}
use Rattle.mls_checker.proofs.idle.is_allowed_by.Goals as goal

pub returns-then-is_of : goal.returns-then-is_of
returns-then-is_of c = λ is x y inside.
    let here : holds c.tile.inside.area x y ≡ true = holds-IsWithin c.tile.inside.area c.args.area.now x y (c.encloses.ensures.0 is) inside in
    search rules
