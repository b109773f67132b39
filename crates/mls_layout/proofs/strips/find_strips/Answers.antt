use Rattle.std.proofs.Common.{◌∙◌}
use Rattle.mls_geom.specs.Pictures.{picture_of}
use Rattle.mls_geom.specs.World.{world}
use Rattle.mls_geom.proofs.StripLists.{strips_are_listed}
use Rattle.mls_layout.proofs.strips.find_strips.Goals as goal

pub returns-clause-strips : goal.returns-clause-strips
returns-clause-strips c =
    c.in_ok-from_slice.ensures.items ∙ c.strips-2.ensures ∙ strips_are_listed world (picture_of c.args.pieces.now) c.strips.new.scratch.strips c.in_ok-strips.ensures.strips
