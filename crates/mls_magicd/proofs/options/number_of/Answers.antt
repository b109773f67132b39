use Rattle.std.proofs.Common.{None, Some, refl}
use Rattle.clap.specs.Words.{found_of}
use Rattle.mls_magicd.proofs.NumberLemmas.{found-number}
use Rattle.mls_magicd.specs.CommandLines.{ranged_option}
use Rattle.mls_magicd.proofs.options.number_of.Goals as goal

pub returns-in-Some : goal.returns-in-Some
returns-in-Some g c fits =
    found-number (ranged_option c.args.name.now g.row.LEAST g.row.MOST g.row.DEFAULT) (Some c.in-Some.number) c.new.result _ c.new.ensures c.unwrap_or_default.ensures
    (found_of c.args.matches.now) c.in-Some.ensures.none c.in-Some.ensures.value fits

pub returns-in-None : goal.returns-in-None
returns-in-None g c fits =
    found-number (ranged_option c.args.name.now g.row.LEAST g.row.MOST g.row.DEFAULT) None None _ refl c.default.ensures
    (found_of c.args.matches.now) c.in-None.ensures.none c.in-None.ensures.value fits
