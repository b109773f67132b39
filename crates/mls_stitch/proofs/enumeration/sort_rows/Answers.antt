-- None comes before an earlier one.
use Rattle.std.proofs.Common.{rules}
use Rattle.std.proofs.lemmas.Fn.{always_returns_same}
use Rattle.mls_stitch.proofs.FoundTiles.{none_first, place_of}
use Rattle.mls_stitch.proofs.enumeration.sort_rows.Goals as goal

pub returns-clause-sorted : goal.returns-clause-sorted
returns-clause-sorted c =
    let list = c.sort_unstable_by_key.new.self.items in
    none_first c.args.area list (c.sort_unstable_by_key.ensures.sorted (place_of c.args.area) (always_returns_same _ _ _ (λ a r f k. search rules)))
