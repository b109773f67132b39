-- The first touched keys serve again, the others go, and the other pieces get new keys.
use Rattle.mls_stitch.proofs.Laying.{Lays-instead, drop-there}
use Rattle.mls_stitch.proofs.place.place_instead.Goals as goal

pub remove_all-requires-clause-there : goal.remove_all-requires-clause-there
remove_all-requires-clause-there c =
    let first = rw c.split_at.ensures.front at c.place_again.ensures.laid in
    rw c.split_at.ensures.back (drop-there c.args.touched.now c.min-shared.result c.requires.once c.requires.there first.ways)

pub returns-clause-laid : goal.returns-clause-laid
returns-clause-laid c =
    let first = rw (c.split_at.ensures.front, c.split_at-2.ensures.front) at c.place_again.ensures.laid in
    let gone = rw c.split_at.ensures.back at c.remove_all.ensures.gone in
    let rest = rw c.split_at-2.ensures.back at c.place_all.ensures.laid in
    Lays-instead c.args.touched.now c.args.fresh.now c.min-shared.result c.min-shared.ensures c.requires.once c.requires.there first gone rest
