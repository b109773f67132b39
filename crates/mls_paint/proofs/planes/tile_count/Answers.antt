use Rattle.std.proofs.Common.{sym, ap, ◌∙◌}
use Rattle.std.proofs.lemmas.List.{length-map}
use Rattle.mls_geom.proofs.UnorderedStrips.{unordered_strips_number}
use Rattle.mls_tilepool.specs.Pools.{count_of, tiles_of}
use Rattle.mls_stitch.specs.Tilings.{block_of}
use Rattle.mls_paint.proofs.planes.tile_count.Goals as goal

pub returns : goal.returns
returns c =
    let tiles = tiles_of c.args.pool.now c.args.plane.now in
    c.count.ensures.value ∙ ap (count_of c.args.pool.now) c.owner.ensures ∙ sym (length-map tiles (λ entry. block_of tiles entry.1))
    ∙ unordered_strips_number _ _ _ c.requires.maximal
