-- The tiles are sorted, so those beside a count tell whether it is right, and the search parts them at the place.
use Rattle.std.proofs.Common.{◌≡◌, nat_le, rules, ap, ◌∙◌, arith}
use Rattle.mls_stitch.proofs.Common.{IsPartitionPoint-from_clause, LaidTile}
use Rattle.mls_stitch.specs.Lookups.{place_beyond, place_of, rank_of, start_of}
use Rattle.mls_stitch.proofs.TilesBeyond.{BeginUpTo-found, IsPartitionedBy-sorted}
use Rattle.mls_stitch.proofs.lookup.count_beyond.Goals.{else-count-entries-via-then-count-entries+else-start-place, else-count-entries-via-else-count-entries, else-count-gt0-via-then-count-gt0+else-start-place-2, else-count-gt0-via-else-count-gt0}
use Rattle.mls_stitch.proofs.lookup.count_beyond.Goals as goal

pub returns-else-count-gt0 : goal.returns-else-count-gt0
returns-else-count-gt0 c =
    let stitch = c.args.stitch in
    let entries = c.args.entries.now in
    let place : c.rank-place.result ≡ rank_of (place_beyond stitch c.args.tile.now.piece.rect) =
    c.rank-place.ensures ∙ ap (λ square. rank_of (place_of stitch (record { x = square.0; y = square.1 }))) c.beyond-column.ensures in
    BeginUpTo-found stitch c.args.tile.now.piece.rect entries c.loop.count c.requires c.loop.invariant
    (λ some. elim c.else-count-gt0.branch [
      | else-count-gt0-via-then-count-gt0+else-start-place-2 w ↦
          (w.index-entries-count-then-count-gt0.result, w.index-entries-count-then-count-gt0.is, omega (arith, w.if-start-place-2.false, w.start-then-count-gt0.ensures, place))
      | else-count-gt0-via-else-count-gt0 w ↦ absurd (omega (arith, some, w.if-count-gt0.false))
    ])
    (λ more. elim c.else-count-entries.branch [
      | else-count-entries-via-then-count-entries+else-start-place w ↦
          (w.index-entries-count.result, w.index-entries-count.is, omega (arith, w.if-start-place.false, w.start.ensures, place))
      | else-count-entries-via-else-count-entries w ↦ absurd (omega (arith, more, w.if-count-entries.false))
    ])

pub returns : goal.returns
returns c =
    let stitch = c.args.stitch in
    let entries = c.args.entries.now in
    let place : c.rank-place.result ≡ rank_of (place_beyond stitch c.args.tile.now.piece.rect) =
    c.rank-place.ensures ∙ ap (λ square. rank_of (place_of stitch (record { x = square.0; y = square.1 }))) c.beyond-column.ensures in
    let parted = IsPartitionPoint-from_clause (λ (entry : LaidTile). nat_le (rank_of (start_of stitch entry.piece.rect)) c.rank-place.result) entries _ c.partition_point.ensures.partitioned
    (IsPartitionedBy-sorted stitch c.rank-place.result entries c.requires) (λ entry reached f called. search rules) in
    record { bound = c.partition_point.ensures.bound; before = rw place at parted.0; after = rw place at parted.1 }
