-- The pieces are in order, so the search finds the piece if it is one of them.
use Rattle.std.proofs.Common.{length, Contains, rules, sym, ◌∙◌}
use Rattle.std.proofs.lemmas.Bool.Decides.{Decides-ltb, same_from_decides}
use Rattle.std.proofs.lemmas.List.Sorted.{IsPartitionPoint-from_clause}
use Rattle.mls_geom.specs.Strips.{comes_before}
use Rattle.mls_geom.specs.declared.piece.Piece.{Piece}
use Rattle.mls_paint.proofs.ChangedTiles.{is_among-Decides}
use Rattle.mls_paint.proofs.ReadPieces.{read-Decides}
use Rattle.mls_paint.proofs.SortedPieces.{IsPartitionedBy-ordered, first_is}
use Rattle.mls_paint.proofs.changes.is_among.Goals as goal

pub returns : goal.returns
returns c =
    let pieces = c.args.pieces.now in
    let piece = c.args.piece.now in
    let before = c.partition_point-before.result in
    let order = c.requires in
    let parted =
    IsPartitionPoint-from_clause (λ (other : Piece). comes_before other piece) pieces before c.partition_point-before.ensures.partitioned (IsPartitionedBy-ordered pieces piece order)
    (λ other reached f called. search rules) in
    let lookup = c.get-2.ensures.lookup in
    let read =
    read-Decides pieces before c.get-2.result c.args.piece (λ some. (Decides-ltb before (length pieces)).0 (sym lookup.0 ∙ some)) lookup.2 lookup.1 in
    same_from_decides {P = Contains pieces piece} c.eq-2.result _ (
      λ same. let (inside, is) = read.0 (sym c.eq-2.ensures ∙ same) in (before, inside, is),
      λ there. c.eq-2.ensures ∙ read.1 (first_is pieces piece before order parted.0 parted.1 there),
    )
    (is_among-Decides pieces piece)
