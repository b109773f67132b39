use Rattle.std.proofs.Common.{◌∷◌, ◌++◌, ◌∙◌, [], length, Some, None, Vec, Global, vec_capacity, ap, sym, arith, take, filter_map, append-nil, length-take}
use Rattle.mls_errorplane.specs.Common.{Piece, world}
use Rattle.mls_errorplane.specs.ErrorsIn.{marked_part}
use Rattle.mls_errorplane.proofs.ErrorsIn.{filter_map-few, filter_map-more}
use Rattle.mls_errorplane.proofs.errors_in.list_parts.Goals as goal
use Rattle.mls_errorplane.proofs.errors_in.list_parts.Goals.{in-Some, in_default}

pub push_reserved-requires-in-Some : goal.push_reserved-requires-in-Some
push_reserved-requires-in-Some c =
    omega (
      arith,
      c.loop-tile.pieces.ok.0,
      ap length c.loop-tile.invariant.pieces,
      filter_map-few (marked_part c.args.rect) (take c.loop-tile.tile-index c.args.tiles.now),
      length-take c.loop-tile.tile-index c.args.tiles.now,
      c.loop-tile-test.true,
      c.loop-tile.invariant.room,
      c.requires.room,
    )

pub loop-tile-preserved : goal.loop-tile-preserved
loop-tile-preserved c =
    let space : Piece = record { rect = world; kind = 0 } in
    let h = marked_part c.args.rect in
    let i = c.loop-tile.tile-index in
    elim c.match-marked_part.branch [
      | in-Some w ↦ record {
        pieces = ap (λ (list : Vec Piece Global). list.items) w.pieces-is ∙ w.push_reserved-in-Some.ensures.items
            ∙ ap (λ list. list ++ w.in-Some.piece ∷ []) c.loop-tile.invariant.pieces
            ∙ ap (λ list. space ∷ list) (sym (filter_map-more h c.args.tiles.now i c.tile-item.result (Some w.in-Some.piece) c.loop-tile-test.true c.tile-item.is (sym w.in-Some.is ∙ c.marked_part.ensures)));
        room = ap (λ (list : Vec Piece Global). vec_capacity list) w.pieces-is ∙ w.push_reserved-in-Some.ensures.capacity ∙ c.loop-tile.invariant.room;
      }
      | in_default w ↦ record {
        pieces = ap (λ (list : Vec Piece Global). list.items) w.pieces-is ∙ c.loop-tile.invariant.pieces
            ∙ ap (λ list. space ∷ list) (sym (append-nil (filter_map h (take i c.args.tiles.now)))
            ∙ sym (filter_map-more h c.args.tiles.now i c.tile-item.result None c.loop-tile-test.true c.tile-item.is (sym w.in_default.is ∙ c.marked_part.ensures)));
        room = ap (λ (list : Vec Piece Global). vec_capacity list) w.pieces-is ∙ c.loop-tile.invariant.room;
      }
    ]
