-- Tiles of a zone made of pieces that leave no square of it out.
use Rattle.std.proofs.Common.{◌≡◌, ◌+◌, true, inl, inr, List, [], ◌++◌, get_or, map, sym, ap, subst, ◌∙◌, arith}
use Rattle.std.proofs.lemmas.Bool.{and_from, cases_Bool}
use Rattle.std.proofs.lemmas.List.Elements.{All-append, All-map}
use Rattle.mls_geom.specs.Pictures.{Picture}
use Rattle.mls_geom.specs.Rects.{Rect, IsRectangleIn, common, holds}
use Rattle.mls_geom.specs.declared.piece.Piece.{Piece}
use Rattle.mls_geom.proofs.Ascending.{Contains-map}
use Rattle.mls_geom.proofs.Holds.{holds_common}
use Rattle.mls_geom.proofs.JoinedLists.{Any-append_left, Any-append_right}
use Rattle.mls_layout.specs.Grids.{AppendsCover, CoverBlock}
use Rattle.mls_checker.specs.FlatZones.{piece_tiles}
use Rattle.mls_checker.specs.Tiles.{AreTiles, HasTile, IsAmid, Tile, clipped_tile, space_round}
use Rattle.mls_checker.proofs.Copying.{cut}
use Rattle.mls_checker.proofs.ZoneTiles.{InExtent, clipped-shown, outside_in_space, space-bounded, space-shown}

-- a piece in the zone stays in the extent
inner-bounded : (extent zone rect : Rect) → IsAmid extent zone → IsRectangleIn zone rect → IsRectangleIn extent (common rect zone)
inner-bounded extent zone rect amid legal = record {
  left_in = omega (arith, amid.left);
  wide = omega (arith, legal.left_in, legal.wide, legal.right_in);
  right_in = omega (arith, amid.right);
  bottom_in = omega (arith, amid.below);
  tall = omega (arith, legal.bottom_in, legal.tall, legal.top_in);
  top_in = omega (arith, amid.above);
}

-- pieces that leave no square of the zone out, and space round it are tiles of what the picture has in the zone
pub pieces-AreTiles :
    (extent zone : Rect) (picture : Picture) (pieces : List Piece) → IsAmid extent zone → CoverBlock zone picture pieces
    → AreTiles extent (cut picture zone) (piece_tiles extent zone pieces)
pieces-AreTiles extent zone picture pieces amid cover =
    let clip : Piece → Tile = clipped_tile zone in
    record {
      bounded = All-append (InExtent extent) (space_round extent zone) (map clip pieces) (space-bounded extent zone amid)
          (All-map (InExtent extent) clip pieces (λ k piece within. inner-bounded extent zone (get_or pieces k piece).rect amid (cover.bounded k piece within)));
      shown = All-append (HasTile (cut picture zone)) (space_round extent zone) (map clip pieces) (space-shown picture extent zone)
          (All-map (HasTile (cut picture zone)) clip pieces (λ k piece within. clipped-shown picture zone (get_or pieces k piece) (cover.shown k piece within)));
      whole = λ x y inside. elim (cases_Bool (holds zone x y)) [
        | inl here ↦ (let (k, piece, within, is, in_piece) = cover.whole x y here in
            let listed = Contains-map clip pieces piece (k, within, is) in
            Any-append_right (λ tile. holds tile.area x y ≡ true) (space_round extent zone) (map clip pieces)
            (listed.0, clip piece, listed.1, listed.2, holds_common piece.rect zone x y ∙ and_from (holds piece.rect x y) (holds zone x y) in_piece here))
        | inr outside ↦ Any-append_left (λ tile. holds tile.area x y ≡ true) (space_round extent zone) (map clip pieces) (outside_in_space extent zone x y inside outside)
      ];
    }

-- pieces appended to none
pub AppendsCover-none : (zone : Rect) (picture : Picture) (old new : List Piece) → old ≡ [] → AppendsCover zone picture old new → CoverBlock zone picture new
AppendsCover-none zone picture old new none (more, is, cover) =
    subst (CoverBlock zone picture) (sym (is ∙ ap (λ (pieces : List Piece). pieces ++ more) none)) cover
