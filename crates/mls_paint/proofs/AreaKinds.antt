-- The kinds of the squares of an area, by the tiles that area search finds there.
use Rattle.std.proofs.Common.{◌≡◌, ℕ, ◌<◌, ◌+◌, ◌==◌, true, false, List, fold, get_or, length, take, eq-eqb, eqb-true, sym, ap, ◌∙◌}
use Rattle.std.proofs.Math.Path.{fun_ext}
use Rattle.std.specs.List.{list_any}
use Rattle.std.proofs.lemmas.Bool.Decides.{same_from_decides}
use Rattle.std.proofs.lemmas.List.Elements.{All-contains}
use Rattle.std.proofs.lemmas.List.Folds.{Any-from_list_any, list_any-from_Any}
use Rattle.std.proofs.lemmas.List.Sums.{fold_more}
use Rattle.mls_kinds.specs.KindSets.{set_of, with_kind}
use Rattle.mls_kinds.proofs.KindSetLemmas.{fold-with_kind, set_of_none}
use Rattle.mls_geom.specs.Pictures.{kinds_in, shows}
use Rattle.mls_geom.specs.Rects.{Rect}
use Rattle.mls_geom.proofs.KindsShown.{ShowsAt, ShowsAt-from_shows, shows-from_ShowsAt, common_square}
use Rattle.mls_tilepool.specs.declared.tile.Tile.{Tile}
use Rattle.mls_stitch.specs.Areas.{AreInArea, IsFound}
use Rattle.mls_stitch.specs.Tilings.{IsPlane, block_at, shown}
use Rattle.mls_stitch.specs.declared.laid_tile.LaidTile.{LaidTile}
use Rattle.mls_stitch.proofs.ShownTiles.{KeysDiffer, shown-inside}

-- a square of each found tile is in the area
shown_there :
    (tiles : List (ℕ × Tile)) (area : Rect) (list : List LaidTile) (kind : ℕ) → IsPlane tiles → KeysDiffer tiles → AreInArea (block_at tiles) area list
    → list_any (λ tile. tile.piece.kind == kind) list ≡ true → ShowsAt (shown tiles) area kind
shown_there tiles area list kind plane differ found h =
    let (k, tile, within, is, same) = Any-from_list_any (λ tile. tile.piece.kind == kind) list h in
    let there = All-contains (IsFound (block_at tiles) area) list tile found.each (k, within, is) in
    let (x, y, in_tile, inside) = common_square tile.piece.rect area there.met in
    (x, y, inside, shown-inside tiles tile.id tile.piece x y plane differ there.laid in_tile ∙ eqb-true tile.piece.kind kind same)

-- and each square of the area is in a found tile
found_there :
    (tiles : List (ℕ × Tile)) (area : Rect) (list : List LaidTile) (kind : ℕ) → IsPlane tiles → KeysDiffer tiles → AreInArea (block_at tiles) area list
    → ShowsAt (shown tiles) area kind → list_any (λ tile. tile.piece.kind == kind) list ≡ true
found_there tiles area list kind plane differ found (x, y, inside, same) =
    let (k, tile, within, is, in_tile) = found.whole x y inside in
    let there = All-contains (IsFound (block_at tiles) area) list tile found.each (k, within, is) in
    list_any-from_Any (λ tile. tile.piece.kind == kind) list
    (k, tile, within, is, eq-eqb tile.piece.kind kind (sym (shown-inside tiles tile.id tile.piece x y plane differ there.laid in_tile) ∙ same))

-- the found tiles have the kinds of the area's squares
list_any-found :
    (tiles : List (ℕ × Tile)) (area : Rect) (list : List LaidTile) (kind : ℕ) → IsPlane tiles → KeysDiffer tiles → AreInArea (block_at tiles) area list
    → list_any (λ tile. tile.piece.kind == kind) list ≡ shows (shown tiles) area kind
list_any-found tiles area list kind plane differ found =
    same_from_decides {P = ShowsAt (shown tiles) area kind} _ _
    (shown_there tiles area list kind plane differ found, found_there tiles area list kind plane differ found)
    (ShowsAt-from_shows (shown tiles) area kind, shows-from_ShowsAt (shown tiles) area kind)

-- the kinds of these tiles, gathered one by one
abbrev pub kinds_of : List LaidTile → ℕ
kinds_of list = fold (λ set tile. with_kind set tile.piece.kind) 0 list

-- are the kinds in the area
pub kinds_of-found :
    (tiles : List (ℕ × Tile)) (area : Rect) (list : List LaidTile) → IsPlane tiles → KeysDiffer tiles → AreInArea (block_at tiles) area list → kinds_of list ≡ kinds_in (shown tiles) area
unfolding kinds_in
kinds_of-found tiles area list plane differ found =
    ap (λ set. fold (λ set tile. with_kind set tile.piece.kind) set list) set_of_none
    ∙ fold-with_kind (λ (tile : LaidTile). tile.piece.kind) (λ _. false) list
    ∙ ap set_of (fun_ext (λ kind. list_any-found tiles area list kind plane differ found))

-- the kind of the next tile is put in
pub kinds_of_more :
    (list : List LaidTile) (i kinds new : ℕ) (tile : LaidTile) → i < length list → tile ≡ get_or list i tile → kinds ≡ kinds_of (take i list)
    → new ≡ with_kind kinds tile.piece.kind → new ≡ kinds_of (take (i + 1) list)
kinds_of_more list i kinds new tile within next so_far put =
    put ∙ ap (λ set. with_kind set tile.piece.kind) so_far ∙ ap (λ t. with_kind (kinds_of (take i list)) t.piece.kind) next
    ∙ sym (fold_more (λ set tile. with_kind set tile.piece.kind) 0 list i tile within)
