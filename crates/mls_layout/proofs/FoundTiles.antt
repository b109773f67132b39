-- Tiles that a search found on a plane show what the plane does, also where they are moved.
use Rattle.std.proofs.Common.{◌≡◌, ◌≢◌, ℕ, ℤ, pos, negsuc, ◌+ℤ◌, ◌-ℤ◌, ◌==◌, eqb-true, Bool, true, false, Some, None, List, get_or, refl, sym, ap, ◌∙◌, arith}
use Rattle.std.specs.List.{All}
use Rattle.std.proofs.lemmas.Bool.{true≢false}
use Rattle.std.proofs.lemmas.Int.{ints}
use Rattle.mls_geom.specs.Rects.{Rect, holds}
use Rattle.mls_geom.specs.World.{world}
use Rattle.mls_tilepool.specs.Pools.{Pool, tiles_of}
use Rattle.mls_stitch.specs.Areas.{MeetArea}
use Rattle.mls_stitch.specs.Tilings.{HasPlane, block_at}
use Rattle.mls_stitch.specs.declared.laid_tile.LaidTile.{LaidTile}
use Rattle.mls_stitch.proofs.ShownTiles.{KeysDiffer-tiles_of, shown-inside, shown-outside}
use Rattle.mls_paint.specs.Planes.{picture_in}
use Rattle.mls_layout.specs.Inner.{ShowMoved}
use Rattle.mls_layout.specs.Grids.{Shows}
use Rattle.mls_layout.specs.Moves.{IsPartOf, holds_at, kind_or_space, moved_picture, moves_into}

module _ (pool : Pool) (owner : ℕ) (plane : HasPlane pool owner) where
  -- each tile that was found shows what the plane does
  pub found-Shows : (area : Rect) (found : List LaidTile) → MeetArea (block_at (tiles_of pool owner)) area found → All (λ tile. Shows (picture_in pool owner) tile.piece) found
  found-Shows area found are k d within x y inside =
      let tile = get_or found k d in
      shown-inside (tiles_of pool owner) tile.id tile.piece x y plane.plane (KeysDiffer-tiles_of pool owner) (are.each k d within).laid inside

  -- the world has each square that isn't space
  in_world : (a b : ℕ) → picture_in pool owner a b ≢ 0 → holds world a b ≡ true
  in_world a b some = by (holds world a b) refl
    where
      by : (inside : Bool) → holds world a b ≡ inside → inside ≡ true
      by true at = refl
      by false at = absurd (some (shown-outside (tiles_of pool owner) a b plane.plane (KeysDiffer-tiles_of pool owner) at))

  module _ (dx dy : ℤ) (block : Rect) where
    back : (x a : ℕ) (d : ℤ) → pos x -ℤ d ≡ pos a → pos a +ℤ d ≡ pos x
    back x a d at = omega (arith, ints, at)

    -- a square of the block that shows something, moved, is one of the world that moves into the block
    comes_from :
        (x y : ℕ) (zx zy : ℤ) → pos x -ℤ dx ≡ zx → pos y -ℤ dy ≡ zy → holds block x y ≡ true → kind_or_space (picture_in pool owner) zx zy ≢ 0
        → (a : ℕ) × (b : ℕ) × (zx ≡ pos a) × (zy ≡ pos b) × (holds world a b ≡ true) × (moves_into block dx dy a b ≡ true)
    comes_from x y (pos a) (pos b) column row inside some =
        (a, b, refl, refl, in_world a b some, ap (λ (z : ℤ). holds_at block z (pos b +ℤ dy)) (back x a dx column) ∙ ap (holds_at block (pos x)) (back y b dy row) ∙ inside)
    comes_from x y (pos a) (negsuc b) column row inside some = absurd (some refl)
    comes_from x y (negsuc a) zy column row inside some = absurd (some refl)

    -- so the tiles found where the block comes from show it
    pub ShowMoved-found :
        (area : Rect) (found : List LaidTile) → IsPartOf world (moves_into block dx dy) (Some area) → MeetArea (block_at (tiles_of pool owner)) area found
        → ShowMoved (picture_in pool owner) dx dy block found
    unfolding moved_picture
    ShowMoved-found area found part are = record {
      each = found-Shows area found are;
      whole = λ x y inside some.
          let (a, b, column, row, there, into) = comes_from x y (pos x -ℤ dx) (pos y -ℤ dy) refl refl inside some in
          let (k, tile, within, is, in_tile) = are.whole a b (part.1 a b there ∙ into) in
          (k, tile, within, is, ap (λ (z : ℤ). holds_at tile.piece.rect z (pos y -ℤ dy)) column ∙ ap (holds_at tile.piece.rect (pos a)) row ∙ in_tile);
    }

    -- and where it comes from nowhere in the world, nothing is shown in it
    pub moved-nowhere :
        IsPartOf world (moves_into block dx dy) None → (x y : ℕ) → holds block x y ≡ true → moved_picture (picture_in pool owner) dx dy x y ≡ 0
    unfolding moved_picture
    moved-nowhere none x y inside = by (pos x -ℤ dx) (pos y -ℤ dy) refl refl
      where
        by : (zx zy : ℤ) → pos x -ℤ dx ≡ zx → pos y -ℤ dy ≡ zy → kind_or_space (picture_in pool owner) zx zy ≡ 0
        by (pos a) (pos b) column row = is_space (picture_in pool owner a b == 0) refl
          where
            is_space : (zero : Bool) → (picture_in pool owner a b == 0) ≡ zero → picture_in pool owner a b ≡ 0
            is_space true at = eqb-true (picture_in pool owner a b) 0 at
            is_space false at =
                let (u, v, is_u, is_v, there, into) = comes_from x y (pos a) (pos b) column row inside (λ space. true≢false (sym (ap (λ (kind : ℕ). kind == 0) space) ∙ at)) in
                absurd (true≢false (sym into ∙ none u v there))
        by (pos a) (negsuc b) column row = refl
        by (negsuc a) zy column row = refl

  -- ---- where nothing is moved
  minus-zero : (x : ℕ) → pos x -ℤ pos 0 ≡ pos x
  minus-zero x = omega (arith, ints)

  pub moved-zero : (x y : ℕ) → moved_picture (picture_in pool owner) (pos 0) (pos 0) x y ≡ picture_in pool owner x y
  unfolding moved_picture
  moved-zero x y = ap (λ (z : ℤ). kind_or_space (picture_in pool owner) z (pos y -ℤ pos 0)) (minus-zero x) ∙ ap (kind_or_space (picture_in pool owner) (pos x)) (minus-zero y)

  pub ShowMoved-here :
      (block : Rect) (found : List LaidTile) → MeetArea (block_at (tiles_of pool owner)) block found → ShowMoved (picture_in pool owner) (pos 0) (pos 0) block found
  ShowMoved-here block found are = record {
    each = found-Shows block found are;
    whole = λ x y inside some.
        let (k, tile, within, is, in_tile) = are.whole x y inside in
        (k, tile, within, is, ap (λ (z : ℤ). holds_at tile.piece.rect z (pos y -ℤ pos 0)) (minus-zero x) ∙ ap (holds_at tile.piece.rect (pos x)) (minus-zero y) ∙ in_tile);
  }
