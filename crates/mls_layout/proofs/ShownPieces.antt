-- Pieces that leave no square of a picture out show the picture, where that has nothing outside.
use Rattle.std.proofs.Common.{◌≡◌, ℕ, false, List, [], ◌++◌, ⊎_elim, sym, ap, subst, ◌∙◌}
use Rattle.std.proofs.Math.Path.{fun_ext}
use Rattle.std.proofs.lemmas.Bool.{cases_Bool}
use Rattle.mls_geom.specs.Pictures.{Picture, empty_picture, picture_of}
use Rattle.mls_geom.specs.Rects.{Rect, holds}
use Rattle.mls_geom.specs.World.{world}
use Rattle.mls_geom.specs.declared.piece.Piece.{Piece}
use Rattle.mls_geom.proofs.Overlays.{overlaid_agreed}
use Rattle.mls_geom.proofs.PiecePictures.{space_outside}
use Rattle.mls_tilepool.specs.Pools.{Pool, tiles_of}
use Rattle.mls_stitch.specs.Tilings.{HasPlane}
use Rattle.mls_stitch.proofs.ShownTiles.{KeysDiffer-tiles_of, shown-outside}
use Rattle.mls_paint.specs.Planes.{picture_in}
use Rattle.mls_layout.specs.Grids.{AppendsCover, CoverBlock}
use Rattle.mls_layout.specs.Uses.{cell_layouts, flat_plane, uses_layout}
use Rattle.mls_layout.specs.declared.uses.Uses.{Uses}
use Rattle.mls_layout.proofs.FlatLayouts.{over-space, uses_layout-outside}

-- pieces of all squares of an extent
picture_of-cover :
    (extent : Rect) (picture : Picture) (pieces : List Piece) → CoverBlock extent picture pieces → ((x y : ℕ) → holds extent x y ≡ false → picture x y ≡ 0)
    → picture_of pieces ≡ picture
picture_of-cover extent picture pieces cover empty = fun_ext (λ x. fun_ext (λ y. ⊎_elim
    (λ inside. overlaid_agreed empty_picture pieces x y (picture x y) (λ k d within here. sym (cover.shown k d within x y here)) (cover.whole x y inside))
    (λ outside. space_outside extent pieces x y cover.bounded outside ∙ sym (empty x y outside)) (cases_Bool (holds extent x y))))

-- pieces that were appended to none are all of them
cover-appended : (extent : Rect) (picture : Picture) (old new : List Piece) → old ≡ [] → AppendsCover extent picture old new → CoverBlock extent picture new
cover-appended extent picture old new none (more, is, cover) =
    subst (CoverBlock extent picture) (sym (is ∙ ap (λ (list : List Piece). list ++ more) none)) cover

module _ (pool : Pool) (owner : ℕ) (uses : Uses) (number : ℕ) where
  -- a plane shows nothing outside the world, also with uses
  flat_plane-outside : (x y : ℕ) → HasPlane pool owner → holds world x y ≡ false → flat_plane pool uses number owner x y ≡ 0
  flat_plane-outside x y plane outside =
      over-space (picture_in pool owner) (uses_layout (cell_layouts pool uses.library.now) uses.list.now number) x y
      (uses_layout-outside (cell_layouts pool uses.library.now) uses.list.now number x y outside)
      ∙ shown-outside (tiles_of pool owner) x y plane.plane (KeysDiffer-tiles_of pool owner) outside

  -- so its pieces of the world show what it does
  pub picture_of-appended :
      (old new : List Piece) → HasPlane pool owner → old ≡ [] → AppendsCover world (flat_plane pool uses number owner) old new
      → picture_of new ≡ flat_plane pool uses number owner
  picture_of-appended old new plane none appended =
      picture_of-cover world (flat_plane pool uses number owner) new (cover-appended world (flat_plane pool uses number owner) old new none appended)
      (λ x y outside. flat_plane-outside x y plane outside)
