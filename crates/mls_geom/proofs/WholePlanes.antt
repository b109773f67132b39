-- Pieces laid on one piece of space, which is the whole extent, show in it what they show on an empty plane. So all its squares are covered,
-- and the covered strips are all strips.
use Rattle.mls_geom.proofs.Common.{◌≡◌, ◌≢◌, ℕ, ◌<◌, true, List, [], ◌∷◌, ◌++◌, arith, All-tail}
use Rattle.mls_geom.proofs.Definitions.{AreCoveredStrips, HaveKinds, covered_count, laid, uncovered, empty_picture, overlaid, painted, picture_of, Rect, holds, AreStrips, tile_count, Piece}
use Rattle.mls_geom.proofs.CoveredCounts.{tile_count-window}
use Rattle.mls_geom.proofs.CoveredStrips.{IsStrip-shown, IsWindow}
use Rattle.mls_geom.proofs.Overlays.{overlaid-at, overlaid_append, painted_inside}
use Rattle.mls_geom.proofs.TouchedStrips.{overlaid_known}

-- the extent as one piece of space
abbrev pub space : Rect → Piece
space extent = record { rect = extent; kind = 0 }

module _ (extent : Rect) (pieces : List Piece) (kinds : HaveKinds pieces) where
  shown_on_space : (x y : ℕ) → holds extent x y ≡ true → laid (space extent ∷ pieces) x y ≡ picture_of pieces x y
  shown_on_space x y inside =
      overlaid-at (painted (λ _ _. uncovered) (space extent)) empty_picture pieces x y (painted_inside (λ _ _. uncovered) (space extent) x y inside)

  covered_on_space : (x y : ℕ) → holds extent x y ≡ true → laid (space extent ∷ pieces) x y ≢ uncovered
  covered_on_space x y inside none = omega (arith, none, shown_on_space x y inside, overlaid_known empty_picture pieces x y kinds (omega arith))

  IsWindow-space : IsWindow extent (picture_of pieces) (laid (space extent ∷ pieces)) []
  IsWindow-space = record {
    strips = λ k d within. absurd (omega arith);
    under = λ k d within. absurd (omega arith);
    whole = λ x y inside none. absurd (covered_on_space x y inside none);
    shows = λ x y inside _. shown_on_space x y inside;
  }

  pub AreStrips-on_space : (list : List Piece) → AreCoveredStrips extent (laid (space extent ∷ pieces)) list → AreStrips extent (picture_of pieces) list
  AreStrips-on_space list strips = record {
    each = λ k d within. IsStrip-shown IsWindow-space (strips.each k d within).1 (strips.each k d within).0;
    whole = λ x y inside. strips.whole x y inside (covered_on_space x y inside);
    ordered = strips.ordered;
  }

  pub tile_count-on_space : tile_count extent (picture_of pieces) ≡ covered_count extent (laid (space extent ∷ pieces))
  tile_count-on_space =
      let count = tile_count-window extent (picture_of pieces) (laid (space extent ∷ pieces)) [] IsWindow-space (λ i j d before within. absurd (omega arith)) in
      omega (arith, count)

-- the same of the pieces of a cover and those over it, as they are listed
module _
    (extent : Rect) (listed cover over : List Piece) (is : listed ≡ space extent ∷ cover ++ over) (kinds : HaveKinds listed) where
  known_kinds : HaveKinds (cover ++ over)
  known_kinds = All-tail (λ p. p.kind < uncovered) (space extent) (cover ++ over) (rw is at kinds)

  pub AreStrips-listed : (list : List Piece) → AreCoveredStrips extent (laid listed) list → AreStrips extent (overlaid (picture_of cover) over) list
  AreStrips-listed list strips = rw (← overlaid_append empty_picture cover over) (AreStrips-on_space extent (cover ++ over) known_kinds list (rw is at strips))

  pub tile_count-listed : tile_count extent (overlaid (picture_of cover) over) ≡ covered_count extent (laid listed)
  tile_count-listed = rw (← overlaid_append empty_picture cover over, is) (tile_count-on_space extent (cover ++ over) known_kinds)
