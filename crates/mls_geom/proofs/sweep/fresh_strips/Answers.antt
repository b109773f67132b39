use Rattle.std.proofs.Common.{◌≡◌, ℕ, ◌+◌, ◌++◌, List, length, ap, subst, arith}
use Rattle.mls_geom.proofs.Definitions.{AreCoveredStrips, AreUnorderedStrips, AreUntouched, HaveKinds, covered_count, laid, overlaid, IsRectangleIn, tile_count, AreLegal, world, Piece}
use Rattle.mls_geom.proofs.CoveredCounts.{covered_strips_number, fresh_strips_number}
use Rattle.mls_geom.proofs.ListLemmas.{All-append_right}
use Rattle.mls_geom.proofs.StripPictures.{IsRectangleIn-IsStrip}
use Rattle.mls_geom.proofs.TouchedStrips.{touched_strips_give_way}
use Rattle.mls_geom.proofs.sweep.fresh_strips.Goals as goal

abbrev IsLegal : Piece → Type 0
IsLegal piece = IsRectangleIn world piece.rect

-- what the strips number beside those that stay
number :
    (pieces : List Piece) → HaveKinds pieces → AreLegal pieces → (below : ℕ → ℕ → ℕ) (kept touched over : List Piece) → pieces ≡ touched ++ over
    → AreUnorderedStrips world below (kept ++ touched) → AreUntouched over kept → tile_count world (overlaid below over) ≡ length kept + covered_count world (laid pieces)
number pieces kinds legal below kept touched over is strips untouched =
    rw is
    (fresh_strips_number world below over kept touched strips (subst HaveKinds is kinds) (All-append_right IsLegal touched over (subst AreLegal is legal)) untouched)

pub returns-in_err-find_strips-clause-tile_count : goal.returns-in_err-find_strips-clause-tile_count
returns-in_err-find_strips-clause-tile_count c = number c.args.pieces.now c.find_strips.ensures.kinds c.find_strips.ensures.legal

pub returns-clause-count : goal.returns-clause-count
returns-clause-count c =
    let found = covered_strips_number world (laid c.args.pieces.now) _ c.in_ok-find_strips.ensures.strips in
    (omega arith, omega (arith, c.len.ensures, ap length c.swap_strips.ensures.strips, found))

pub returns-clause-legal : goal.returns-clause-legal
returns-clause-legal c = rw c.swap_strips.ensures.strips (λ k d within. IsRectangleIn-IsStrip world _ _ (c.in_ok-find_strips.ensures.strips.each k d within).0)

pub returns-clause-replaced : goal.returns-clause-replaced
returns-clause-replaced c = λ below kept touched over is strips untouched.
    rw c.swap_strips.ensures.strips
    (touched_strips_give_way world below over kept touched _ strips (subst HaveKinds is c.find_strips.ensures.kinds)
    (All-append_right IsLegal touched over (subst AreLegal is c.find_strips.ensures.legal)) untouched
    (subst (λ pieces. AreCoveredStrips world (laid pieces) c.find_strips.new.self.strips) is c.in_ok-find_strips.ensures.strips))

pub returns-clause-tile_count : goal.returns-clause-tile_count
returns-clause-tile_count c = number c.args.pieces.now c.find_strips.ensures.kinds c.find_strips.ensures.legal
