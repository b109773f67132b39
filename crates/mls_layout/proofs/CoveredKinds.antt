-- The kinds that a picture has in a rectangle, by pieces that leave no square of it out.
use Rattle.std.proofs.Common.{◌≡◌, ℕ, ◌<◌, ◌+◌, ◌==◌, true, false, List, fold, get_or, length, take, eq-eqb, eqb-true, sym, ap, ◌∙◌, arith}
use Rattle.std.proofs.Math.Path.{fun_ext}
use Rattle.std.specs.List.{list_any}
use Rattle.std.proofs.lemmas.Bool.Decides.{same_from_decides}
use Rattle.std.proofs.lemmas.List.Elements.{All-contains}
use Rattle.std.proofs.lemmas.List.Folds.{Any-from_list_any, list_any-from_Any}
use Rattle.std.proofs.lemmas.List.Sums.{fold_more}
use Rattle.mls_kinds.specs.KindSets.{set_of, with_kind}
use Rattle.mls_kinds.proofs.KindSetLemmas.{fold-with_kind, set_of_none}
use Rattle.mls_geom.specs.Pictures.{Picture, kinds_in, shows}
use Rattle.mls_geom.specs.Rects.{IsRectangleIn, Rect, holds}
use Rattle.mls_geom.specs.declared.piece.Piece.{Piece}
use Rattle.mls_geom.proofs.Holds.{between_holds}
use Rattle.mls_geom.proofs.KindsShown.{ShowsAt, ShowsAt-from_shows, shows-from_ShowsAt}
use Rattle.mls_layout.specs.Grids.{CoverBlock, Shows}

module _ (extent : Rect) (picture : Picture) (pieces : List Piece) (cover : CoverBlock extent picture pieces) (kind : ℕ) where
  -- each piece has a square of the rectangle
  shown_there : list_any (λ piece. piece.kind == kind) pieces ≡ true → ShowsAt picture extent kind
  shown_there h =
      let (k, piece, within, is, same) = Any-from_list_any (λ (piece : Piece). piece.kind == kind) pieces h in
      let legal = All-contains (λ (piece : Piece). IsRectangleIn extent piece.rect) pieces piece cover.bounded (k, within, is) in
      let has = All-contains (λ (piece : Piece). Shows picture piece) pieces piece cover.shown (k, within, is) in
      let x = piece.rect.left in
      let y = piece.rect.bottom in
      let here : holds piece.rect x y ≡ true = between_holds piece.rect x y (omega arith) legal.wide (omega arith) legal.tall in
      let inside : holds extent x y ≡ true =
      between_holds extent x y legal.left_in (omega (arith, legal.wide, legal.right_in)) legal.bottom_in (omega (arith, legal.tall, legal.top_in)) in
      (x, y, inside, has x y here ∙ eqb-true piece.kind kind same)

  -- and each square is a piece's
  found_there : ShowsAt picture extent kind → list_any (λ piece. piece.kind == kind) pieces ≡ true
  found_there (x, y, inside, same) =
      let (k, piece, within, is, here) = cover.whole x y inside in
      let has = All-contains (λ (piece : Piece). Shows picture piece) pieces piece cover.shown (k, within, is) in
      list_any-from_Any (λ (piece : Piece). piece.kind == kind) pieces (k, piece, within, is, eq-eqb piece.kind kind (sym (has x y here) ∙ same))

  list_any-cover : list_any (λ piece. piece.kind == kind) pieces ≡ shows picture extent kind
  list_any-cover =
      same_from_decides {P = ShowsAt picture extent kind} _ _ (shown_there, found_there) (ShowsAt-from_shows picture extent kind, shows-from_ShowsAt picture extent kind)

-- the kinds of these pieces, gathered one by one
abbrev pub kinds_of : List Piece → ℕ
kinds_of pieces = fold (λ set piece. with_kind set piece.kind) 0 pieces

-- are those of the rectangle
pub kinds_of-cover : (extent : Rect) (picture : Picture) (pieces : List Piece) → CoverBlock extent picture pieces → kinds_of pieces ≡ kinds_in picture extent
unfolding kinds_in
kinds_of-cover extent picture pieces cover =
    ap (λ set. fold (λ set piece. with_kind set piece.kind) set pieces) set_of_none
    ∙ fold-with_kind (λ (piece : Piece). piece.kind) (λ _. false) pieces
    ∙ ap set_of (fun_ext (λ kind. list_any-cover extent picture pieces cover kind))

-- pictures that agree in a rectangle have the same kinds there
same_there : (extent : Rect) (one other : Picture) (kind : ℕ) → ((x y : ℕ) → holds extent x y ≡ true → one x y ≡ other x y) → ShowsAt one extent kind → ShowsAt other extent kind
same_there extent one other kind agree (x, y, inside, same) = (x, y, inside, sym (agree x y inside) ∙ same)

pub kinds_in-agree :
    (extent : Rect) (one other : Picture) → ((x y : ℕ) → holds extent x y ≡ true → one x y ≡ other x y) → kinds_in one extent ≡ kinds_in other extent
unfolding kinds_in
kinds_in-agree extent one other agree = ap set_of (fun_ext (λ kind.
    same_from_decides {P = ShowsAt one extent kind} _ _
    (ShowsAt-from_shows one extent kind, shows-from_ShowsAt one extent kind)
    (λ h. same_there extent other one kind (λ x y inside. sym (agree x y inside)) (ShowsAt-from_shows other extent kind h), λ h. shows-from_ShowsAt other extent kind (same_there extent one other kind agree h))))

-- ---- one piece more
-- the kind of the next piece is put in
pub kinds_of_more :
    (pieces : List Piece) (i kinds new : ℕ) (piece : Piece) → i < length pieces → piece ≡ get_or pieces i piece → kinds ≡ kinds_of (take i pieces)
    → new ≡ with_kind kinds piece.kind → new ≡ kinds_of (take (i + 1) pieces)
kinds_of_more pieces i kinds new piece within next so_far put =
    put ∙ ap (λ set. with_kind set piece.kind) so_far ∙ ap (λ p. with_kind (kinds_of (take i pieces)) p.kind) next
    ∙ sym (fold_more (λ set piece. with_kind set piece.kind) 0 pieces i piece within)
