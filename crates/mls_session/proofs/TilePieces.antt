-- Pieces that are made of the tiles of a list, one by one, and what they paint.
use Rattle.std.proofs.Common.{◌≡◌, Bool, true, false, ℕ, ◌+◌, ◌<◌, ◌≤◌, ◌||◌, min, if◌then◌else◌, List, [], ◌∷◌, ◌++◌, All, get_or, take, length, length-append, le_refl, refl, sym, ap, subst, subst₂, ◌∙◌, arith, length-take}
use Rattle.std.specs.List.{list_any}
use Rattle.std.proofs.Math.Bool.{or-false}
use Rattle.std.proofs.Math.Path.{fun_ext}
use Rattle.std.proofs.lemmas.List.{take_more}
use Rattle.std.proofs.lemmas.List.Elements.{All-push}
use Rattle.std.proofs.lemmas.List.Folds.{list_any-append}
use Rattle.mls_session.specs.Common.{LaidTile, Picture, Piece, holds, overlaid, painted}
use Rattle.mls_geom.proofs.Overlays.{overlaid_append}

-- the square is in what is painted for one of the tiles
abbrev pub is_covered : (LaidTile → ℕ → ℕ → Bool) → List LaidTile → ℕ → ℕ → Bool
is_covered covers tiles x y = list_any (λ tile. covers tile x y) tiles

-- the picture with such squares as in another one
abbrev pub patched : (LaidTile → ℕ → ℕ → Bool) → List LaidTile → Picture → Picture → Picture
patched covers tiles over below x y = if is_covered covers tiles x y then over x y else below x y

-- the pieces paint this over whatever lies below, and are no more than the tiles
pub record ArePatches (covers : LaidTile → ℕ → ℕ → Bool) (over : Picture) (tiles : List LaidTile) (pieces : List Piece) : Type 0 where
  pub paint : (below : Picture) → overlaid below pieces ≡ patched covers tiles over below
  pub few : length pieces ≤ length tiles

at_square : (was here : Bool) (kind new below : ℕ) → (here ≡ true → kind ≡ new) → (if here then kind else (if was then new else below)) ≡ (if (was || here) then new else below)
at_square true true kind new below same = same refl
at_square false true kind new below same = same refl
at_square true false kind new below same = refl
at_square false false kind new below same = refl

module _ (covers : LaidTile → ℕ → ℕ → Bool) (over : Picture) where
  pub ArePatches-none : ArePatches covers over [] []
  ArePatches-none = record { paint = λ below. refl; few = le_refl 0 }

  module _ (tiles : List LaidTile) (pieces : List Piece) (patches : ArePatches covers over tiles pieces) (tile : LaidTile) where
    is_covered-push : (x y : ℕ) → is_covered covers (tiles ++ tile ∷ []) x y ≡ (is_covered covers tiles x y || covers tile x y)
    is_covered-push x y = list_any-append (λ t. covers t x y) tiles (tile ∷ []) ∙ ap (λ last. is_covered covers tiles x y || last) (or-false (covers tile x y))

    -- a piece is made for one tile more
    pub ArePatches-push :
        (piece : Piece) → ((x y : ℕ) → holds piece.rect x y ≡ covers tile x y) → ((x y : ℕ) → covers tile x y ≡ true → piece.kind ≡ over x y)
        → ArePatches covers over (tiles ++ tile ∷ []) (pieces ++ piece ∷ [])
    ArePatches-push piece squares kinds = record {
      paint = λ below.
          overlaid_append below pieces (piece ∷ []) ∙ ap (λ picture. painted picture piece) (patches.paint below)
          ∙ fun_ext (λ x. fun_ext (λ y.
          ap (λ here. if here then piece.kind else patched covers tiles over below x y) (squares x y)
          ∙ at_square (is_covered covers tiles x y) (covers tile x y) piece.kind (over x y) (below x y) (kinds x y)
          ∙ ap (λ covered. if covered then over x y else below x y) (sym (is_covered-push x y))));
      few = omega (arith, patches.few, length-append tiles (tile ∷ []), length-append pieces (piece ∷ []));
    }

    -- or none, as it has no square to be painted
    pub ArePatches-skip : ((x y : ℕ) → covers tile x y ≡ false) → ArePatches covers over (tiles ++ tile ∷ []) pieces
    ArePatches-skip none = record {
      paint = λ below.
          patches.paint below
          ∙ fun_ext (λ x. fun_ext (λ y.
          ap (λ covered. if covered then over x y else below x y)
          (sym (or-false (is_covered covers tiles x y)) ∙ ap (λ last. is_covered covers tiles x y || last) (sym (none x y)) ∙ sym (is_covered-push x y))));
      few = omega (arith, patches.few, length-append tiles (tile ∷ []));
    }

-- ---- in a loop over the tiles
next_taken : (list : List LaidTile) (i : ℕ) (tile : LaidTile) → i < length list → tile ≡ get_or list i tile → take (i + 1) list ≡ take i list ++ tile ∷ []
next_taken list i tile within is = take_more list i tile within ∙ ap (λ t. take i list ++ t ∷ []) (sym is)

pub ArePatches-made :
    (covers : LaidTile → ℕ → ℕ → Bool) (over : Picture) (list : List LaidTile) (i : ℕ) (tile : LaidTile) (pieces after : List Piece) (piece : Piece)
    → i < length list → tile ≡ get_or list i tile → ArePatches covers over (take i list) pieces → after ≡ pieces ++ piece ∷ []
    → ((x y : ℕ) → holds piece.rect x y ≡ covers tile x y) → ((x y : ℕ) → covers tile x y ≡ true → piece.kind ≡ over x y)
    → ArePatches covers over (take (i + 1) list) after
ArePatches-made covers over list i tile pieces after piece within is patches made squares kinds =
    subst₂ (ArePatches covers over) (sym (next_taken list i tile within is)) (sym made) (ArePatches-push covers over (take i list) pieces patches tile piece squares kinds)

pub ArePatches-left :
    (covers : LaidTile → ℕ → ℕ → Bool) (over : Picture) (list : List LaidTile) (i : ℕ) (tile : LaidTile) (pieces after : List Piece)
    → i < length list → tile ≡ get_or list i tile → ArePatches covers over (take i list) pieces → after ≡ pieces → ((x y : ℕ) → covers tile x y ≡ false)
    → ArePatches covers over (take (i + 1) list) after
ArePatches-left covers over list i tile pieces after within is patches same none =
    subst₂ (ArePatches covers over) (sym (next_taken list i tile within is)) (sym same) (ArePatches-skip covers over (take i list) pieces patches tile none)

-- of each tile before the next one
pub All-next : (P : LaidTile → Type 0) (list : List LaidTile) (i : ℕ) (tile : LaidTile) → i < length list → tile ≡ get_or list i tile → All P (take i list) → P tile → All P (take (i + 1) list)
All-next P list i tile within is so_far here = subst (All P) (sym (next_taken list i tile within is)) (All-push P (take i list) tile so_far here)

-- there is room for the next piece
pub few-ArePatches :
    (covers : LaidTile → ℕ → ℕ → Bool) (over : Picture) (list : List LaidTile) (i : ℕ) (pieces : List Piece) → ArePatches covers over (take i list) pieces → length pieces ≤ min i (length list)
few-ArePatches covers over list i pieces patches = omega (arith, patches.few, length-take i list)
