-- Pieces that leave no square of a rectangle out, part by part.
use Rattle.std.proofs.Common.{◌≡◌, ℕ, ◌<◌, ◌+◌, ◌⊎◌, Option, true, List, [], ◌∷◌, ◌++◌, map, take, length, get_or, inl, inr, refl, ap, sym, ◌∙◌, append_assoc, arith}
use Rattle.std.specs.List.{All}
use Rattle.std.proofs.lemmas.Bool.{and_from, and_parts}
use Rattle.std.proofs.lemmas.List.{take_more}
use Rattle.std.proofs.lemmas.List.Elements.{All-append, All-map, All-weaker}
use Rattle.mls_geom.specs.Pictures.{Picture}
use Rattle.mls_geom.specs.Rects.{IsRectangleIn, IsWithin, Rect, common, has_squares, holds}
use Rattle.mls_geom.specs.declared.piece.Piece.{Piece}
use Rattle.mls_geom.proofs.Ascending.{Contains-map}
use Rattle.mls_geom.proofs.Holds.{between_holds, has_squares_lines, holds_between, holds_common}
use Rattle.mls_geom.proofs.InnerRects.{IsRectangleIn-through}
use Rattle.mls_geom.proofs.JoinedLists.{Any-append_left, Any-append_right}
use Rattle.mls_stitch.specs.Areas.{MeetArea}
use Rattle.mls_stitch.specs.declared.laid_tile.LaidTile.{LaidTile}
use Rattle.mls_layout.specs.Grids.{AppendsCover, CoverBlock, Shows}

abbrev Has : ℕ → ℕ → Piece → Type 0
Has x y piece = holds piece.rect x y ≡ true

-- pieces of two parts are pieces of the whole
CoverBlock-joined :
    (extent one other : Rect) (picture : Picture) (first second : List Piece) → IsWithin extent one → IsWithin extent other
    → ((x y : ℕ) → holds extent x y ≡ true → (holds one x y ≡ true) ⊎ (holds other x y ≡ true)) → CoverBlock one picture first → CoverBlock other picture second
    → CoverBlock extent picture (first ++ second)
CoverBlock-joined extent one other picture first second in_one in_other parts cover covers = record {
  bounded =
      All-append (λ piece. IsRectangleIn extent piece.rect) first second
      (All-weaker (λ (piece : Piece). IsRectangleIn one piece.rect) (λ piece. IsRectangleIn extent piece.rect) (λ piece. IsRectangleIn-through extent one piece.rect in_one) first cover.bounded)
      (All-weaker (λ (piece : Piece). IsRectangleIn other piece.rect) (λ piece. IsRectangleIn extent piece.rect) (λ piece. IsRectangleIn-through extent other piece.rect in_other) second covers.bounded);
  shown = All-append (λ piece. Shows picture piece) first second cover.shown covers.shown;
  whole = λ x y inside. elim (parts x y inside) [
    | inl here ↦ Any-append_left (Has x y) first second (cover.whole x y here)
    | inr there ↦ Any-append_right (Has x y) first second (covers.whole x y there)
  ];
}

pub AppendsCover-joined :
    (extent one other : Rect) (picture : Picture) (old mid new : List Piece) → IsWithin extent one → IsWithin extent other
    → ((x y : ℕ) → holds extent x y ≡ true → (holds one x y ≡ true) ⊎ (holds other x y ≡ true)) → AppendsCover one picture old mid → AppendsCover other picture mid new
    → AppendsCover extent picture old new
AppendsCover-joined extent one other picture old mid new in_one in_other parts (first, is, cover) (second, next, covers) =
    (first ++ second, next ∙ ap (λ list. list ++ second) is ∙ append_assoc old first second, CoverBlock-joined extent one other picture first second in_one in_other parts cover covers)

-- ---- pictures that agree
agreeing : (extent : Rect) (one other : Picture) (piece : Piece) → ((x y : ℕ) → holds extent x y ≡ true → one x y ≡ other x y) → IsRectangleIn extent piece.rect → Shows one piece → Shows other piece
agreeing extent one other piece agree legal has x y here =
    let lines = holds_between piece.rect x y here in
    sym (agree x y (between_holds extent x y (omega (arith, lines.0, legal.left_in)) (omega (arith, lines.1, legal.right_in)) (omega (arith, lines.2, legal.bottom_in))
    (omega (arith, lines.3, legal.top_in))))
    ∙ has x y here

-- pieces of a picture are pieces of one that agrees with it in the extent
pub AppendsCover-agree :
    (extent : Rect) (one other : Picture) (old new : List Piece) → ((x y : ℕ) → holds extent x y ≡ true → one x y ≡ other x y) → AppendsCover extent one old new
    → AppendsCover extent other old new
AppendsCover-agree extent one other old new agree (more, is, cover) = (
  more,
  is,
  record {
    bounded = cover.bounded;
    shown = λ k d within. agreeing extent one other (get_or more k d) agree (cover.bounded k d within) (cover.shown k d within);
    whole = cover.whole;
  },
)

-- ---- tiles that a search found
-- as much of a tile as lies in the block
abbrev pub clip : Rect → LaidTile → Piece
clip block tile = record { rect = common tile.piece.rect block; kind = tile.piece.kind }

clip-legal : (block rect : Rect) → has_squares (common rect block) ≡ true → IsRectangleIn block (common rect block)
clip-legal block rect some =
    let (wide, tall) = has_squares_lines (common rect block) some in
    record {
      left_in = omega arith;
      wide = wide;
      right_in = omega arith;
      bottom_in = omega arith;
      tall = tall;
      top_in = omega arith;
    }

-- the parts of the tiles that meet a block, in the block, leave no square of it out
pub CoverBlock-found :
    (blocks : ℕ → Option Piece) (block : Rect) (picture : Picture) (found : List LaidTile) → MeetArea blocks block found → All (λ tile. Shows picture tile.piece) found
    → CoverBlock block picture (map (clip block) found)
CoverBlock-found blocks block picture found are kinds = record {
  bounded = All-map (λ piece. IsRectangleIn block piece.rect) (clip block) found (λ k d within. clip-legal block (get_or found k d).piece.rect ((are.each k d within).met));
  shown =
      All-map (λ piece. Shows picture piece) (clip block) found
      (λ k d within x y here. kinds k d within x y (and_parts (holds (get_or found k d).piece.rect x y) (holds block x y) (sym (holds_common (get_or found k d).piece.rect block x y) ∙ here)).0);
  whole = λ x y inside.
      let (k, tile, within, is, in_tile) = are.whole x y inside in
      let listed = Contains-map (clip block) found tile (k, within, is) in
      (listed.0, clip block tile, listed.1, listed.2, holds_common tile.piece.rect block x y ∙ and_from (holds tile.piece.rect x y) (holds block x y) in_tile inside);
}

append-push : {X : Type 0} (xs ys : List X) (y : X) → (xs ++ ys) ++ y ∷ [] ≡ xs ++ (ys ++ y ∷ [])
append-push [] ys y = refl
append-push (x ∷ xs) ys y = ap (λ zs. x ∷ zs) (append-push xs ys y)

map-push : {X Y : Type 0} (f : X → Y) (xs : List X) (x : X) → map f (xs ++ x ∷ []) ≡ map f xs ++ f x ∷ []
map-push f [] x = refl
map-push f (y ∷ xs) x = ap (λ ys. f y ∷ ys) (map-push f xs x)

-- one tile found more is one piece more
pub pieces-next :
    (block : Rect) (old : List Piece) (found : List LaidTile) (n : ℕ) (tile : LaidTile) → n < length found → tile ≡ get_or found n tile
    → (old ++ map (clip block) (take n found)) ++ clip block tile ∷ [] ≡ old ++ map (clip block) (take (n + 1) found)
pieces-next block old found n tile within is =
    append-push old (map (clip block) (take n found)) (clip block tile)
    ∙ ap (λ rest. old ++ rest) (sym (ap (map (clip block)) (take_more found n tile within ∙ ap (λ t. take n found ++ t ∷ []) (sym is)) ∙ map-push (clip block) (take n found) tile))
