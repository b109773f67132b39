-- Tiles that are painted over a grid, moved, one after another.
use Rattle.std.proofs.Common.{◌≡◌, ℕ, ◌<◌, ◌+◌, ℤ, pos, negsuc, ◌-ℤ◌, ◌==◌, ◌||◌, Bool, true, false, not, if◌then◌else◌, List, length, take, get_or, inl, inr, refl, sym, ap, ◌∙◌}
use Rattle.std.specs.List.{list_any}
use Rattle.std.proofs.lemmas.Bool.{and_from, and_parts, cases_Bool, true≢false}
use Rattle.std.proofs.lemmas.List.Elements.{All-contains}
use Rattle.std.proofs.lemmas.List.Folds.{Any-from_list_any, list_any-from_Any, list_any_more}
use Rattle.mls_geom.specs.Pictures.{Picture}
use Rattle.mls_geom.specs.Rects.{Rect, holds}
use Rattle.mls_geom.specs.declared.piece.Piece.{Piece}
use Rattle.mls_stitch.specs.declared.laid_tile.LaidTile.{LaidTile}
use Rattle.mls_layout.specs.Inner.{ShowMoved, dumps}
use Rattle.mls_layout.specs.Grids.{Shows}
use Rattle.mls_layout.specs.Moves.{holds_at, is_moved, kind_or_space, moved_picture}
use Rattle.mls_layout.specs.Uses.{over}

-- some tile of the list, moved, shows something at the square
abbrev pub some_dumps : List LaidTile → ℤ → ℤ → ℕ → ℕ → Bool
some_dumps tiles dx dy x y = list_any (λ tile. dumps tile.piece dx dy x y) tiles

module _ (picture : Picture) (dx dy : ℤ) where
  kind_there : (piece : Piece) → Shows picture piece → (zx zy : ℤ) → holds_at piece.rect zx zy ≡ true → kind_or_space picture zx zy ≡ piece.kind
  kind_there piece has (pos a) (pos b) here = has a b here
  kind_there piece has (pos a) (negsuc b) here = absurd (cc here)
  kind_there piece has (negsuc a) zy here = absurd (cc here)

  -- a moved piece's square has the piece's kind in the moved picture
  pub kind-moved : (piece : Piece) (x y : ℕ) → Shows picture piece → is_moved piece.rect dx dy x y ≡ true → moved_picture picture dx dy x y ≡ piece.kind
  unfolding moved_picture
  kind-moved piece x y has here = kind_there piece has (pos x -ℤ dx) (pos y -ℤ dy) here

  -- ---- one tile more
  joined : (kind shown old now next : ℕ) (before more : Bool) → now ≡ (if before then shown else old) → next ≡ (if more then kind else now) → (more ≡ true → shown ≡ kind) → next ≡ (if before || more then shown else old)
  joined kind shown old now next true true is after same = after ∙ sym (same refl)
  joined kind shown old now next false true is after same = after ∙ sym (same refl)
  joined kind shown old now next true false is after same = after ∙ is
  joined kind shown old now next false false is after same = after ∙ is

  pub painted-more :
      (tiles : List LaidTile) (n : ℕ) (tile : LaidTile) (x y old now next : ℕ) → n < length tiles → tile ≡ get_or tiles n tile → Shows picture tile.piece
      → now ≡ (if some_dumps (take n tiles) dx dy x y then moved_picture picture dx dy x y else old)
      → next ≡ (if dumps tile.piece dx dy x y then tile.piece.kind else now)
      → next ≡ (if some_dumps (take (n + 1) tiles) dx dy x y then moved_picture picture dx dy x y else old)
  painted-more tiles n tile x y old now next within is has so_far after =
      let test : LaidTile → Bool = λ t. dumps t.piece dx dy x y in
      let more : list_any test (take (n + 1) tiles) ≡ (list_any test (take n tiles) || test tile) =
      list_any_more test tiles n tile within ∙ ap (λ t. list_any test (take n tiles) || test t) (sym is) in
      joined tile.piece.kind (moved_picture picture dx dy x y) old now next (list_any test (take n tiles)) (test tile) so_far after
      (λ dumped. kind-moved tile.piece x y has (and_parts (is_moved tile.piece.rect dx dy x y) (not (tile.piece.kind == 0)) dumped).0)
      ∙ ap (λ (b : Bool). if b then moved_picture picture dx dy x y else old) (sym more)

  -- ---- all tiles
  not_zero : (kind : ℕ) → not (kind == 0) ≡ true → (kind == 0) ≡ false
  not_zero kind h = by (kind == 0) h
    where
      by : (zero : Bool) → not zero ≡ true → zero ≡ false
      by true h = absurd (cc h)
      by false h = refl

  chosen : (shown below : ℕ) (some zero : Bool) → some ≡ true → (shown == 0) ≡ zero → zero ≡ false → (if some then shown else below) ≡ (if zero then below else shown)
  chosen shown below true true h at not_space = absurd (cc not_space)
  chosen shown below true false h at not_space = refl
  chosen shown below false zero h at not_space = absurd (cc h)

  left_out : (shown below : ℕ) (some zero : Bool) → some ≡ false → zero ≡ true → (if some then shown else below) ≡ (if zero then below else shown)
  left_out shown below true zero h space = absurd (cc h)
  left_out shown below false true h space = refl
  left_out shown below false false h space = absurd (cc space)

  module _ (block : Rect) (tiles : List LaidTile) (x y : ℕ) (show : ShowMoved picture dx dy block tiles) where
    -- what some tile shows isn't space
    dumped : some_dumps tiles dx dy x y ≡ true → (moved_picture picture dx dy x y == 0) ≡ false
    dumped some =
        let (k, tile, within, is, here) = Any-from_list_any (λ (t : LaidTile). dumps t.piece dx dy x y) tiles some in
        let both = and_parts (is_moved tile.piece.rect dx dy x y) (not (tile.piece.kind == 0)) here in
        let has = All-contains (λ (t : LaidTile). Shows picture t.piece) tiles tile show.each (k, within, is) in
        ap (λ (kind : ℕ). kind == 0) (kind-moved tile.piece x y has both.0) ∙ not_zero tile.piece.kind both.1

    -- and where none does all is space
    undumped : holds block x y ≡ true → some_dumps tiles dx dy x y ≡ false → (moved_picture picture dx dy x y == 0) ≡ true
    undumped inside none = by (moved_picture picture dx dy x y == 0) refl
      where
        by : (zero : Bool) → (moved_picture picture dx dy x y == 0) ≡ zero → zero ≡ true
        by true at = refl
        by false at =
            let (k, tile, within, is, here) = show.whole x y inside (λ space. true≢false (sym (ap (λ (kind : ℕ). kind == 0) space) ∙ at)) in
            let has = All-contains (λ (t : LaidTile). Shows picture t.piece) tiles tile show.each (k, within, is) in
            let some_kind = ap (λ (kind : ℕ). not (kind == 0)) (sym (kind-moved tile.piece x y has here)) ∙ ap not at in
            let there = and_from (is_moved tile.piece.rect dx dy x y) (not (tile.piece.kind == 0)) here some_kind in
            absurd (true≢false (sym (list_any-from_Any (λ (t : LaidTile). dumps t.piece dx dy x y) tiles (k, tile, within, is, there)) ∙ none))

    -- so the tiles lie over what was below
    pub painted-all :
        (below : Picture) (now : ℕ) → holds block x y ≡ true → now ≡ (if some_dumps tiles dx dy x y then moved_picture picture dx dy x y else below x y)
        → now ≡ over (moved_picture picture dx dy) below x y
    painted-all below now inside is =
        is ∙ elim (cases_Bool (some_dumps tiles dx dy x y)) [
          | inl some ↦ chosen (moved_picture picture dx dy x y) (below x y) (some_dumps tiles dx dy x y) (moved_picture picture dx dy x y == 0) some refl (dumped some)
          | inr none ↦ left_out (moved_picture picture dx dy x y) (below x y) (some_dumps tiles dx dy x y) (moved_picture picture dx dy x y == 0) none (undumped inside none)
        ]
