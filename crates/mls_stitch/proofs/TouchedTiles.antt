-- The tiles that pieces touch, gathered from the search round one piece after another, or round all.
use Rattle.std.proofs.Common.{◌≡◌, ◌≢◌, ℕ, true, List, [], ◌∷◌, ◌++◌, map, length, ◌≤◌, AllPairs, Any, Contains, Option, inl, inr, refl, sym, ◌∙◌, subst, arith}
use Rattle.mls_stitch.proofs.Common.{or_cases, nat_tests, All-append, All-contains, All-nil, All-push, Contains-append_left, Contains-append_right, is_touched, touches, Rect, IsWithin, world, Piece, Contains-first, Contains-map, Tile, AreInArea, ListTouched, AreMet, EnclosePieces, HasTouched, keys_of, KeepsKeys, IsPlane, block_at, IsLaid, LaidTile}
use Rattle.std.proofs.lemmas.List.Folds.{Any-from_list_any, list_any-append, list_any-from_Any}
use Rattle.mls_stitch.proofs.FreshTiles.{Contains-first_or_rest, Contains-from_map, nothing_in_nil}
use Rattle.mls_stitch.proofs.Gathered.{IsRound, both_true, touched_met}
use Rattle.mls_stitch.proofs.ListedTiles.{keys-AreInArea, length-le-AreLaid, listed_there}
use Rattle.mls_stitch.proofs.ReplacedStitches.{Any-contained}
use Rattle.mls_stitch.proofs.Sides.{legal-AreBlocks}

-- a longer list has the keys of a shorter one
more_keys : (list more : List LaidTile) (key : ℕ) → ((tile : LaidTile) → Contains list tile → Contains more tile) → Contains (keys_of list) key → Contains (keys_of more) key
more_keys list more key kept held =
    let (tile, there, is) = Contains-from_map (λ t. t.id) list key held in
    subst (Contains (keys_of more)) is (Contains-map (λ t. t.id) more tile (kept tile there))

-- duplicates don't matter
pub touched_keeps : (blocks : ℕ → Option Piece) (passed : List Piece) (before after : List LaidTile) → HasTouched blocks passed before → KeepsKeys before after → HasTouched blocks passed after
touched_keeps blocks passed before after so_far keeps = record {
  each = λ k d within. All-contains (IsLaid blocks) before _ so_far.each (keeps.tiles k d within);
  whole = λ key block here near.
      let (tile, there, is) = Contains-from_map (λ t. t.id) before key (so_far.whole key block here near) in
      subst (Contains (keys_of after)) is (All-contains (λ t. Contains (keys_of after) t.id) before tile keeps.keys there);
}

-- a search round bounds finds the tiles that the pieces in them touch
pub HasTouched-met :
    (tiles : List (ℕ × Tile)) (over : List Piece) (bounds area : Rect) (found : List LaidTile) → IsPlane tiles → EnclosePieces bounds over → IsRound bounds area
    → AreMet (block_at tiles) area found → HasTouched (block_at tiles) over found
HasTouched-met tiles over bounds area found plane inside squares met = record {
  each = λ k d within. (met.each k d within).laid;
  whole = λ key block here near.
      let (k, piece, within, is, touched) = Any-from_list_any (λ (p : Piece). touches p.rect block.rect) over near in
      let legal = legal-AreBlocks (block_at tiles) key block plane.tiling here in
      let in_bounds = All-contains (λ (p : Piece). IsWithin bounds p.rect) over piece inside (k, within, is) in
      met.whole key block here (touched_met bounds piece block area in_bounds legal (λ x y g w. squares x y ∙ both_true g w) touched);
}

itself : (piece : Piece) → EnclosePieces piece.rect (piece ∷ [])
itself piece = All-push (λ (p : Piece). IsWithin piece.rect p.rect) [] piece (All-nil _) (record { left = omega arith; bottom = omega arith; right = omega arith; top = omega arith })

-- one more piece was passed, round which these were found
pub touched_more :
    (tiles : List (ℕ × Tile)) (passed : List Piece) (piece : Piece) (area : Rect) (found list : List LaidTile) → IsPlane tiles → IsRound piece.rect area → AreMet (block_at tiles) area found
    → HasTouched (block_at tiles) passed list → HasTouched (block_at tiles) (passed ++ piece ∷ []) (list ++ found)
touched_more tiles passed piece area found list plane squares met so_far =
    let last = HasTouched-met tiles (piece ∷ []) piece.rect area found plane (itself piece) squares met in
    record {
      each = All-append (IsLaid (block_at tiles)) list found so_far.each last.each;
      whole = λ key block here near.
          let parts = sym (list_any-append (λ p. touches p.rect block.rect) passed (piece ∷ [])) ∙ near in
          elim (or_cases (is_touched passed block) (is_touched (piece ∷ []) block) parts) [
            | inl earlier ↦ more_keys list (list ++ found) key (λ t. Contains-append_left list found t) (so_far.whole key block here earlier)
            | inr now ↦ more_keys found (list ++ found) key (λ t. Contains-append_right list found t) (last.whole key block here now)
          ];
    }

-- what an inner rectangle touches the outer one touches
touches_wider : (outer inner b : Rect) → IsWithin outer inner → touches inner b ≡ true → touches outer b ≡ true
touches_wider outer inner b within near =
    let left = within.left in
    let bottom = within.bottom in
    let right = within.right in
    let top = within.top in
    grind (arith, nat_tests)

-- one of the passed pieces has this rectangle
abbrev pub IsPassed : List Piece → Rect → Type 0
IsPassed passed rect = Any (λ (p : Piece). p.rect ≡ rect) passed

pub IsPassed-first : (passed : List Piece) (piece : Piece) → IsPassed (passed ++ piece ∷ []) piece.rect
IsPassed-first passed piece = Any-contained (λ (p : Piece). p.rect ≡ piece.rect) (passed ++ piece ∷ []) piece (Contains-append_right passed (piece ∷ []) piece (Contains-first piece piece [] refl)) refl

pub IsPassed-more : (passed : List Piece) (piece : Piece) (rect : Rect) → IsPassed passed rect → IsPassed (passed ++ piece ∷ []) rect
IsPassed-more passed piece rect (k, p, within, is, same) =
    Any-contained (λ (q : Piece). q.rect ≡ rect) (passed ++ piece ∷ []) p (Contains-append_left passed (piece ∷ []) p (k, within, is)) same

-- one more piece was passed, inside an earlier one
pub touched_inside :
    (blocks : ℕ → Option Piece) (passed : List Piece) (piece : Piece) (outer : Rect) (list : List LaidTile) → IsPassed passed outer → IsWithin outer piece.rect → HasTouched blocks passed list
    → HasTouched blocks (passed ++ piece ∷ []) list
touched_inside blocks passed piece outer list (k, first, within, is, same) inside so_far = record {
  each = so_far.each;
  whole = λ key block here near.
      let parts = sym (list_any-append (λ p. touches p.rect block.rect) passed (piece ∷ [])) ∙ near in
      elim (or_cases (is_touched passed block) (is_touched (piece ∷ []) block) parts) [
        | inl earlier ↦ so_far.whole key block here earlier
        | inr now ↦
            let (j, other, less, is_other, near_other) = Any-from_list_any (λ (p : Piece). touches p.rect block.rect) (piece ∷ []) now in
            let only : piece ≡ other = elim (Contains-first_or_rest piece other [] (j, less, is_other)) [
              | inl one ↦ one
              | inr rest ↦ absurd (nothing_in_nil other rest)
            ] in
            let near_piece : touches piece.rect block.rect ≡ true = subst (λ (p : Piece). touches p.rect block.rect ≡ true) (sym only) near_other in
            let near_first : touches first.rect block.rect ≡ true = subst (λ (r : Rect). touches r block.rect ≡ true) (sym same) (touches_wider outer piece.rect block.rect inside near_piece) in
            so_far.whole key block here (list_any-from_Any (λ (p : Piece). touches p.rect block.rect) passed (k, first, within, is, near_first))
      ];
}

-- without duplicates, a list of the tiles that the pieces touch
pub ListTouched-passed :
    (blocks : ℕ → Option Piece) (over : List Piece) (list : List LaidTile) → HasTouched blocks over list → AllPairs (λ p q. p.id ≢ q.id) list → ListTouched blocks over list
ListTouched-passed blocks over list passed once = record { each = passed.each; whole = passed.whole; once = once }

-- the listed tiles are at most all
pub length-ListTouched : (tiles : List (ℕ × Tile)) (over : List Piece) (list : List LaidTile) → ListTouched (block_at tiles) over list → length list ≤ length tiles
length-ListTouched tiles over list touched = length-le-AreLaid tiles list touched.each touched.once

-- all tiles of a plane are a list of those that pieces touch
pub ListTouched-AreInArea :
    (tiles : List (ℕ × Tile)) (over : List Piece) (list : List LaidTile) → IsPlane tiles → AreInArea (block_at tiles) world list → ListTouched (block_at tiles) over list
ListTouched-AreInArea tiles over list plane found = record {
  each = λ k d within. (found.each k d within).laid;
  whole = λ key block here near.
      let (tile, listed, is_key, is_block) = listed_there tiles list key block plane (λ k d within. (found.each k d within).laid) found.whole here in
      subst (Contains (map (λ t. t.id) list)) is_key (Contains-map (λ t. t.id) list tile listed);
  once = keys-AreInArea (block_at tiles) world list found;
}
