-- The tiles round the touched ones, gathered from one search after another, or from one round all.
use Rattle.std.proofs.Common.{◌≡◌, ◌⊎◌, ◌↔◌, ℕ, filter, refl, ◌+◌, ◌<◌, ◌≤◌, ◌==◌, Bool, true, false, not, cond, IsTrue, List, [], ◌∷◌, ◌++◌, length, take, get_or, slice_get, Option, Some, None, Any, Contains, inl, inr, sym, ap, ◌∙◌, subst, append-nil, append_assoc, arith}
use Rattle.mls_stitch.proofs.Common.{list_any, IfSome, IsSomeAnd, option_map, cases_lt, All-append, All-contains, All-filter, All-nil, Contains-push_cases, filter_more, filter_passes, get_or_from_slice_get, same_Some, slice_get_within, Rect, Point, IsWithin, holds, meets, Piece, Contains-filter, Tile, AreSearched, AreMet, EncloseBlocks, IsInPart, keys_of, IsLost, KeepsKeys, Surround, unlisted_of, IsHeld, HoldsAt, AreBlocks, block_at, LaidTile}
use Rattle.std.proofs.lemmas.List.Filters.{length-filter_both}
use Rattle.mls_geom.proofs.JoinedLists.{Any-append_left, Any-append_right}
use Rattle.mls_stitch.proofs.CloseSquares.{close_in_grown}
use Rattle.mls_stitch.proofs.DistinctNumbers.{cases_Contains}
use Rattle.mls_stitch.proofs.FreshTiles.{entry-keys_of, list_any-Contains, list_any-absent}
use Rattle.mls_stitch.proofs.Gathered.{AreMet-meeting, IsRound, both_true, held_inside, met_square}
use Rattle.mls_stitch.proofs.ListedTiles.{length-le-AreLaid}
use Rattle.mls_stitch.proofs.Listings.{same_tile}
use Rattle.mls_stitch.proofs.ReplacedStitches.{Any-contained}
use Rattle.mls_stitch.proofs.Sides.{HoldsAt-block, holds-HoldsAt, there-IsSomeAnd}

-- no listed tile has this key
abbrev pub is_unlisted : List ℕ → LaidTile → Bool
is_unlisted keys tile = not (list_any (λ key. key == tile.id) keys)

-- one more tile was found
pub unlisted_more :
    (keys : List ℕ) (found : List LaidTile) (i : ℕ) (tile : LaidTile) (before entries after : List LaidTile) → i < length found → tile ≡ get_or found i tile → is_unlisted keys tile ≡ true
    → entries ≡ before ++ unlisted_of keys (take i found) → after ≡ entries ++ tile ∷ [] → after ≡ before ++ unlisted_of keys (take (i + 1) found)
unlisted_more keys found i tile before entries after within is absent so_far pushed =
    let more : unlisted_of keys (take (i + 1) found) ≡ unlisted_of keys (take i found) ++ tile ∷ [] =
    filter_more (is_unlisted keys) found i tile within
    ∙ ap (λ t. unlisted_of keys (take i found) ++ cond (is_unlisted keys t) (t ∷ []) []) (sym is)
    ∙ ap (λ b. unlisted_of keys (take i found) ++ cond b (tile ∷ []) []) absent in
    pushed ∙ ap (λ l. l ++ tile ∷ []) so_far ∙ append_assoc before (unlisted_of keys (take i found)) (tile ∷ []) ∙ ap (λ l. before ++ l) (sym more)

pub unlisted_skip :
    (keys : List ℕ) (found : List LaidTile) (i : ℕ) (tile : LaidTile) (before entries : List LaidTile) → i < length found → tile ≡ get_or found i tile → is_unlisted keys tile ≡ false
    → entries ≡ before ++ unlisted_of keys (take i found) → entries ≡ before ++ unlisted_of keys (take (i + 1) found)
unlisted_skip keys found i tile before entries within is there so_far =
    let more : unlisted_of keys (take (i + 1) found) ≡ unlisted_of keys (take i found) =
    filter_more (is_unlisted keys) found i tile within
    ∙ ap (λ t. unlisted_of keys (take i found) ++ cond (is_unlisted keys t) (t ∷ []) []) (sym is)
    ∙ ap (λ b. unlisted_of keys (take i found) ++ cond b (tile ∷ []) []) there
    ∙ append-nil (unlisted_of keys (take i found)) in
    so_far ∙ ap (λ l. before ++ l) (sym more)

-- what lies round some squares lies round fewer
pub Surround-fewer :
    (blocks : ℕ → Option Piece) (touched : List ℕ) (squares fewer : Point → Type 0) (list : List LaidTile) → Surround blocks touched squares list → ((p : Point) → fewer p → squares p)
    → Surround blocks touched fewer list
Surround-fewer blocks touched squares fewer list round within = record { each = round.each; apart = round.apart; whole = λ p at one close inside. round.whole p at (within p one) close inside }

-- or round more, with more tiles
pub Surround-more :
    (blocks : ℕ → Option Piece) (touched : List ℕ) (squares others : Point → Type 0) (list more : List LaidTile) → Surround blocks touched squares list → Surround blocks touched others more
    → Surround blocks touched (λ p. squares p ⊎ others p) (list ++ more)
Surround-more blocks touched squares others list more first last = record {
  each = All-append (λ (t : LaidTile). blocks t.id ≡ Some t.piece) list more first.each last.each;
  apart = All-append (λ (t : LaidTile). ¬ (Contains touched t.id)) list more first.apart last.apart;
  whole = λ p at either close inside. elim either [
    | inl earlier ↦ elim (first.whole p at earlier close inside) [
      | inl held ↦ inl held
      | inr some ↦ inr (Any-append_left (λ (t : LaidTile). IsTrue (holds t.piece.rect at.x at.y)) list more some)
    ]
    | inr now ↦ elim (last.whole p at now close inside) [
      | inl held ↦ inl held
      | inr some ↦ inr (Any-append_right (λ (t : LaidTile). IsTrue (holds t.piece.rect at.x at.y)) list more some)
    ]
  ];
}

-- duplicates don't matter
pub Surround-keeps :
    (blocks : ℕ → Option Piece) (touched : List ℕ) (squares : Point → Type 0) (before after : List LaidTile) → Surround blocks touched squares before → KeepsKeys before after
    → Surround blocks touched squares after
Surround-keeps blocks touched squares before after so_far keeps = record {
  each = λ k d within. All-contains (λ (t : LaidTile). blocks t.id ≡ Some t.piece) before _ so_far.each (keeps.tiles k d within);
  apart = λ k d within. All-contains (λ (t : LaidTile). ¬ (Contains touched t.id)) before _ so_far.apart (keeps.tiles k d within);
  whole = λ p at found close inside. elim (so_far.whole p at found close inside) [
    | inl held ↦ inl held
    | inr (k, tile, within, is, holding) ↦
        let (entry, there, same) = entry-keys_of after tile.id (All-contains (λ (t : LaidTile). Contains (keys_of after) t.id) before tile keeps.keys (k, within, is)) in
        let laid = All-contains (λ (t : LaidTile). blocks t.id ≡ Some t.piece) before tile so_far.each (k, within, is) in
        let laid' = All-contains (λ (t : LaidTile). blocks t.id ≡ Some t.piece) before entry so_far.each (All-contains (Contains before) after entry keeps.tiles there) in
        let alike : entry ≡ tile = same_tile blocks entry tile laid' laid same in
        inr (Any-contained (λ (t : LaidTile). IsTrue (holds t.piece.rect at.x at.y)) after entry there (subst (λ (t : LaidTile). IsTrue (holds t.piece.rect at.x at.y)) (sym alike) holding))
  ];
}

-- the keys are those of the touched tiles
abbrev pub AreKeys : List ℕ → List ℕ → Type 0
AreKeys keys touched = (key : ℕ) → Contains keys key ↔ Contains touched key

-- so they name the same tiles
pub Surround-keys :
    (blocks : ℕ → Option Piece) (keys touched : List ℕ) (squares : Point → Type 0) (list : List LaidTile) → AreKeys keys touched → Surround blocks keys squares list
    → Surround blocks touched squares list
Surround-keys blocks keys touched squares list members round = record {
  each = round.each;
  apart = λ k d within touches. round.apart k d within ((members (get_or list k d).id).1 touches);
  whole = λ p at one close inside. elim (round.whole p at one close inside) [
    | inl (k, key, within, is, held) ↦ inl (Any-contained (λ j. HoldsAt blocks j at) touched key ((members key).0 (k, within, is)) held)
    | inr some ↦ inr some
  ];
}

not_both : (b : Bool) → not b ≡ true → b ≡ true → ⊥
not_both true e f = let h : false ≡ true = e in cc
not_both false e f = cc

-- a found tile is touched, or is kept
held_or_kept :
    (blocks : ℕ → Option Piece) (keys : List ℕ) (found : List LaidTile) (tile : LaidTile) (at : Point) → Contains found tile → blocks tile.id ≡ Some tile.piece
    → holds tile.piece.rect at.x at.y ≡ true → IsHeld blocks keys at ⊎ Any (λ t. IsTrue (holds t.piece.rect at.x at.y)) (unlisted_of keys found)
held_or_kept blocks keys found tile at listed laid holding =
    elim (cases_Contains keys tile.id) [
      | inl touches ↦ inl (Any-contained (λ j. HoldsAt blocks j at) keys tile.id touches (HoldsAt-block blocks tile.id tile.piece at laid holding))
      | inr untouched ↦
          let unlisted : is_unlisted keys tile ≡ true = ap not (list_any-absent keys tile.id untouched) in
          inr (Any-contained (λ (t : LaidTile). IsTrue (holds t.piece.rect at.x at.y)) (unlisted_of keys found) tile (Contains-filter (is_unlisted keys) found tile listed unlisted) holding)
    ]

-- where an area was searched, its tiles that meet a smaller one are all of its
pub searched_inside :
    (blocks : ℕ → Option Piece) (searched : Option Rect) (inner : Rect) (list : List LaidTile) → AreBlocks blocks → AreSearched blocks searched list → IsSomeAnd searched (λ area. IsWithin area inner)
    → AreMet blocks inner (filter (λ (tile : LaidTile). meets tile.piece.rect inner) list)
searched_inside blocks None inner list tiling given inside = absurd inside
searched_inside blocks (Some area) inner list tiling (met, once) inside = AreMet-meeting blocks area inner list tiling met inside

-- which are at most all
pub searched_few :
    (tiles : List (ℕ × Tile)) (searched : Option Rect) (inner : Rect) (list : List LaidTile) → AreSearched (block_at tiles) searched list → IsSomeAnd searched (λ area. IsWithin area inner) → length list ≤ length tiles
searched_few tiles None inner list given inside = absurd inside
searched_few tiles (Some area) inner list (met, once) inside = length-le-AreLaid tiles list (λ k d within. (met.each k d within).laid) once

pub meeting_few : (list : List LaidTile) (area : Rect) → length (filter (λ (tile : LaidTile). meets tile.piece.rect area) list) ≤ length list
meeting_few list area =
    omega (arith, length-filter_both (λ (t : LaidTile). meets t.piece.rect area) (λ (t : LaidTile). not (meets t.piece.rect area)) (λ t. refl) list)

-- round bounds with all these squares these tiles were found
pub Surround-met :
    (blocks : ℕ → Option Piece) (keys : List ℕ) (squares : Point → Type 0) (bounds area : Rect) (found : List LaidTile) → AreBlocks blocks
    → ((p : Point) → squares p → holds bounds p.x p.y ≡ true) → IsRound bounds area → AreMet blocks area found → Surround blocks keys squares (unlisted_of keys found)
Surround-met blocks keys squares bounds area found tiling inside around met = record {
  each = All-filter (is_unlisted keys) (λ (t : LaidTile). blocks t.id ≡ Some t.piece) found (λ k d within. (met.each k d within).laid);
  apart =
      λ k d within. λ touches.
      not_both (list_any (λ j. j == (get_or (unlisted_of keys found) k d).id) keys) (filter_passes (is_unlisted keys) found k d within) (list_any-Contains keys _ touches);
  whole = λ p at one close in_world.
      let in_area = around at.x at.y ∙ both_true (close_in_grown bounds p at close (inside p one)) in_world in
      let (tile, listed, laid, holding) = met_square blocks area found at tiling met in_area in_world in
      held_or_kept blocks keys found tile at listed laid holding;
}

-- the squares of tiles in the bounds are squares of theirs
pub held_within : (blocks : ℕ → Option Piece) (bounds : Rect) (keys : List ℕ) (p : Point) → EncloseBlocks blocks bounds keys → IsHeld blocks keys p → holds bounds p.x p.y ≡ true
held_within blocks bounds keys p inside (k, key, within, is, held) =
    let (block, here, in_block) = there-IsSomeAnd (blocks key) (λ b. holds b.rect p.x p.y ≡ true) held in
    let reached : IsWithin bounds block.rect = subst (λ o. IfSome o (λ b. IsWithin bounds b.rect)) here (All-contains (λ j. IfSome (blocks j) (λ b. IsWithin bounds b.rect)) keys key inside (k, within, is)) in
    held_inside bounds block.rect p.x p.y reached in_block

-- these squares, and those of these parts
abbrev pub IsOneOrPart : (Point → Type 0) → List (Option Rect) → Point → Type 0
IsOneOrPart squares parts p = squares p ⊎ IsInPart parts p

pub parts_none :
    (blocks : ℕ → Option Piece) (keys : List ℕ) (squares : Point → Type 0) (list : List LaidTile) → Surround blocks keys squares list → Surround blocks keys (IsOneOrPart squares []) list
parts_none blocks keys squares list so_far =
    Surround-fewer blocks keys squares (IsOneOrPart squares []) list so_far
    (λ p either. elim either [
      | inl one ↦ one
      | inr (k, part, within, is, inside) ↦ absurd (omega (arith, within))
    ])

-- a part without squares was passed
pub parts_skip :
    (blocks : ℕ → Option Piece) (keys : List ℕ) (squares : Point → Type 0) (passed : List (Option Rect)) (list : List LaidTile) → Surround blocks keys (IsOneOrPart squares passed) list
    → Surround blocks keys (IsOneOrPart squares (passed ++ None ∷ [])) list
parts_skip blocks keys squares passed list so_far =
    Surround-fewer blocks keys (IsOneOrPart squares passed) (IsOneOrPart squares (passed ++ None ∷ [])) list so_far
    (λ p either. elim either [
      | inl one ↦ inl one
      | inr (k, part, within, is, inside) ↦ elim (Contains-push_cases passed None part (k, within, is)) [
        | inl earlier ↦ inr (Any-contained (λ o. IsSomeAnd o (λ r. IsTrue (holds r p.x p.y))) passed part earlier inside)
        | inr now ↦ absurd (subst (λ o. IsSomeAnd o (λ r. IsTrue (holds r p.x p.y))) (sym now) inside)
      ]
    ])

-- one more part was passed, round which these were found
pub parts_more :
    (blocks : ℕ → Option Piece) (keys : List ℕ) (squares : Point → Type 0) (passed : List (Option Rect)) (part area : Rect) (found list : List LaidTile) → AreBlocks blocks → IsRound part area
    → AreMet blocks area found → Surround blocks keys (IsOneOrPart squares passed) list → Surround blocks keys (IsOneOrPart squares (passed ++ Some part ∷ [])) (list ++ unlisted_of keys found)
parts_more blocks keys squares passed part area found list tiling around met so_far =
    let last = Surround-met blocks keys (λ p. holds part p.x p.y ≡ true) part area found tiling (λ p inside. inside) around met in
    Surround-fewer blocks keys (λ p. IsOneOrPart squares passed p ⊎ (holds part p.x p.y ≡ true)) (IsOneOrPart squares (passed ++ Some part ∷ [])) (list ++ unlisted_of keys found)
    (Surround-more blocks keys (IsOneOrPart squares passed) (λ p. holds part p.x p.y ≡ true) list (unlisted_of keys found) so_far last)
    (λ p either. elim either [
      | inl one ↦ inl (inl one)
      | inr (k, other, within, is, inside) ↦ elim (Contains-push_cases passed (Some part) other (k, within, is)) [
        | inl earlier ↦ inl (inr (Any-contained (λ o. IsSomeAnd o (λ r. IsTrue (holds r p.x p.y))) passed other earlier inside))
        | inr now ↦ inr (subst (λ o. IsSomeAnd o (λ r. IsTrue (holds r p.x p.y))) (sym now) inside)
      ]
    ])

-- one of the touched tiles before the index loses the square
abbrev pub IsLostBefore : (ℕ → Option Piece) → List ℕ → List Piece → ℕ → Point → Type 0
IsLostBefore blocks touched fresh index p = (lost : IsLost blocks touched fresh p) × (lost.place < index)

pub lost_none : (blocks : ℕ → Option Piece) (keys touched : List ℕ) (fresh : List Piece) → Surround blocks keys (IsLostBefore blocks touched fresh 0) []
lost_none blocks keys touched fresh = record { each = All-nil _; apart = All-nil _; whole = λ p at (lost, less). absurd (omega (arith, less)) }

-- no other one loses any
pub lost_all :
    (blocks : ℕ → Option Piece) (keys touched : List ℕ) (fresh : List Piece) (index : ℕ) (list : List LaidTile) → length touched ≤ index → Surround blocks keys (IsLostBefore blocks touched fresh index) list
    → Surround blocks keys (IsLost blocks touched fresh) list
lost_all blocks keys touched fresh index list all so_far =
    Surround-fewer blocks keys (IsLostBefore blocks touched fresh index) (IsLost blocks touched fresh) list so_far
    (λ p lost. (lost, omega (arith, all, slice_get_within touched lost.place lost.key lost.there)))

-- what the piece outside is is so of its rectangle
outside_rect : (fresh : Option Piece) (p : Point) → IfSome fresh (λ piece. holds piece.rect p.x p.y ≡ false) → IfSome (option_map (λ (piece : Piece). piece.rect) fresh) (λ rect. holds rect p.x p.y ≡ false)
outside_rect None p outside = tt
outside_rect (Some piece) p outside = outside

-- the squares that the tile at the index loses lie in these parts
pub lost_more :
    (blocks : ℕ → Option Piece) (keys touched : List ℕ) (fresh : List Piece) (index key : ℕ) (block : Piece) (other : Option Rect) (parts : List (Option Rect)) (list : List LaidTile)
    → slice_get touched index ≡ Some key → blocks key ≡ Some block → other ≡ option_map (λ (piece : Piece). piece.rect) (slice_get fresh index)
    → ((at : Point) → IsTrue (holds block.rect at.x at.y) → IfSome other (λ rect. holds rect at.x at.y ≡ false) → IsInPart parts at)
    → Surround blocks keys (IsOneOrPart (IsLostBefore blocks touched fresh index) parts) list → Surround blocks keys (IsLostBefore blocks touched fresh (index + 1)) list
lost_more blocks keys touched fresh index key block other parts list there here is_other beside so_far =
    Surround-fewer blocks keys (IsOneOrPart (IsLostBefore blocks touched fresh index) parts) (IsLostBefore blocks touched fresh (index + 1)) list so_far
    (λ p (lost, less). elim (cases_lt lost.place index) [
      | inl earlier ↦ inl (lost, earlier)
      | inr now ↦
          let same : lost.place ≡ index = omega (arith, now, less) in
          let its_key : lost.key ≡ key = same_Some lost.key key (sym lost.there ∙ ap (slice_get touched) same ∙ there) in
          let inside = holds-HoldsAt blocks key block p here (subst (λ j. HoldsAt blocks j p) its_key lost.held) in
          let outside = outside_rect (slice_get fresh index) p (subst (λ i. IfSome (slice_get fresh i) (λ piece. holds piece.rect p.x p.y ≡ false)) same lost.outside) in
          inr (beside p inside (subst (λ o. IfSome o (λ rect. holds rect p.x p.y ≡ false)) (sym is_other) outside))
    ])

-- a lost square is one of a touched tile
pub lost_held : (blocks : ℕ → Option Piece) (touched : List ℕ) (fresh : List Piece) (p : Point) → IsLost blocks touched fresh p → IsHeld blocks touched p
lost_held blocks touched fresh p lost =
    let within = slice_get_within touched lost.place lost.key lost.there in
    (lost.place, lost.key, within, get_or_from_slice_get touched lost.place lost.key lost.key lost.there, lost.held)
