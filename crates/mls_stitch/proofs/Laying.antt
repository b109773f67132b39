-- Tiles that give way in turn, one or more at a time.
use Rattle.std.proofs.Common.{◌≡◌, ◌≢◌, ◌⊎◌, ℕ, ◌+◌, ◌<◌, ◌≤◌, List, [], ◌∷◌, ◌++◌, length, map, Option, Some, None, IsSome, IfSome, get_or, take, drop, min, length-drop, All, AllPairs, Contains, inl, inr, refl, sym, ap, ◌∙◌, subst, append_assoc, append-nil, arith, zero, suc, length-append}
use Rattle.mls_stitch.proofs.Common.{slice_get, slice_index_or, cases_lt, get_or-drop, get_or-take, length-map, length-take, map-append, take-append-drop, take_more, All-append, All-cons, All-contains, All-drop, All-map, All-nil, Contains-append_cases, Contains-append_left, Contains-append_right, Contains-get_or, get_or_from_slice_get, slice_get-get_or, slice_get_within, Piece, AllPairs-append, Contains-first, Changes, IsOwner, Pool, count_of, room_of, tile_at, tile_in, tiles_of, Tile, keys_of, GiveWay, Lays, moved_tile, placed_at, unstitched, ChangesOnly, LaidTile}
use Rattle.mls_stitch.proofs.DistinctNumbers.{cases_Contains}
use Rattle.mls_stitch.proofs.FreshTiles.{Contains-first_or_rest, nothing_in_nil}

-- nothing is there
nothing_there : (o : Option Tile) → o ≡ None → IsSome o → ⊥
nothing_there o none there = let h = subst IsSome none there in cc

some_there : (o : Option Tile) (tile : Tile) → o ≡ Some tile → IsSome o
some_there o tile is = rw is refl

-- a laid tile is there
entry_there :
    {old new : List (ℕ × Tile)} {touched : List ℕ} {laid : List LaidTile} (way : GiveWay old new touched laid) (entry : LaidTile) → Contains laid entry
    → IsSome (tile_in new entry.id)
entry_there {old} {new} {touched} {laid} way entry found =
    some_there _ _ (All-contains (λ (e : LaidTile). tile_in new e.id ≡ Some (placed_at e.piece (tile_in old e.id))) laid entry way.placed found)

-- the key of a laid tile was touched or unused, and now names a tile
key_before : {old new : List (ℕ × Tile)} {touched : List ℕ} {laid : List LaidTile} (way : GiveWay old new touched laid) (key : ℕ) → Contains (keys_of laid) key → Contains touched key ⊎ (tile_in old key ≡ None)
key_before {old} {new} {touched} {laid} way key listed =
    let P : ℕ → Type 0 = λ k. Contains touched k ⊎ (tile_in old k ≡ None) in
    All-contains P (keys_of laid) key (All-map P (λ (e : LaidTile). e.id) laid way.unused) listed

key_after : {old new : List (ℕ × Tile)} {touched : List ℕ} {laid : List LaidTile} (way : GiveWay old new touched laid) (key : ℕ) → Contains (keys_of laid) key → IsSome (tile_in new key)
key_after {old} {new} {touched} {laid} way key listed =
    let P : ℕ → Type 0 = λ k. IsSome (tile_in new k) in
    let there : All (λ (e : LaidTile). P e.id) laid = λ k d within. entry_there way (get_or laid k d) (Contains-get_or laid k d within) in
    All-contains P (keys_of laid) key (All-map P (λ (e : LaidTile). e.id) laid there) listed

-- a tile that has not given way stays
pub GiveWay-stays : {old new : List (ℕ × Tile)} {touched : List ℕ} {laid : List LaidTile} (way : GiveWay old new touched laid) (key : ℕ) → ¬ (Contains touched key) → IsSome (tile_in old key) → tile_in new key ≡ tile_in old key
GiveWay-stays way key untouched there = way.kept key untouched (λ listed. elim (key_before way key listed) [
  | inl given ↦ untouched given
  | inr none ↦ nothing_there _ none there
])

-- a tile that is laid first stays where later ones are laid
laid_stays :
    {old mid new : List (ℕ × Tile)} {t1 t2 : List ℕ} {l1 l2 : List LaidTile} (a : GiveWay old mid t1 l1) (b : GiveWay mid new t2 l2) → All (λ key. IsSome (tile_in old key)) t2
    → ((key : ℕ) → Contains t2 key → ¬ (Contains t1 key)) → (key : ℕ) → IsSome (tile_in mid key) → Contains t1 key ⊎ (tile_in old key ≡ None) → (¬ (Contains t2 key)) × (¬ (Contains (keys_of l2) key))
laid_stays {old} {mid} {new} {t1} {t2} a b there apart key here before =
    let untouched : ¬ (Contains t2 key) = λ later. elim before [
      | inl first ↦ apart key later first
      | inr none ↦ nothing_there _ none (All-contains (λ k. IsSome (tile_in old k)) t2 key there later)
    ] in (
      untouched,
      λ listed. elim (key_before b key listed) [
        | inl later ↦ untouched later
        | inr none ↦ nothing_there _ none here
      ],
    )

-- a key that names no tile now was touched, or named none
before : {old mid : List (ℕ × Tile)} {t1 : List ℕ} {l1 : List LaidTile} (a : GiveWay old mid t1 l1) (t2 : List ℕ) (key : ℕ) → tile_in mid key ≡ None → Contains (t1 ++ t2) key ⊎ (tile_in old key ≡ None)
before {old} {mid} {t1} {l1} a t2 key none = elim (cases_Contains t1 key) [
  | inl touched ↦ inl (Contains-append_left t1 t2 key touched)
  | inr untouched ↦ inr (sym (a.kept key untouched (λ listed. nothing_there _ none (key_after a key listed))) ∙ none)
]

-- keys of lists that are joined
listed_first : (l1 l2 : List LaidTile) (key : ℕ) → Contains (keys_of l1) key → Contains (keys_of (l1 ++ l2)) key
listed_first l1 l2 key found = rw map-append (Contains-append_left (keys_of l1) (keys_of l2) key found)

listed_later : (l1 l2 : List LaidTile) (key : ℕ) → Contains (keys_of l2) key → Contains (keys_of (l1 ++ l2)) key
listed_later l1 l2 key found = rw map-append (Contains-append_right (keys_of l1) (keys_of l2) key found)

pub GiveWay-trans :
    {old mid new : List (ℕ × Tile)} {t1 t2 : List ℕ} {l1 l2 : List LaidTile} → GiveWay old mid t1 l1 → GiveWay mid new t2 l2 → All (λ key. IsSome (tile_in old key)) t2
    → ((key : ℕ) → Contains t2 key → ¬ (Contains t1 key)) → All (λ (e : LaidTile). ¬ (Contains t1 e.id)) l2 → GiveWay old new (t1 ++ t2) (l1 ++ l2)
GiveWay-trans {old} {mid} {new} {t1} {t2} {l1} {l2} a b there apart later = record {
  placed =
      All-append (λ (e : LaidTile). tile_in new e.id ≡ Some (placed_at e.piece (tile_in old e.id))) l1 l2
      (λ k d within.
      let stays = laid_stays a b there apart _ (entry_there a _ (Contains-get_or l1 k d within)) (a.unused k d within) in
      b.kept _ stays.0 stays.1 ∙ a.placed k d within)
      (λ k d within.
      let entry = get_or l2 k d in
      subst (λ o. tile_in new entry.id ≡ Some (placed_at entry.piece o)) (a.kept entry.id (later k d within) (λ listed. elim (b.unused k d within) [
        | inl touches ↦ elim (key_before a entry.id listed) [
          | inl first ↦ later k d within first
          | inr none ↦ nothing_there _ none (All-contains (λ key. IsSome (tile_in old key)) t2 entry.id there touches)
        ]
        | inr none ↦ nothing_there _ none (key_after a entry.id listed)
      ])) (b.placed k d within));
  once =
      AllPairs-append (λ (p q : LaidTile). p.id ≢ q.id) l1 l2 a.once b.once
      (λ k d within. λ j e within'. λ same.
      let here = entry_there a _ (Contains-get_or l1 k d within) in
      let stays = laid_stays a b there apart _ here (a.unused k d within) in
      elim (b.unused j e within') [
        | inl later ↦ stays.0 (subst (Contains t2) (sym same) later)
        | inr none ↦ nothing_there _ (ap (tile_in mid) same ∙ none) here
      ]);
  unused =
      All-append (λ (e : LaidTile). Contains (t1 ++ t2) e.id ⊎ (tile_in old e.id ≡ None)) l1 l2
      (λ k d within. elim (a.unused k d within) [
        | inl first ↦ inl (Contains-append_left t1 t2 _ first)
        | inr none ↦ inr none
      ])
      (λ k d within. elim (b.unused k d within) [
        | inl later ↦ inl (Contains-append_right t1 t2 _ later)
        | inr none ↦ before a t2 _ none
      ]);
  gone = λ key touched listed.
      let first : ¬ (Contains (keys_of l1) key) = λ found. listed (listed_first l1 l2 key found) in
      let later : ¬ (Contains (keys_of l2) key) = λ found. listed (listed_later l1 l2 key found) in
      elim (Contains-append_cases t1 t2 key touched) [
        | inl front ↦ b.kept key (λ back. apart key back front) later ∙ a.gone key front first
        | inr back ↦ b.gone key back later
      ];
  kept = λ key untouched listed.
      b.kept key (λ back. untouched (Contains-append_right t1 t2 key back)) (λ found. listed (listed_later l1 l2 key found))
      ∙ a.kept key (λ front. untouched (Contains-append_left t1 t2 key front)) (λ found. listed (listed_first l1 l2 key found));
  count = omega (arith, a.count, b.count, length-append t1 t2, length-append l1 l2);
}

-- nothing gives way
pub GiveWay-refl : (tiles : List (ℕ × Tile)) → GiveWay tiles tiles [] []
GiveWay-refl tiles = record {
  placed = All-nil _;
  once = λ i j d less within. absurd (omega arith);
  unused = All-nil _;
  gone = λ key touched. absurd (nothing_in_nil key touched);
  kept = λ key untouched listed. refl;
  count = omega arith;
}

abbrev laid_tile : ℕ → Piece → LaidTile
laid_tile key piece = record { id = key; piece = piece }

one_pair : {X : Type 0} (R : X → X → Type 0) (x : X) → AllPairs R (x ∷ [])
one_pair R x = λ i j d less within. absurd (omega arith)

one : {X : Type 0} (P : X → Type 0) (x : X) → P x → All P (x ∷ [])
one P x holds = All-cons P x [] holds (All-nil P)

abbrev IsLaidIn : List (ℕ × Tile) → List (ℕ × Tile) → LaidTile → Type 0
IsLaidIn old new entry = tile_in new entry.id ≡ Some (placed_at entry.piece (tile_in old entry.id))

abbrev DiffersIn : LaidTile → LaidTile → Type 0
DiffersIn p q = p.id ≢ q.id

abbrev WasUnused : List ℕ → List (ℕ × Tile) → LaidTile → Type 0
WasUnused touched tiles entry = Contains touched entry.id ⊎ (tile_in tiles entry.id ≡ None)

-- one tile is laid under a key that names none
pub GiveWay-add :
    (old new : Pool) (owner key : ℕ) (piece : Piece) → tile_at old owner key ≡ None → Changes old new owner key (Some (unstitched piece)) → count_of new owner ≡ count_of old owner + 1
    → GiveWay (tiles_of old owner) (tiles_of new owner) [] (laid_tile key piece ∷ [])
GiveWay-add old new owner key piece none changes count = record {
  placed = one (IsLaidIn (tiles_of old owner) (tiles_of new owner)) (laid_tile key piece) (rw none changes.changed);
  once = one_pair DiffersIn (laid_tile key piece);
  unused = one (WasUnused [] (tiles_of old owner)) (laid_tile key piece) (inr none);
  gone = λ other touched. absurd (nothing_in_nil other touched);
  kept = λ other untouched listed. changes.kept other (λ same. listed (Contains-first key other [] (sym same)));
  count = omega (arith, count);
}

-- the tile under a key moves to a piece
pub GiveWay-set :
    (old new : Pool) (owner key : ℕ) (piece : Piece) (tile : Tile) → tile_at old owner key ≡ Some tile → Changes old new owner key (Some (moved_tile piece tile)) → count_of new owner ≡ count_of old owner
    → GiveWay (tiles_of old owner) (tiles_of new owner) (key ∷ []) (laid_tile key piece ∷ [])
GiveWay-set old new owner key piece tile here changes count = record {
  placed = one (IsLaidIn (tiles_of old owner) (tiles_of new owner)) (laid_tile key piece) (rw here changes.changed);
  once = one_pair DiffersIn (laid_tile key piece);
  unused = one (WasUnused (key ∷ []) (tiles_of old owner)) (laid_tile key piece) (inl (Contains-first key key [] refl));
  gone = λ other touched listed. absurd (listed touched);
  kept = λ other untouched listed. changes.kept other (λ same. listed (Contains-first key other [] (sym same)));
  count = omega (arith, count);
}

-- one tile is removed
pub GiveWay-remove :
    (old new : Pool) (owner key : ℕ) → Changes old new owner key None → count_of new owner + 1 ≡ count_of old owner → GiveWay (tiles_of old owner) (tiles_of new owner) (key ∷ []) []
GiveWay-remove old new owner key changes count = record {
  placed = All-nil _;
  once = λ i j d less within. absurd (omega arith);
  unused = All-nil _;
  gone = λ other touched listed. elim (Contains-first_or_rest key other [] touched) [
    | inl same ↦ ap (tile_at new owner) (sym same) ∙ changes.changed
    | inr rest ↦ absurd (nothing_in_nil other rest)
  ];
  kept = λ other untouched listed. changes.kept other (λ same. untouched (Contains-first key other [] (sym same)));
  count = omega (arith, count);
}

-- the keys of tiles laid in turn are the touched ones as far as they go
again_in_turn :
    (k1 k2 t1 t2 : List ℕ) (n : ℕ) → length k1 ≡ length t1 → ((i : ℕ) → i < length t1 → slice_get k1 i ≡ slice_get t1 i)
    → ((i : ℕ) → i < length t2 → i < n → slice_get k2 i ≡ slice_get t2 i) → (i : ℕ) → i < length (t1 ++ t2) → i < length t1 + n → slice_get (k1 ++ k2) i ≡ slice_get (t1 ++ t2) i
again_in_turn [] k2 [] t2 n even first later i within within' = later i within (omega (arith, within'))
again_in_turn [] k2 (t ∷ t1) t2 n even first later i within within' = absurd (omega (arith, even))
again_in_turn (k ∷ k1) k2 [] t2 n even first later i within within' = absurd (omega (arith, even))
again_in_turn (k ∷ k1) k2 (t ∷ t1) t2 n even first later zero within within' = first zero (omega arith)
again_in_turn (k ∷ k1) k2 (t ∷ t1) t2 n even first later (suc i) within within' =
    again_in_turn k1 k2 t1 t2 n (omega (arith, even)) (λ j less. first (suc j) (omega (arith, less))) later i (omega (arith, within)) (omega (arith, within'))

length_keys : (laid : List LaidTile) (fresh : List Piece) → map (λ (e : LaidTile). e.piece) laid ≡ fresh → length (keys_of laid) ≡ length fresh
length_keys laid fresh pieces = length-map laid (λ (e : LaidTile). e.id) ∙ sym (length-map laid (λ (e : LaidTile). e.piece)) ∙ ap length pieces

Lays-trans :
    {old mid new : List (ℕ × Tile)} {t1 t2 : List ℕ} {f1 f2 : List Piece} {before between after : List LaidTile} (a : Lays old mid t1 f1 before between)
    (b : Lays mid new t2 f2 between after)
    → All (λ key. IsSome (tile_in old key)) t2 → ((key : ℕ) → Contains t2 key → ¬ (Contains t1 key))
    → All (λ (e : LaidTile). ¬ (Contains t1 e.id)) b.laid
    → ((i : ℕ) → i < length (t1 ++ t2) → i < length (f1 ++ f2) → slice_get (keys_of (a.laid ++ b.laid)) i ≡ slice_get (t1 ++ t2) i) → Lays old new (t1 ++ t2) (f1 ++ f2) before after
Lays-trans {before = before} a b there apart later again = record {
  laid = a.laid ++ b.laid;
  listed = b.listed ∙ ap (λ l. l ++ b.laid) a.listed ∙ append_assoc before a.laid b.laid;
  pieces = rw map-append (rw (a.pieces, b.pieces) refl);
  ways = GiveWay-trans a.ways b.ways there apart later;
  again = again;
}

-- where as many pieces were laid as tiles touched, each of those keys serves again
keys_again :
    {old mid : List (ℕ × Tile)} {touched : List ℕ} {fresh : List Piece} {before between : List LaidTile} (a : Lays old mid touched fresh before between) → length touched ≡ length fresh → (key : ℕ)
    → Contains touched key → Contains (keys_of a.laid) key
keys_again {touched = touched} {fresh = fresh} a even key (i, within, is) =
    let same : slice_get (keys_of a.laid) i ≡ Some key = a.again i within (omega (arith, within, even)) ∙ slice_get-get_or touched i key within ∙ ap Some is in
    (i, slice_get_within (keys_of a.laid) i key same, get_or_from_slice_get (keys_of a.laid) i key key same)

-- so none of them goes to a piece that is laid later
laid_later :
    {old mid new : List (ℕ × Tile)} {t1 t2 : List ℕ} {f1 : List Piece} {l2 before between : List LaidTile} (a : Lays old mid t1 f1 before between) → GiveWay mid new t2 l2 → ((key : ℕ) → Contains t2 key → ¬ (Contains t1 key))
    → length t1 ≡ length f1 → All (λ (e : LaidTile). ¬ (Contains t1 e.id)) l2
laid_later {l2 = l2} a b apart even = λ k d within. λ first. elim (b.unused k d within) [
  | inl touches ↦ apart (get_or l2 k d).id touches first
  | inr none ↦ nothing_there _ none (key_after a.ways (get_or l2 k d).id (keys_again a even (get_or l2 k d).id first))
]

-- pieces are laid in turn, at first as many as were touched
pub Lays-even :
    {old mid new : List (ℕ × Tile)} {t1 t2 : List ℕ} {f1 f2 : List Piece} {before between after : List LaidTile} (a : Lays old mid t1 f1 before between)
    (b : Lays mid new t2 f2 between after)
    → All (λ key. IsSome (tile_in old key)) t2 → ((key : ℕ) → Contains t2 key → ¬ (Contains t1 key)) → length t1 ≡ length f1 → Lays old new (t1 ++ t2) (f1 ++ f2) before after
Lays-even {t1 = t1} {t2 = t2} {f1 = f1} {f2 = f2} a b there apart even =
    Lays-trans a b there apart (laid_later a b.ways apart even) (λ i within within'.
    rw map-append (again_in_turn (keys_of a.laid) (keys_of b.laid) t1 t2 (length f2) (length_keys a.laid f1 a.pieces ∙ sym even) (λ j less. a.again j less (omega (arith, less, even))) b.again i within
    (omega (arith, within', even, length-append f1 f2))))

-- nothing is touched
pub Lays-untouched :
    {old mid new : List (ℕ × Tile)} {f1 f2 : List Piece} {before between after : List LaidTile} (a : Lays old mid [] f1 before between) (b : Lays mid new [] f2 between after)
    → Lays old new [] (f1 ++ f2) before after
Lays-untouched a b =
    Lays-trans a b (All-nil _) (λ key touched. absurd (nothing_in_nil key touched)) (λ k d within. λ first. nothing_in_nil _ first) (λ i within. absurd (omega (arith, within)))

pub Lays-refl : (tiles : List (ℕ × Tile)) (before : List LaidTile) → Lays tiles tiles [] [] before before
Lays-refl tiles before = record { laid = []; listed = sym (append-nil before); pieces = refl; ways = GiveWay-refl tiles; again = λ i within. absurd (omega (arith, within)) }

pub Lays-count : {old new : List (ℕ × Tile)} {touched : List ℕ} {fresh : List Piece} {before after : List LaidTile} → Lays old new touched fresh before after → length new + length touched ≡ length old + length fresh
Lays-count a = omega (arith, a.ways.count, length_keys a.laid _ a.pieces, length-map a.laid (λ (e : LaidTile). e.id))

-- one more piece is laid
laid_one : {old new : List (ℕ × Tile)} {before after : List LaidTile} (touched : List ℕ) (entry : LaidTile) → GiveWay old new touched (entry ∷ []) → after ≡ before ++ entry ∷ []
    → ((i : ℕ) → i < length touched → i < 1 → slice_get (entry.id ∷ []) i ≡ slice_get touched i) → Lays old new touched (entry.piece ∷ []) before after
laid_one touched entry ways listed again = record { laid = entry ∷ []; listed = listed; pieces = refl; ways = ways; again = again }

pub Lays-more :
    {old mid new : List (ℕ × Tile)} {before between after : List LaidTile} (pieces : List Piece) (i : ℕ) (entry : LaidTile) → i < length pieces → entry.piece ≡ get_or pieces i entry.piece
    → Lays old mid [] (take i pieces) before between → GiveWay mid new [] (entry ∷ []) → after ≡ between ++ entry ∷ [] → Lays old new [] (take (i + 1) pieces) before after
Lays-more {old} {mid} {new} {before} {between} {after} pieces i entry within is laid ways listed =
    let more : take (i + 1) pieces ≡ take i pieces ++ entry.piece ∷ [] = take_more pieces i entry.piece within ∙ ap (λ p. take i pieces ++ p ∷ []) (sym is) in
    rw more (Lays-untouched laid (laid_one [] entry ways listed (λ j less. absurd (omega (arith, less)))))

-- an element stands at one place only
not_before : (ids : List ℕ) (i key : ℕ) → i < length ids → key ≡ get_or ids i key → AllPairs (λ a b. a ≢ b) ids → ¬ (Contains (take i ids) key)
not_before ids i key within is once (k, less, same) =
    let less' : k < i = omega (arith, less, length-take i ids) in
    once k i key less' within (sym (get_or-take i ids k key less') ∙ same ∙ is)

only_first : (first : ℕ) (others : List ℕ) (key : ℕ) → Contains (first ∷ []) key → ¬ (Contains others first) → ¬ (Contains others key)
only_first first others key touched absent = elim (Contains-first_or_rest first key [] touched) [
  | inl same ↦ λ found. absent (subst (Contains others) (sym same) found)
  | inr rest ↦ absurd (nothing_in_nil key rest)
]

length_takes : (xs : List ℕ) (ys : List Piece) (i : ℕ) → i ≤ length xs → i ≤ length ys → length (take i xs) ≡ length (take i ys)
length_takes xs ys i within within' = omega (arith, length-take i xs, length-take i ys, within, within')

-- the tile of a touched key that is not among the first ones is still there
pub GiveWay-next :
    {old mid : List (ℕ × Tile)} {laid : List LaidTile} (ids : List ℕ) (i key : ℕ) → i < length ids → key ≡ get_or ids i key → AllPairs (λ a b. a ≢ b) ids → All (λ k. IsSome (tile_in old k)) ids
    → GiveWay old mid (take i ids) laid → (¬ (Contains (take i ids) key)) × IsSome (tile_in old key) × IsSome (tile_in mid key)
GiveWay-next {old} {mid} ids i key within is once there ways =
    let here : IsSome (tile_in old key) = rw is (there i key within) in
    let later : ¬ (Contains (take i ids) key) = not_before ids i key within is once in
    (later, here, subst IsSome (sym (GiveWay-stays ways key later here)) here)

-- and one more piece is laid under it
pub Lays-next :
    {old mid new : List (ℕ × Tile)} {before between after : List LaidTile} (ids : List ℕ) (pieces : List Piece) (i : ℕ) (entry : LaidTile) → i < length ids → i < length pieces
    → entry.id ≡ get_or ids i entry.id → entry.piece ≡ get_or pieces i entry.piece → AllPairs (λ a b. a ≢ b) ids → All (λ k. IsSome (tile_in old k)) ids
    → Lays old mid (take i ids) (take i pieces) before between → GiveWay mid new (entry.id ∷ []) (entry ∷ []) → after ≡ between ++ entry ∷ [] → Lays old new (take (i + 1) ids) (take (i + 1) pieces) before after
Lays-next {old} {mid} {new} {before} {between} {after} ids pieces i entry within within' is is' once there laid ways listed =
    let more_ids : take (i + 1) ids ≡ take i ids ++ entry.id ∷ [] = take_more ids i entry.id within ∙ ap (λ k. take i ids ++ k ∷ []) (sym is) in
    let more : take (i + 1) pieces ≡ take i pieces ++ entry.piece ∷ [] = take_more pieces i entry.piece within' ∙ ap (λ p. take i pieces ++ p ∷ []) (sym is') in
    let next = GiveWay-next ids i entry.id within is once there laid.ways in
    rw (more_ids, more)
    (Lays-even laid (laid_one (entry.id ∷ []) entry ways listed (λ j less less'. refl)) (All-cons (λ k. IsSome (tile_in old k)) entry.id [] next.1 (All-nil _))
    (λ key touched. only_first entry.id (take i ids) key touched next.0) (length_takes ids pieces i (omega (arith, within)) (omega (arith, within'))))

-- one more tile is removed
pub GiveWay-more :
    {old mid new : List (ℕ × Tile)} (ids : List ℕ) (i key : ℕ) → i < length ids → key ≡ get_or ids i key → AllPairs (λ a b. a ≢ b) ids → All (λ k. IsSome (tile_in old k)) ids
    → GiveWay old mid (take i ids) [] → GiveWay mid new (key ∷ []) [] → GiveWay old new (take (i + 1) ids) []
GiveWay-more {old} {mid} {new} ids i key within is once there first ways =
    let more_ids : take (i + 1) ids ≡ take i ids ++ key ∷ [] = take_more ids i key within ∙ ap (λ k. take i ids ++ k ∷ []) (sym is) in
    let next = GiveWay-next ids i key within is once there first in
    rw more_ids (GiveWay-trans first ways (All-cons (λ k. IsSome (tile_in old k)) key [] next.1 (All-nil _)) (λ other touched. only_first key (take i ids) other touched next.0) (All-nil _))

-- an owner stays one, and keeps its room
pub IsOwner-ChangesOnly : {old new : Pool} {owner : ℕ} (other : ℕ) → ChangesOnly old new owner → IsOwner old other → IsOwner new other
IsOwner-ChangesOnly other only live = subst (λ rooms. IsSome (slice_index_or rooms other None)) (sym only.rooms) live

pub room_of-ChangesOnly : {old new : Pool} {owner : ℕ} (other : ℕ) → ChangesOnly old new owner → room_of new other ≡ room_of old other
room_of-ChangesOnly other only = ap (λ rooms. slice_index_or rooms other None) only.rooms

-- with fewer tiles than are to fit the owner's room isn't full
pub not_full :
    (old mid : Pool) (owner n : ℕ) → ChangesOnly old mid owner → IfSome (room_of old owner) (λ room. count_of old owner + n ≤ room) → count_of mid owner < count_of old owner + n
    → ¬ (room_of mid owner ≡ Some (count_of mid owner))
not_full old mid owner n only fit few full =
    let fit' : count_of old owner + n ≤ count_of mid owner = subst (λ o. IfSome o (λ room. count_of old owner + n ≤ room)) (sym (room_of-ChangesOnly owner only) ∙ full) fit in
    omega (arith, fit', few)

-- touched tiles of which nothing takes the place, and then pieces with new keys; there are none of the one or of the other
Lays-surplus :
    {old mid new : List (ℕ × Tile)} {touched : List ℕ} {fresh : List Piece} {before after : List LaidTile} → GiveWay old mid touched [] → Lays mid new [] fresh before after
    → length touched ≡ 0 ⊎ (length fresh ≡ 0) → Lays old new touched fresh before after
Lays-surplus {touched = touched} {fresh = fresh} ways a either = record {
  laid = a.laid;
  listed = a.listed;
  pieces = a.pieces;
  ways =
      let later : All (λ (e : LaidTile). ¬ (Contains touched e.id)) a.laid = λ k d within. λ (j, less, is). elim either [
        | inl none ↦ absurd (omega (arith, less, none))
        | inr none ↦ absurd (omega (arith, within, none, length_keys a.laid fresh a.pieces, length-map a.laid (λ (e : LaidTile). e.id)))
      ] in
      let joined = GiveWay-trans ways a.ways (All-nil _) (λ key found. absurd (nothing_in_nil key found)) later in
      rw append-nil at joined;
  again = λ i within within'. elim either [
    | inl none ↦ absurd (omega (arith, within, none))
    | inr none ↦ absurd (omega (arith, within', none))
  ];
}

-- a key is in one part of a list only
one_part : (keys : List ℕ) (n key : ℕ) → AllPairs (λ a b. a ≢ b) keys → Contains (drop n keys) key → ¬ (Contains (take n keys) key)
one_part keys n key once (k, within, is) (j, less, same) =
    let less' : j < n = omega (arith, less, length-take n keys) in
    once j (n + k) key (omega (arith, less')) (omega (arith, within, length-drop n keys)) (sym (get_or-take n keys j key less') ∙ same ∙ sym is ∙ get_or-drop n keys k key)

-- the later touched tiles are still there when the first ones have given way
pub drop-there :
    {old mid : List (ℕ × Tile)} {laid : List LaidTile} (touched : List ℕ) (n : ℕ) → AllPairs (λ a b. a ≢ b) touched → All (λ k. IsSome (tile_in old k)) touched → GiveWay old mid (take n touched) laid
    → All (λ k. IsSome (tile_in mid k)) (drop n touched)
drop-there {old} {mid} touched n once there ways k d within =
    let here = All-drop (λ key. IsSome (tile_in old key)) n touched there k d within in
    subst IsSome (sym (GiveWay-stays ways (get_or (drop n touched) k d) (one_part touched n (get_or (drop n touched) k d) once (Contains-get_or (drop n touched) k d within)) here)) here

-- the first pieces under the first touched keys, and then the rest
pub Lays-instead :
    {old mid low new : List (ℕ × Tile)} {before between after : List LaidTile} (touched : List ℕ) (fresh : List Piece) (n : ℕ) → n ≡ min (length touched) (length fresh)
    → AllPairs (λ a b. a ≢ b) touched → All (λ k. IsSome (tile_in old k)) touched → Lays old mid (take n touched) (take n fresh) before between → GiveWay mid low (drop n touched) []
    → Lays low new [] (drop n fresh) between after → Lays old new touched fresh before after
Lays-instead {old} {mid} {low} {new} {before} {between} {after} touched fresh n shared once there first gone rest =
    let either : length (drop n touched) ≡ 0 ⊎ (length (drop n fresh) ≡ 0) = elim (cases_lt (length touched) (length fresh)) [
      | inl less ↦ inl (omega (arith, less, shared, length-drop n touched))
      | inr more ↦ inr (omega (arith, more, shared, length-drop n fresh))
    ] in
    let joined =
    Lays-even first (Lays-surplus gone rest either) (All-drop (λ k. IsSome (tile_in old k)) n touched there) (λ key later. one_part touched n key once later)
    (length_takes touched fresh n (omega (arith, shared)) (omega (arith, shared))) in
    rw (take-append-drop n touched, take-append-drop n fresh) at joined

-- the list is longer by the pieces
pub Lays-long : {old new : List (ℕ × Tile)} {touched : List ℕ} {fresh : List Piece} {before after : List LaidTile} → Lays old new touched fresh before after → length after ≡ length before + length fresh
Lays-long {before = before} a = ap length a.listed ∙ length-append before a.laid ∙ omega (arith, length_keys a.laid _ a.pieces, length-map a.laid (λ (e : LaidTile). e.id))
