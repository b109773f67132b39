-- Lists of tiles with their keys, and what stands under a key.
use Rattle.std.proofs.Common.{◌≡◌, ℕ, zero, suc, ◌+◌, ◌<◌, ◌≤◌, eqb, List, [], ◌∷◌, map, length, get_or, Option, Some, None, refl, sym, ap, ◌∙◌, inl, inr, zero-add, arith}
use Rattle.mls_tilepool.proofs.Common.{AllPairs, Contains, cases_eq, cond-true, cond-false, eq-eqb, ne_eqb, entries_from, Contains-cons, Held, Pool, owned, tiles_of, tile_in, tile_at, Tile}
use Rattle.std.proofs.Math.ListN.{get_or-map}

-- a tile found under a key stands in the list
pub tile_in_contains : (list : List (ℕ × Tile)) (key : ℕ) (tile : Tile) → tile_in list key ≡ Some tile → Contains list (key, tile)
tile_in_contains [] key tile found = cc
tile_in_contains (entry ∷ rest) key tile found =
    elim (cases_eq entry.0 key) [
      | inl same ↦
          let here : Some entry.1 ≡ Some tile = sym (cond-true _ (Some entry.1) (tile_in rest key) (eq-eqb entry.0 key same)) ∙ found in
          let tiles : entry.1 ≡ tile = cc in
          (0, omega arith, (ap (λ k. (k, entry.1)) same ∙ ap (λ t. (key, t)) tiles))
      | inr differs ↦
          Contains-cons entry (key, tile) rest
          (tile_in_contains rest key tile (sym (cond-false _ (Some entry.1) (tile_in rest key) (ne_eqb entry.0 key differs)) ∙ found))
    ]

-- keys of entries begin at the first
entries_from-past : (first : ℕ) (slots : List (Option Tile)) (i : ℕ) (d : ℕ × Tile) → i < length (entries_from first slots) → first ≤ (get_or (entries_from first slots) i d).0
entries_from-past first [] i d within = absurd (omega (arith, within))
entries_from-past first (None ∷ rest) i d within = omega (arith, entries_from-past (first + 1) rest i d within)
entries_from-past first (Some tile ∷ rest) zero d within = omega arith
entries_from-past first (Some tile ∷ rest) (suc i) d within = omega (arith, entries_from-past (first + 1) rest i d (omega (arith, within)))

-- entries stand by rising key
pub entries_from-ascend : (first : ℕ) (slots : List (Option Tile)) → AllPairs (λ a b. a.0 < b.0) (entries_from first slots)
entries_from-ascend first [] i j d before within = absurd (omega (arith, within))
entries_from-ascend first (None ∷ rest) i j d before within = entries_from-ascend (first + 1) rest i j d before within
entries_from-ascend first (Some tile ∷ rest) i zero d before within = absurd (omega (arith, before))
entries_from-ascend first (Some tile ∷ rest) zero (suc j) d before within = omega (arith, entries_from-past (first + 1) rest j d (omega (arith, within)))
entries_from-ascend first (Some tile ∷ rest) (suc i) (suc j) d before within =
    entries_from-ascend (first + 1) rest i j d (omega (arith, before)) (omega (arith, within))

-- nothing stands under a key before the first
tile_in-before : (first key : ℕ) (slots : List (Option Tile)) → key < first → tile_in (entries_from first slots) key ≡ None
tile_in-before first key [] before = refl
tile_in-before first key (None ∷ rest) before = tile_in-before (first + 1) key rest (omega arith)
tile_in-before first key (Some tile ∷ rest) before =
    cond-false _ _ _ (ne_eqb first key (λ same. absurd (omega arith))) ∙ tile_in-before (first + 1) key rest (omega arith)

-- under each key stands what its slot has
pub tile_in-entries : (first key : ℕ) (slots : List (Option Tile)) → tile_in (entries_from first slots) (first + key) ≡ get_or slots key None
tile_in-entries first key [] = refl
tile_in-entries first zero (None ∷ rest) = tile_in-before (first + 1) (first + 0) rest (omega arith)
tile_in-entries first (suc key) (None ∷ rest) =
    let shift : first + suc key ≡ first + 1 + key = omega arith in
    rw shift (tile_in-entries (first + 1) key rest)
tile_in-entries first zero (Some tile ∷ rest) = cond-true _ _ _ (eq-eqb first (first + 0) (omega arith))
tile_in-entries first (suc key) (Some tile ∷ rest) =
    let shift : first + suc key ≡ first + 1 + key = omega arith in
    cond-false _ _ _ (ne_eqb first (first + suc key) (λ same. absurd (omega arith))) ∙ rw shift (tile_in-entries (first + 1) key rest)

-- the owner's tile under a key is that of the key's place
pub tile_at-place : (pool : Pool) (owner key : ℕ) → tile_at pool owner key ≡ owned owner (get_or pool.places key None)
unfolding tiles_of
tile_at-place pool owner key =
    ap (λ k. tile_in (entries_from 0 (map (owned owner) pool.places)) k) (sym (zero-add key))
    ∙ tile_in-entries 0 key (map (owned owner) pool.places)
    ∙ get_or-map (owned owner) pool.places key None

-- an owner's tiles stand by rising key, so no key stands twice
pub tiles_of-ascend : (pool : Pool) (owner : ℕ) → AllPairs (λ a b. a.0 < b.0) (tiles_of pool owner)
unfolding tiles_of
tiles_of-ascend pool owner = entries_from-ascend 0 (map (owned owner) pool.places)

-- what is owned is under this owner
owned-owner : (owner : ℕ) (slot : Option Held) (tile : Tile) → owned owner slot ≡ Some tile → (held : Held) × (slot ≡ Some held) × (held.owner ≡ owner)
owned-owner owner None tile has = cc
owned-owner owner (Some held) tile has =
    elim (cases_eq held.owner owner) [
      | inl same ↦ (held, refl, same)
      | inr differs ↦ let none = cond-false (eqb held.owner owner) (Some held.tile) None (ne_eqb held.owner owner differs) in cc
    ]

-- two owners with a tile under one key are one owner
pub tile_has_one_owner :
    (pool : Pool) (first second key : ℕ) (tile other : Tile) → tile_at pool first key ≡ Some tile → tile_at pool second key ≡ Some other → first ≡ second
tile_has_one_owner pool first second key tile other has has' =
    let slot = get_or pool.places key None in
    let a = owned-owner first slot tile (sym (tile_at-place pool first key) ∙ has) in
    let b = owned-owner second slot other (sym (tile_at-place pool second key) ∙ has') in
    let both : Some a.0 ≡ Some b.0 = sym a.1 ∙ b.1 in
    let same : a.0 ≡ b.0 = cc in
    sym a.2 ∙ ap (λ held. held.owner) same ∙ b.2
