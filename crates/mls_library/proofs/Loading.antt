-- A cell is loaded, or its first fault is found.
use Rattle.std.proofs.Common.{◌≡◌, ℕ, suc, ◌<◌, ◌≤◌, Bool, true, false, cond, List, [], ◌∷◌, length, map, get_or, nat_lt, Option, Some, None, All, refl, sym, ap, ◌∙◌, subst, arith}
use Rattle.std.specs.Prelude.{Result, Ok, Err, IsErrAnd}
use Rattle.std.specs.List.{list_any}
use Rattle.std.proofs.lemmas.Bool.{lt-ltb}
use Rattle.std.proofs.lemmas.List.{get_or-map, length-map}
use Rattle.std.proofs.lemmas.Simd.{map-map}
use Rattle.std.proofs.lemmas.Bool.Decides.{nat_tests}
use Rattle.mls_geom.specs.Locality.{AreUnorderedStrips}
use Rattle.mls_geom.specs.World.{world}
use Rattle.mls_geom.specs.declared.piece.Piece.{Piece}
use Rattle.mls_tech.specs.Readings.{Tech}
use Rattle.mls_tilepool.specs.Pools.{Pool, unreserved}
use Rattle.mls_library.specs.CellFiles.{reading_of}
use Rattle.mls_library.specs.Faults.{UnlessMemory}
use Rattle.mls_library.specs.Inner.{AreLayoutStrips, IsFrozenList}
use Rattle.mls_library.specs.Libraries.{Library, LoadsUnlessMemory, loading_of, most_tiles, name_fault, names_of, room_fault, tile_counts, total, unless_fault, with_room}
use Rattle.mls_library.specs.declared.cell_rect.CellRect.{CellRect}
use Rattle.mls_library.specs.declared.fault.CellFault.{CellFault}
use Rattle.mls_library.specs.declared.fault.CellFaultKind.{CellFaultKind}
use Rattle.mls_library.specs.declared.fault.CellFaultKind.TheVariants.{Memory, PoolFull, TooManyTiles}

-- what follows from a fact holds unless memory ran out
pub UnlessMemory-map : {P Q : Type 0} (kind : CellFaultKind) (line : ℕ) → UnlessMemory kind line P → (P → Q) → UnlessMemory kind line Q
UnlessMemory-map Memory line e f = e
UnlessMemory-map kind line p f = f p

-- ---- room
module _ (most free : ℕ) (counts : List ℕ) where
  abbrev room_if : Bool → Bool → Option CellFaultKind
  room_if many full = cond many (Some TooManyTiles) (cond full (Some PoolFull) None)

  room_fault-tests : (many full : Bool) → list_any (λ count. nat_lt most count) counts ≡ many → nat_lt free (total counts) ≡ full → room_fault most free counts ≡ room_if many full
  unfolding room_fault
  room_fault-tests many full e f = ap (λ b. room_if b (nat_lt free (total counts))) e ∙ ap (room_if many) f

  pub room_fault-tiles : list_any (λ count. nat_lt most count) counts ≡ true → room_fault most free counts ≡ Some TooManyTiles
  room_fault-tiles e = room_fault-tests true (nat_lt free (total counts)) e refl

  pub room_fault-full : list_any (λ count. nat_lt most count) counts ≡ false → free < total counts → room_fault most free counts ≡ Some PoolFull
  room_fault-full e full = room_fault-tests false true e (lt-ltb free (total counts) full)

  pub room_fault-none : list_any (λ count. nat_lt most count) counts ≡ false → total counts ≤ free → room_fault most free counts ≡ None
  room_fault-none e room =
      let fits : nat_lt free (total counts) ≡ false = grind (arith, nat_tests, room) in
      room_fault-tests false false e fits

-- ---- loading
module _ (tech : Tech) (names : List (List ℕ)) (most free : ℕ) (name bytes : List ℕ) where
  pub loading_of-name : (kind : CellFaultKind) → name_fault names name ≡ Some kind → loading_of tech names most free name bytes ≡ Err (record { line = 0; kind = kind })
  unfolding loading_of
  loading_of-name kind e = ap (λ fault. unless_fault fault (with_room tech.plane_count most free (reading_of tech bytes))) e

  module _ (named : name_fault names name ≡ None) where
    loading_of-read : (read : Result (List CellRect) CellFault) → reading_of tech bytes ≡ read → loading_of tech names most free name bytes ≡ with_room tech.plane_count most free read
    unfolding loading_of
    loading_of-read read e =
        ap (λ fault. unless_fault fault (with_room tech.plane_count most free (reading_of tech bytes))) named ∙ ap (with_room tech.plane_count most free) e

    pub loading_of-file : (fault : CellFault) → reading_of tech bytes ≡ Err fault → loading_of tech names most free name bytes ≡ Err fault
    loading_of-file fault e = loading_of-read (Err fault) e

    pub loading_of-room : (rects : List CellRect) (fault : Option CellFaultKind) → reading_of tech bytes ≡ Ok rects
        → room_fault most free (tile_counts tech.plane_count rects) ≡ fault → loading_of tech names most free name bytes ≡ unless_fault fault (Ok rects)
    loading_of-room rects fault e f = loading_of-read (Ok rects) e ∙ ap (λ found. unless_fault found (Ok rects)) f

-- a fault that is passed on is that of loading
pub LoadsUnlessMemory-fault :
    (tech : Tech) (most : ℕ) (before after : Pool) (cells more : Library) (name bytes : List ℕ) (fault : CellFault) (result : Result ℕ CellFault)
    → IsErrAnd result (λ passed. passed ≡ fault)
    → UnlessMemory fault.kind fault.line (loading_of tech (names_of cells) most (unreserved before) name bytes ≡ Err fault)
    → LoadsUnlessMemory tech most before after cells more name bytes result
LoadsUnlessMemory-fault tech most before after cells more name bytes fault (Ok id) passed known = absurd passed
LoadsUnlessMemory-fault tech most before after cells more name bytes fault (Err other) passed known = rw passed known

-- what holds of each of the images holds by way of the function
pub All-unmap : {X Y : Type 0} (f : X → Y) (P : Y → Type 0) (xs : List X) → All P (map f xs) → All (λ x. P (f x)) xs
All-unmap f P xs all k d within = subst P (get_or-map f xs k d (f d) within) (all k (f d) (rw length-map within))

-- lists within a limit are within a greater one
pub few-within : {X : Type 0} (items : X → List Piece) (lists : List X) (most greater : ℕ) → All (λ list. length (items list) ≤ most) lists → most ≤ greater
    → All (λ list. length (items list) ≤ greater) lists
few-within items lists most greater few within_it k d within =
    let fits : length (items (get_or lists k d)) ≤ most = few k d within in omega (arith, fits, within_it)

-- lists within the limit are not too long
pub few-any : (most : ℕ) (lists : List (List Piece)) → All (λ list. length list ≤ most) lists → list_any (λ count. nat_lt most count) (map (λ list. length list) lists) ≡ false
few-any most [] few = refl
few-any most (list ∷ lists) few =
    let first : nat_lt most (length list) ≡ false = let h : length list ≤ most = few 0 list (omega arith) in grind (arith, nat_tests) in
    rw first (few-any most lists (λ k d within. few (suc k) d (omega (arith, within))))

-- lists of strips, and how many there are on each plane
module _ {X : Type 0} (items : X → List Piece) (lists : List X) (rects : List CellRect) (planes most : ℕ) (strips : AreLayoutStrips most rects (map items lists)) (all : length lists ≡ planes) where
  pub counts_listed : map (λ list. length (items list)) lists ≡ tile_counts planes rects
  counts_listed = sym (map-map (λ list. length list) items lists) ∙ strips.counts ∙ ap (λ n. tile_counts n rects) (length-map lists items ∙ all)

  pub counts_few : list_any (λ count. nat_lt most count) (tile_counts planes rects) ≡ false
  counts_few =
      ap (list_any (λ count. nat_lt most count)) (ap (λ n. tile_counts n rects) (sym (length-map lists items ∙ all)) ∙ sym strips.counts)
      ∙ few-any most (map items lists) strips.few

  pub lists_frozen : most ≤ most_tiles → All (λ list. IsFrozenList (items list)) lists
  lists_frozen legal = All-unmap items IsFrozenList lists frozen
    where
      frozen : All IsFrozenList (map items lists)
      frozen k d within = record {
        strips = subst (λ picture. AreUnorderedStrips world picture (get_or (map items lists) k d)) (sym (strips.each k d within).shows) (strips.each k d within).strips;
        few = let few : length (get_or (map items lists) k d) ≤ most = strips.few k d within in omega (arith, few, legal);
      }
