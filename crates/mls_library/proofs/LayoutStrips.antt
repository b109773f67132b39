-- The strips of a layout, plane by plane.
use Rattle.std.proofs.Common.{◌≡◌, ℕ, zero, suc, ◌+◌, ◌<◌, ◌≤◌, Bool, true, false, ◌||◌, List, [], ◌∷◌, ◌++◌, length, map, get_or, nat_lt, inl, inr, refl, sym, ap, ◌∙◌, subst, length-append, arith}
use Rattle.std.specs.Prelude.{Result, Ok, Err, IfErr, IsErrAnd}
use Rattle.std.specs.List.{list_any, range_with_len}
use Rattle.std.proofs.lemmas.Bool.{cases_eq, lt-ltb}
use Rattle.std.proofs.lemmas.List.{get_or_append_left, get_or_push, map-append}
use Rattle.std.proofs.lemmas.List.Elements.{All-push}
use Rattle.mls_geom.specs.TileCounts.{tile_count}
use Rattle.mls_geom.specs.World.{world}
use Rattle.mls_geom.specs.declared.piece.Piece.{Piece}
use Rattle.mls_library.specs.CellFiles.{layout_of_rects}
use Rattle.mls_library.specs.Faults.{UnlessMemory}
use Rattle.mls_library.specs.Inner.{AreLayoutStrips, ArePlaneStrips, IsFrozenList}
use Rattle.mls_library.specs.Libraries.{tile_counts}
use Rattle.mls_library.specs.declared.cell_rect.CellRect.{CellRect}
use Rattle.mls_library.specs.declared.fault.CellFault.{CellFault}
use Rattle.mls_library.specs.declared.fault.CellFaultKind.TheVariants.{TooManyTiles}
use Rattle.mls_library.proofs.Ranges.{range-push}

module _ (most : ℕ) (rects : List CellRect) where
  abbrev count_at : ℕ → ℕ
  count_at plane = tile_count world (layout_of_rects rects plane)

  tile_counts-push : (n : ℕ) → tile_counts (suc n) rects ≡ tile_counts n rects ++ count_at n ∷ []
  tile_counts-push n =
      ap (map count_at) (range-push 0 n) ∙ map-append count_at (range_with_len 0 n) ((0 + n) ∷ [])
      ∙ ap (λ p. map count_at (range_with_len 0 n) ++ count_at p ∷ []) (omega arith)

  module _ (lists : List (List Piece)) (list : List Piece) where
    longer : length (lists ++ list ∷ []) ≡ suc (length lists)
    longer = length-append lists (list ∷ []) ∙ (omega arith)

    -- one plane more
    pub AreLayoutStrips-push :
        AreLayoutStrips most rects lists → ArePlaneStrips (layout_of_rects rects (length lists)) list → length list ≤ most → length list ≡ count_at (length lists)
        → AreLayoutStrips most rects (lists ++ list ∷ [])
    AreLayoutStrips-push before strips few count = record {
      each = each;
      few = All-push (λ l. length l ≤ most) lists list before.few few;
      counts =
          map-append (λ l. length l) lists (list ∷ []) ∙ ap (λ counts. counts ++ length list ∷ []) before.counts ∙ ap (λ n. tile_counts (length lists) rects ++ n ∷ []) count
          ∙ sym (tile_counts-push (length lists)) ∙ ap (λ n. tile_counts n rects) (sym longer);
    }
      where
        each : (plane : ℕ) (d : List Piece) → plane < length (lists ++ list ∷ []) → ArePlaneStrips (layout_of_rects rects plane) (get_or (lists ++ list ∷ []) plane d)
        each plane d within = elim (cases_eq plane (length lists)) [
          | inl same ↦
              subst (ArePlaneStrips (layout_of_rects rects plane)) (sym (get_or_push lists list d plane (sym same)))
              (subst (λ p. ArePlaneStrips (layout_of_rects rects p) list) (sym same) strips)
          | inr differ ↦
              let before_it : plane < length lists = omega (arith, within, longer, differ) in
              subst (ArePlaneStrips (layout_of_rects rects plane)) (sym (get_or_append_left lists (list ∷ []) d plane before_it)) (before.each plane d before_it)
        ]

-- a plane that has too many tiles is found
or-true : (a b : Bool) → b ≡ true → (a || b) ≡ true
or-true true b e = refl
or-true false b e = e

any-in_range : (f : ℕ → ℕ) (p : ℕ → Bool) (a n k : ℕ) → k < n → p (f (a + k)) ≡ true → list_any p (map f (range_with_len a n)) ≡ true
any-in_range f p a zero k within e = absurd (omega (arith, within))
any-in_range f p a (suc n) zero within e =
    let at : p (f a) ≡ true = subst (λ x. p (f x) ≡ true) (omega arith) e in
    ap (λ b. b || list_any p (map f (range_with_len (a + 1) n))) at
any-in_range f p a (suc n) (suc k) within e =
    or-true (p (f a)) (list_any p (map f (range_with_len (a + 1) n)))
    (any-in_range f p (a + 1) n k (omega (arith, within)) (subst (λ x. p (f x) ≡ true) (omega arith) e))

pub tile_counts-any : (most : ℕ) (rects : List CellRect) (planes plane : ℕ) → plane < planes → most < tile_count world (layout_of_rects rects plane)
    → list_any (λ count. nat_lt most count) (tile_counts planes rects) ≡ true
tile_counts-any most rects planes plane within many =
    any-in_range (λ p. tile_count world (layout_of_rects rects p)) (λ count. nat_lt most count) 0 planes plane within
    (lt-ltb most _ (subst (λ p. most < tile_count world (layout_of_rects rects p)) (omega arith) many))

-- and is the fault of the cell
pub too_many : {A P : Type 0} (result : Result A CellFault) → IsErrAnd result (λ fault. fault ≡ record { line = 0; kind = TooManyTiles }) → P
    → IfErr result (λ fault. UnlessMemory fault.kind fault.line ((fault ≡ record { line = 0; kind = TooManyTiles }) × P))
too_many (Ok x) h p = tt
too_many (Err fault) h p = rw h (refl, p)

-- a plane has a strip
pub some_strip : (list : List Piece) → IsFrozenList list → 1 ≤ length list
some_strip list frozen = let found = frozen.strips.whole 3145728 3145728 refl in omega (arith, found.2)
