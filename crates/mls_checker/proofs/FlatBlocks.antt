-- Whether two pictures are the same in a zone, from blocks of it, and from tiles of one of them.
use Rattle.std.proofs.Common.{◌≡◌, ◌↔◌, ℕ, ◌+◌, ◌-◌, ◌*◌, ◌<◌, ◌≤◌, min, nat_lt, true, false, inl, inr, ◌⊎◌, List, get_or, All, sym, ap, subst, ◌∙◌, arith}
use Rattle.std.proofs.Math.Path.{fun_ext}
use Rattle.std.proofs.lemmas.Bool.{and_from, and_parts, cases_Bool, cases_lt, cond-false, cond-true}
use Rattle.std.proofs.lemmas.Bool.Decides.{nat_tests}
use Rattle.std.proofs.lemmas.List.Elements.{All-contains}
use Rattle.mls_geom.specs.Pictures.{Picture}
use Rattle.mls_geom.specs.Rects.{Rect, IsRectangleIn, holds}
use Rattle.mls_geom.specs.World.{world}
use Rattle.mls_geom.proofs.Holds.{between_holds, holds_between, holds_common}
use Rattle.mls_layout.specs.Grids.{IsBlock}
use Rattle.mls_checker.specs.FlatZones.{HasTileIn, SameIn, block_from, lines_after}
use Rattle.mls_checker.specs.Tiles.{AreTiles, HasTile, Tile, outer}
use Rattle.mls_checker.proofs.Copying.{cut}

-- ---- the whole zone
-- a picture that is space outside the zone is what another has in the zone where they are the same in it
pub cut-from_same : (zone : Rect) (mine picture : Picture) → ((x y : ℕ) → holds zone x y ≡ false → mine x y ≡ 0) → SameIn zone mine picture → mine ≡ cut picture zone
cut-from_same zone mine picture space same = fun_ext (λ x. fun_ext (λ y. elim (cases_Bool (holds zone x y)) [
  | inl here ↦ same x y here ∙ sym (cond-true (holds zone x y) (picture x y) 0 here)
  | inr outside ↦ space x y outside ∙ sym (cond-false (holds zone x y) (picture x y) 0 outside)
]))

pub same-from_cut : (zone : Rect) (mine picture : Picture) → mine ≡ cut picture zone → SameIn zone mine picture
same-from_cut zone mine picture is x y here = ap (λ (p : Picture). p x y) is ∙ cond-true (holds zone x y) (picture x y) 0 here

-- pictures that are the same in the zone have the same squares there
pub cut-same : (zone : Rect) (a b : Picture) → SameIn zone a b → cut a zone ≡ cut b zone
cut-same zone a b same = cut-from_same zone (cut a zone) b (λ x y outside. cond-false (holds zone x y) (a x y) 0 outside) (λ x y here. cond-true (holds zone x y) (a x y) 0 here ∙ same x y here)

-- ---- blocks, row after row
-- the rows below a line, and the row of blocks on it as far as a column
abbrev pub rows_below : Rect → ℕ → Rect
rows_below zone bottom = record zone { top = bottom }

abbrev pub blocks_before : Rect → ℕ → ℕ → Rect
blocks_before zone left bottom = record { left = zone.left; bottom = bottom; right = left; top = min zone.top (bottom + 512) }

-- the pictures are the same in the blocks before the one that begins at these lines
pub record BlocksSame (zone : Rect) (mine picture : Picture) (left bottom : ℕ) : Type 0 where
  pub from : zone.left ≤ left
  pub to : left < zone.right
  pub low : zone.bottom ≤ bottom
  pub high : bottom ≤ zone.top
  pub rows : SameIn (rows_below zone bottom) mine picture
  pub blocks : SameIn (blocks_before zone left bottom) mine picture

module _ (zone : Rect) (mine picture : Picture) where
  none-same : (e : Rect) → (e.right ≤ e.left) ⊎ (e.top ≤ e.bottom) → SameIn e mine picture
  none-same e none x y here = let lines = holds_between e x y here in absurd (elim none [
    | inl narrow ↦ omega (arith, lines.0, lines.1, narrow)
    | inr flat ↦ omega (arith, lines.2, lines.3, flat)
  ])

  -- at first none has to be
  pub BlocksSame-first : (left bottom : ℕ) → left ≡ zone.left → bottom ≡ zone.bottom → IsRectangleIn world zone → BlocksSame zone mine picture left bottom
  BlocksSame-first left bottom first lowest legal = record {
    from = omega (arith, first);
    to = omega (arith, first, legal.wide);
    low = omega (arith, lowest);
    high = omega (arith, lowest, legal.tall);
    rows = none-same (rows_below zone bottom) (inr (omega (arith, lowest)));
    blocks = none-same (blocks_before zone left bottom) (inl (omega (arith, first)));
  }

  -- a block more
  wider-same : (left bottom : ℕ) → BlocksSame zone mine picture left bottom → SameIn (block_from zone left bottom) mine picture
      → SameIn (blocks_before zone (min zone.right (left + 512)) bottom) mine picture
  wider-same left bottom so_far more x y here =
      let lines = holds_between (blocks_before zone (min zone.right (left + 512)) bottom) x y here in
      elim (cases_lt x left) [
        | inl before ↦ so_far.blocks x y (between_holds (blocks_before zone left bottom) x y lines.0 before lines.2 lines.3)
        | inr behind ↦ more x y (between_holds (block_from zone left bottom) x y behind lines.1 lines.2 lines.3)
      ]

  higher-same : (left bottom : ℕ) → BlocksSame zone mine picture left bottom → SameIn (blocks_before zone zone.right bottom) mine picture
      → SameIn (rows_below zone (min zone.top (bottom + 512))) mine picture
  higher-same left bottom so_far row x y here =
      let lines = holds_between (rows_below zone (min zone.top (bottom + 512))) x y here in
      elim (cases_lt y bottom) [
        | inl below ↦ so_far.rows x y (between_holds (rows_below zone bottom) x y lines.0 lines.1 lines.2 below)
        | inr above ↦ row x y (between_holds (blocks_before zone zone.right bottom) x y lines.0 lines.1 above lines.3)
      ]

  pub BlocksSame-next : (left bottom : ℕ) → BlocksSame zone mine picture left bottom → bottom < zone.top → SameIn (block_from zone left bottom) mine picture
      → BlocksSame zone mine picture (lines_after zone (block_from zone left bottom)).0 (lines_after zone (block_from zone left bottom)).1
  BlocksSame-next left bottom so_far inside more =
      let right = min zone.right (left + 512) in
      let top = min zone.top (bottom + 512) in
      let row = wider-same left bottom so_far more in
      elim (cases_Bool (nat_lt right zone.right)) [
        | inl wider ↦ subst (λ (lines : ℕ × ℕ). BlocksSame zone mine picture lines.0 lines.1) (sym (cond-true (nat_lt right zone.right) (right, bottom) (zone.left, top) wider)) (record {
          from = omega (arith, so_far.from, so_far.to);
          to = grind (arith, nat_tests);
          low = so_far.low;
          high = so_far.high;
          rows = so_far.rows;
          blocks = row;
        })
        | inr last ↦ subst (λ (lines : ℕ × ℕ). BlocksSame zone mine picture lines.0 lines.1) (sym (cond-false (nat_lt right zone.right) (right, bottom) (zone.left, top) last)) (
            let whole : right ≡ zone.right = grind (arith, nat_tests) in
            record {
              from = omega arith;
              to = omega (arith, so_far.from, so_far.to);
              low = omega (arith, so_far.low, inside);
              high = omega arith;
              rows = higher-same left bottom so_far (subst (λ (line : ℕ). SameIn (blocks_before zone line bottom) mine picture) whole row);
              blocks = none-same (blocks_before zone zone.left top) (inl (omega arith));
            })
      ]

  -- so in the end all are
  pub BlocksSame-all : (left bottom : ℕ) → zone.top ≤ bottom → BlocksSame zone mine picture left bottom → SameIn zone mine picture
  BlocksSame-all left bottom past same x y here =
      let lines = holds_between zone x y here in same.rows x y (between_holds (rows_below zone bottom) x y lines.0 lines.1 lines.2 (omega (arith, lines.3, past)))

  -- what is the same in the zone is in each block of it
  pub SameIn-block : (left bottom : ℕ) → zone.left ≤ left → zone.bottom ≤ bottom → SameIn zone mine picture → SameIn (block_from zone left bottom) mine picture
  SameIn-block left bottom from low same x y here =
      let lines = holds_between (block_from zone left bottom) x y here in
      same x y (between_holds zone x y (omega (arith, from, lines.0)) (omega (arith, lines.1)) (omega (arith, low, lines.2)) (omega (arith, lines.3)))

-- the block is one, and it has fewer squares behind it
pub block_from-IsBlock : (zone : Rect) (left bottom : ℕ) → IsRectangleIn world zone → zone.left ≤ left → left < zone.right → zone.bottom ≤ bottom → bottom < zone.top → IsBlock (block_from zone left bottom)
block_from-IsBlock zone left bottom legal from to low high = record {
  legal = grind arith;
  narrow = omega arith;
  low = omega arith;
}

abbrev pub lines_left : Rect → ℕ → ℕ → ℕ
lines_left zone left bottom = (zone.top - bottom) * 16777216 + (zone.right - left)

pub lines_left-fewer :
    (zone : Rect) (left bottom : ℕ) → IsRectangleIn world zone → zone.left ≤ left → left < zone.right → bottom < zone.top
    → lines_left zone (lines_after zone (block_from zone left bottom)).0 (lines_after zone (block_from zone left bottom)).1 < lines_left zone left bottom
lines_left-fewer zone left bottom legal from to high =
    let right = min zone.right (left + 512) in
    let top = min zone.top (bottom + 512) in
    elim (cases_Bool (nat_lt right zone.right)) [
      | inl wider ↦ subst (λ (lines : ℕ × ℕ). lines_left zone lines.0 lines.1 < lines_left zone left bottom) (sym (cond-true (nat_lt right zone.right) (right, bottom) (zone.left, top) wider))
          (grind (arith, nat_tests))
      | inr last ↦ subst (λ (lines : ℕ × ℕ). lines_left zone lines.0 lines.1 < lines_left zone left bottom) (sym (cond-false (nat_lt right zone.right) (right, bottom) (zone.left, top) last))
          (omega (arith, legal.right_in, to, high))
    ]

-- ---- one block
-- a rectangle of the world lies among the squares that tiles cover
world-outer : (e : Rect) (x y : ℕ) → IsRectangleIn world e → holds e x y ≡ true → holds outer x y ≡ true
world-outer e x y legal here =
    let lines = holds_between e x y here in
    between_holds outer x y (omega (arith, legal.left_in, lines.0)) (omega (arith, legal.right_in, lines.1)) (omega (arith, legal.bottom_in, lines.2))
    (omega (arith, legal.top_in, lines.3))

module _ (block : Rect) (mine picture grid : Picture) (tiles : List Tile) (are : AreTiles outer mine tiles) (is : grid ≡ cut picture block) where
  at_grid : (x y : ℕ) → holds block x y ≡ true → grid x y ≡ picture x y
  at_grid x y here = ap (λ (p : Picture). p x y) is ∙ cond-true (holds block x y) (picture x y) 0 here

  -- where a grid of the block has all tiles of a picture, it is the same
  same-from_tiles : IsRectangleIn world block → All (HasTileIn block grid) tiles → SameIn block mine picture
  same-from_tiles legal has x y here =
      let (k, tile, within, listed, in_tile) = are.whole x y (world-outer block x y legal here) in
      let in_both = holds_common tile.area block x y ∙ and_from (holds tile.area x y) (holds block x y) in_tile here in
      All-contains (HasTile mine) tiles tile are.shown (k, within, listed) x y in_tile
      ∙ sym (All-contains (HasTileIn block grid) tiles tile has (k, within, listed) x y in_both) ∙ at_grid x y here

  -- and it has each of them where they are the same
  tile-from_same : (tile : Tile) → HasTile mine tile → SameIn block mine picture → HasTileIn block grid tile
  tile-from_same tile shown same x y here =
      let both = and_parts (holds tile.area x y) (holds block x y) (sym (holds_common tile.area block x y) ∙ here) in
      at_grid x y both.1 ∙ sym (same x y both.1) ∙ shown x y both.0

  tiles-from_same : SameIn block mine picture → All (HasTileIn block grid) tiles
  tiles-from_same same k d within = tile-from_same (get_or tiles k d) (are.shown k d within) same

-- so the grid of a block of the zone has all tiles exactly where the pictures are the same in the block
pub tiles-in_block :
    (zone block : Rect) (left bottom : ℕ) (mine picture now grid : Picture) (tiles : List Tile) → AreTiles outer mine tiles → IsRectangleIn world zone
    → BlocksSame zone mine picture left bottom → bottom < zone.top → block ≡ block_from zone left bottom → now ≡ picture → grid ≡ cut now block
    → All (HasTileIn block grid) tiles ↔ SameIn (block_from zone left bottom) mine picture
tiles-in_block zone block left bottom mine picture now grid tiles are legal so_far high is_block same shown =
    let inside : IsRectangleIn world block = subst (IsRectangleIn world) (sym is_block) (block_from-IsBlock zone left bottom legal so_far.from so_far.to so_far.low high).legal in (
      λ has. subst (λ (e : Rect). SameIn e mine picture) is_block (subst (λ (p : Picture). SameIn block mine p) same
          (same-from_tiles block mine now grid tiles are shown inside has)),
      λ has. tiles-from_same block mine now grid tiles are shown
          (subst (λ (p : Picture). SameIn block mine p) (sym same) (subst (λ (e : Rect). SameIn e mine picture) (sym is_block) has)),
    )
