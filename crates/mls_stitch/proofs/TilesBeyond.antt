-- The tile beyond another is the last one that begins at the square beyond it or before: the tile that has that square begins on its line, and every
-- tile that begins in between would begin on a square of that one. The tiles whose stitch leads back are the last of those that begin there or before.
use Rattle.std.proofs.Common.{◌≡◌, ℕ, ◌-◌, ◌<◌, ◌≤◌, IsTrue, true, false, nat_le, List, length, get_or, All, Option, Some, le_refl, sym, ap, ◌∙◌, arith, inl, inr}
use Rattle.mls_stitch.proofs.Common.{IsPartitionedBy, IsSortedByKey, cases_lt, false_from_ne_true, false≢true, nat_tests, get_or_default, ranks_by, sorted_far, Rect, Point, IsRectangleIn, holds, world, Piece, holds_between, between_holds, beyond, AreBlocks, IsLaid, LaidTile, Stitch, Lb, Bl, Tr, Rt}
use Rattle.std.specs.Ordering.{is_lt, nat_cmp}
use Rattle.std.proofs.lemmas.Cmp.{nat_cmp_total}
use Rattle.mls_stitch.proofs.Sides.{left_neighbour, legal-AreBlocks, lower_neighbour, one_block, right_neighbour, upper_neighbour}
use Rattle.mls_stitch.specs.Lookups.{BeginUpTo, AreSortedFor, Place, back_of, first_square, from_end, is_up_to, leads_to, place_beyond, rank_of, start_of}

-- the rectangle has the square
abbrev Has : Rect → Point → Type 0
Has rect at = IsTrue (holds rect at.x at.y)

-- a rectangle has its upper-right square
has_last : (p : Rect) → IsRectangleIn world p → IsTrue (holds p (p.right - 1) (p.top - 1))
has_last p legal =
    between_holds p (p.right - 1) (p.top - 1) (omega (arith, legal.wide)) (omega (arith, legal.wide)) (omega (arith, legal.tall)) (omega (arith, legal.tall))

-- a rectangle has the square with which it begins
has_first : (stitch : Stitch) (p : Rect) → IsRectangleIn world p → Has p (first_square stitch p)
has_first Lb p legal = has_last p legal
has_first Bl p legal = has_last p legal
has_first Tr p legal = between_holds p p.left p.bottom (omega arith) legal.wide (omega arith) legal.tall
has_first Rt p legal = between_holds p p.left p.bottom (omega arith) legal.wide (omega arith) legal.tall

-- a number below the end, counted from there
from_end_order : (m n : ℕ) → n < 4294967295 → from_end m ≤ from_end n → n ≤ m
from_end_order m n below order = omega (arith, below, order)

from_end_same : (m n : ℕ) → m < 4294967295 → n < 4294967295 → from_end m ≡ from_end n → m ≡ n
from_end_same m n below_m below_n same = omega (arith, below_m, below_n, same)

from_end_more : (m n : ℕ) → n ≤ m → from_end m ≤ from_end n
from_end_more m n more = omega (arith, more)

-- each line of a rectangle is below the end
right_below : (p : Rect) → IsRectangleIn world p → p.right < 4294967295
right_below p legal = omega (arith, legal.right_in)

top_below : (p : Rect) → IsRectangleIn world p → p.top < 4294967295
top_below p legal = omega (arith, legal.top_in)

-- a block that has the square beyond another begins on that square's line, there or before
begins :
    {blocks : ℕ → Option Piece} (stitch : Stitch) (from to : ℕ) (p e : Piece) → AreBlocks blocks → blocks from ≡ Some p → blocks to ≡ Some e → Has e.rect (beyond stitch p.rect)
    → ((start_of stitch e.rect).line ≡ (place_beyond stitch p.rect).line) × ((start_of stitch e.rect).along ≤ (place_beyond stitch p.rect).along)
begins {blocks} Lb from to p e tiling p_laid e_laid held =
    let legal = legal-AreBlocks blocks from p tiling p_laid in
    let (left, right, bottom, top) = holds_between e.rect p.rect.left (p.rect.bottom - 1) held in (
      ap (λ n. from_end (n - 1)) (lower_neighbour blocks from to p e p.rect.left tiling p_laid e_laid (le_refl p.rect.left) legal.wide held),
      from_end_more (e.rect.right - 1) p.rect.left (omega (arith, right)),
    )
begins {blocks} Bl from to p e tiling p_laid e_laid held =
    let legal = legal-AreBlocks blocks from p tiling p_laid in
    let (left, right, bottom, top) = holds_between e.rect (p.rect.left - 1) p.rect.bottom held in (
      ap (λ n. from_end (n - 1)) (left_neighbour blocks from to p e p.rect.bottom tiling p_laid e_laid (le_refl p.rect.bottom) legal.tall held),
      from_end_more (e.rect.top - 1) p.rect.bottom (omega (arith, top)),
    )
begins {blocks} Tr from to p e tiling p_laid e_laid held =
    let legal = legal-AreBlocks blocks from p tiling p_laid in
    let (left, right, bottom, top) = holds_between e.rect p.rect.right (p.rect.top - 1) held in
    (right_neighbour blocks from to p e (p.rect.top - 1) tiling p_laid e_laid (omega (arith, legal.tall)) (omega (arith, legal.tall)) held, bottom)
begins {blocks} Rt from to p e tiling p_laid e_laid held =
    let legal = legal-AreBlocks blocks from p tiling p_laid in
    let (left, right, bottom, top) = holds_between e.rect (p.rect.right - 1) p.rect.top held in
    (upper_neighbour blocks from to p e (p.rect.right - 1) tiling p_laid e_laid (omega (arith, legal.wide)) (omega (arith, legal.wide)) held, left)

-- a rectangle that begins in between begins on a square of the other
between :
    (stitch : Stitch) (p e c : Rect) → IsRectangleIn world p → IsRectangleIn world e → IsRectangleIn world c → Has e (beyond stitch p) → (start_of stitch c).line ≡ (place_beyond stitch p).line
    → (start_of stitch e).along ≤ (start_of stitch c).along → (start_of stitch c).along ≤ (place_beyond stitch p).along → Has e (first_square stitch c)
between Lb p e c p_in e_in c_in held line from to =
    let (left, right, bottom, top) = holds_between e p.left (p.bottom - 1) held in
    let row : c.top - 1 ≡ p.bottom - 1 = from_end_same (c.top - 1) (p.bottom - 1) (omega (arith, top_below c c_in)) (omega (arith, top_below p p_in, p_in.tall)) line in
    let past : c.right - 1 ≤ e.right - 1 = from_end_order (e.right - 1) (c.right - 1) (omega (arith, right_below c c_in)) from in
    let after : p.left ≤ c.right - 1 = from_end_order (c.right - 1) p.left (omega (arith, right_below p p_in, p_in.wide)) to in
    between_holds e (c.right - 1) (c.top - 1) (omega (arith, left, after)) (omega (arith, past, e_in.wide)) (omega (arith, row, bottom)) (omega (arith, row, top))
between Bl p e c p_in e_in c_in held line from to =
    let (left, right, bottom, top) = holds_between e (p.left - 1) p.bottom held in
    let column : c.right - 1 ≡ p.left - 1 = from_end_same (c.right - 1) (p.left - 1) (omega (arith, right_below c c_in)) (omega (arith, right_below p p_in, p_in.wide)) line in
    let past : c.top - 1 ≤ e.top - 1 = from_end_order (e.top - 1) (c.top - 1) (omega (arith, top_below c c_in)) from in
    let after : p.bottom ≤ c.top - 1 = from_end_order (c.top - 1) p.bottom (omega (arith, top_below p p_in, p_in.tall)) to in
    between_holds e (c.right - 1) (c.top - 1) (omega (arith, column, left)) (omega (arith, column, right)) (omega (arith, bottom, after)) (omega (arith, past, e_in.tall))
between Tr p e c p_in e_in c_in held line from to =
    let (left, right, bottom, top) = holds_between e p.right (p.top - 1) held in
    between_holds e c.left c.bottom (omega (arith, line, left)) (omega (arith, line, right)) from (omega (arith, to, top))
between Rt p e c p_in e_in c_in held line from to =
    let (left, right, bottom, top) = holds_between e (p.right - 1) p.top held in
    between_holds e c.left c.bottom from (omega (arith, to, right)) (omega (arith, line, bottom)) (omega (arith, line, top))

-- a block whose stitch leads back to another begins on the line of the square beyond that one, there or before
begins_back :
    {blocks : ℕ → Option Piece} (stitch : Stitch) (from to : ℕ) (p e : Piece) → AreBlocks blocks → blocks from ≡ Some p → blocks to ≡ Some e → Has p.rect (beyond (back_of stitch) e.rect)
    → ((start_of stitch e.rect).line ≡ (place_beyond stitch p.rect).line) × ((start_of stitch e.rect).along ≤ (place_beyond stitch p.rect).along)
begins_back {blocks} Lb from to p e tiling p_laid e_laid held =
    let legal = legal-AreBlocks blocks to e tiling e_laid in
    let (left, right, bottom, top) = holds_between p.rect (e.rect.right - 1) e.rect.top held in (
      ap (λ n. from_end (n - 1)) (sym (upper_neighbour blocks to from e p (e.rect.right - 1) tiling e_laid p_laid (omega (arith, legal.wide)) (omega (arith, legal.wide)) held)),
      from_end_more (e.rect.right - 1) p.rect.left left,
    )
begins_back {blocks} Bl from to p e tiling p_laid e_laid held =
    let legal = legal-AreBlocks blocks to e tiling e_laid in
    let (left, right, bottom, top) = holds_between p.rect e.rect.right (e.rect.top - 1) held in (
      ap (λ n. from_end (n - 1)) (sym (right_neighbour blocks to from e p (e.rect.top - 1) tiling e_laid p_laid (omega (arith, legal.tall)) (omega (arith, legal.tall)) held)),
      from_end_more (e.rect.top - 1) p.rect.bottom bottom,
    )
begins_back {blocks} Tr from to p e tiling p_laid e_laid held =
    let legal = legal-AreBlocks blocks to e tiling e_laid in
    let (left, right, bottom, top) = holds_between p.rect (e.rect.left - 1) e.rect.bottom held in
    (sym (left_neighbour blocks to from e p e.rect.bottom tiling e_laid p_laid (le_refl e.rect.bottom) legal.tall held), omega (arith, top))
begins_back {blocks} Rt from to p e tiling p_laid e_laid held =
    let legal = legal-AreBlocks blocks to e tiling e_laid in
    let (left, right, bottom, top) = holds_between p.rect e.rect.left (e.rect.bottom - 1) held in
    (sym (lower_neighbour blocks to from e p e.rect.left tiling e_laid p_laid (le_refl e.rect.left) legal.wide held), omega (arith, right))

-- a rectangle that begins after one whose stitch leads back, and not after the square beyond, has a stitch that leads back too
between_back :
    (stitch : Stitch) (p e c : Rect) → IsRectangleIn world p → IsRectangleIn world e → IsRectangleIn world c → Has p (beyond (back_of stitch) e) → (start_of stitch c).line ≡ (start_of stitch e).line
    → (start_of stitch e).along ≤ (start_of stitch c).along → (start_of stitch c).along ≤ (place_beyond stitch p).along → Has p (beyond (back_of stitch) c)
between_back Lb p e c p_in e_in c_in held line from to =
    let (left, right, bottom, top) = holds_between p (e.right - 1) e.top held in
    let row : c.top - 1 ≡ e.top - 1 = from_end_same (c.top - 1) (e.top - 1) (omega (arith, top_below c c_in)) (omega (arith, top_below e e_in)) line in
    let same : c.top ≡ e.top = omega (arith, row, c_in.tall, e_in.tall) in
    let past : c.right - 1 ≤ e.right - 1 = from_end_order (e.right - 1) (c.right - 1) (omega (arith, right_below c c_in)) from in
    let after : p.left ≤ c.right - 1 = from_end_order (c.right - 1) p.left (omega (arith, right_below p p_in, p_in.wide)) to in
    between_holds p (c.right - 1) c.top after (omega (arith, past, right)) (omega (arith, same, bottom)) (omega (arith, same, top))
between_back Bl p e c p_in e_in c_in held line from to =
    let (left, right, bottom, top) = holds_between p e.right (e.top - 1) held in
    let column : c.right - 1 ≡ e.right - 1 = from_end_same (c.right - 1) (e.right - 1) (omega (arith, right_below c c_in)) (omega (arith, right_below e e_in)) line in
    let same : c.right ≡ e.right = omega (arith, column, c_in.wide, e_in.wide) in
    let past : c.top - 1 ≤ e.top - 1 = from_end_order (e.top - 1) (c.top - 1) (omega (arith, top_below c c_in)) from in
    let after : p.bottom ≤ c.top - 1 = from_end_order (c.top - 1) p.bottom (omega (arith, top_below p p_in, p_in.tall)) to in
    between_holds p c.right (c.top - 1) (omega (arith, same, left)) (omega (arith, same, right)) after (omega (arith, past, top))
between_back Tr p e c p_in e_in c_in held line from to =
    let (left, right, bottom, top) = holds_between p (e.left - 1) e.bottom held in
    between_holds p (c.left - 1) c.bottom (omega (arith, line, left)) (omega (arith, line, right)) (omega (arith, from, bottom)) (omega (arith, to, p_in.tall))
between_back Rt p e c p_in e_in c_in held line from to =
    let (left, right, bottom, top) = holds_between p e.left (e.bottom - 1) held in
    between_holds p c.left (c.bottom - 1) (omega (arith, from, left)) (omega (arith, to, p_in.wide)) (omega (arith, line, bottom)) (omega (arith, line, top))

-- a place along a line is less than the next line's first
along_below : (stitch : Stitch) (p : Rect) → IsRectangleIn world p → ((start_of stitch p).along < 4294967296) × ((place_beyond stitch p).along < 4294967296)
along_below Lb p legal = (omega arith, omega arith)
along_below Bl p legal = (omega arith, omega arith)
along_below Tr p legal = (omega (arith, legal.tall, legal.top_in), omega (arith, legal.top_in))
along_below Rt p legal = (omega (arith, legal.wide, legal.right_in), omega (arith, legal.right_in))

-- between two places of a line are only places of that line
in_line :
    (e c s : Place) → e.along < 4294967296 → c.along < 4294967296 → s.along < 4294967296 → e.line ≡ s.line → is_up_to e c ≡ true → is_up_to c s ≡ true
    → (c.line ≡ s.line) × (e.along ≤ c.along) × (c.along ≤ s.along)
in_line e c s e_in c_in s_in line from to =
    let low : rank_of e ≤ rank_of c = grind (arith, nat_tests) in
    let high : rank_of c ≤ rank_of s = grind (arith, nat_tests) in
    (omega arith, omega arith, omega arith)

one_line :
    {blocks : ℕ → Option Piece} (stitch : Stitch) (from to last : ℕ) (p e c : Piece) → AreBlocks blocks → blocks from ≡ Some p → blocks to ≡ Some e → blocks last ≡ Some c
    → (start_of stitch e.rect).line ≡ (place_beyond stitch p.rect).line
    → is_up_to (start_of stitch e.rect) (start_of stitch c.rect) ≡ true → is_up_to (start_of stitch c.rect) (place_beyond stitch p.rect) ≡ true
    → ((start_of stitch c.rect).line ≡ (place_beyond stitch p.rect).line) × ((start_of stitch e.rect).along ≤ (start_of stitch c.rect).along)
    × ((start_of stitch c.rect).along ≤ (place_beyond stitch p.rect).along)
one_line {blocks} stitch from to last p e c tiling p_laid e_laid c_laid line after up_to =
    in_line (start_of stitch e.rect) (start_of stitch c.rect) (place_beyond stitch p.rect)
    (along_below stitch e.rect (legal-AreBlocks blocks to e tiling e_laid)).0 (along_below stitch c.rect (legal-AreBlocks blocks last c tiling c_laid)).0
    (along_below stitch p.rect (legal-AreBlocks blocks from p tiling p_laid)).1 line after up_to

up_to_along : (p q : Place) → p.line ≡ q.line → p.along ≤ q.along → is_up_to p q ≡ true
up_to_along p q line along = grind (arith, nat_tests)

-- any other that begins in between is the same
last_is :
    {blocks : ℕ → Option Piece} (stitch : Stitch) (from to last : ℕ) (p e c : Piece) → AreBlocks blocks → blocks from ≡ Some p → blocks to ≡ Some e → blocks last ≡ Some c
    → Has e.rect (beyond stitch p.rect)
    → is_up_to (start_of stitch e.rect) (start_of stitch c.rect) ≡ true → is_up_to (start_of stitch c.rect) (place_beyond stitch p.rect) ≡ true
    → Has c.rect (beyond stitch p.rect)
last_is {blocks} stitch from to last p e c tiling p_laid e_laid c_laid held after up_to =
    let (line, along) = begins stitch from to p e tiling p_laid e_laid held in
    let (c_line, low, high) = one_line stitch from to last p e c tiling p_laid e_laid c_laid line after up_to in
    let at = first_square stitch c.rect in
    let c_in = legal-AreBlocks blocks last c tiling c_laid in
    let in_e = between stitch p.rect e.rect c.rect (legal-AreBlocks blocks from p tiling p_laid) (legal-AreBlocks blocks to e tiling e_laid) c_in held c_line low high in
    let in_c = has_first stitch c.rect c_in in
    rw (one_block blocks last to c e at.x at.y tiling c_laid e_laid in_c in_e) held

-- a block that begins after one whose stitch leads back, and up to the square beyond, has a stitch that leads back too
back_is :
    {blocks : ℕ → Option Piece} (stitch : Stitch) (from to last : ℕ) (p e c : Piece) → AreBlocks blocks → blocks from ≡ Some p → blocks to ≡ Some e → blocks last ≡ Some c
    → Has p.rect (beyond (back_of stitch) e.rect)
    → is_up_to (start_of stitch e.rect) (start_of stitch c.rect) ≡ true → is_up_to (start_of stitch c.rect) (place_beyond stitch p.rect) ≡ true
    → Has p.rect (beyond (back_of stitch) c.rect)
back_is {blocks} stitch from to last p e c tiling p_laid e_laid c_laid held after up_to =
    let (line, along) = begins_back stitch from to p e tiling p_laid e_laid held in
    let (c_line, low, high) = one_line stitch from to last p e c tiling p_laid e_laid c_laid line after up_to in
    between_back stitch p.rect e.rect c.rect (legal-AreBlocks blocks from p tiling p_laid) (legal-AreBlocks blocks to e tiling e_laid) (legal-AreBlocks blocks last c tiling c_laid) held
    (c_line ∙ sym line) low high

-- each of the tiles begins before those behind it, or with them
up_to_later :
    (stitch : Stitch) (entries : List LaidTile) → AreSortedFor stitch entries → (j k : ℕ) (d : LaidTile) → j ≤ k → k < length entries
    → is_up_to (start_of stitch (get_or entries j d).piece.rect) (start_of stitch (get_or entries k d).piece.rect) ≡ true
up_to_later stitch entries sorted j k d order within = elim (cases_lt j k) [
  | inl earlier ↦ sorted j k d earlier within
  | inr there ↦
      let one : j ≡ k = omega (arith, order, there) in
      rw one (grind (arith, nat_tests))
]

module _
    {blocks : ℕ → Option Piece} (stitch : Stitch) (tile : LaidTile) (entries : List LaidTile) (count : ℕ) (tiling : AreBlocks blocks) (listed : All (IsLaid blocks) entries)
    (laid : IsLaid blocks tile) (sorted : AreSortedFor stitch entries) (parted : BeginUpTo stitch tile.piece.rect entries count)
  where
    -- a tile that begins at the square beyond or before it is one of the first
    is_early : (k : ℕ) (d : LaidTile) → k < length entries → is_up_to (start_of stitch (get_or entries k d).piece.rect) (place_beyond stitch tile.piece.rect) ≡ true → k < count
    is_early k d within up_to = elim (cases_lt k count) [
      | inl before ↦ before
      | inr after ↦ absurd (false≢true (sym (parted.after k d after within) ∙ up_to))
    ]

    -- so where a listed tile has the square beyond another, the last that begins there or before has it
    pub last_has_beyond :
        (k : ℕ) (d : LaidTile) → k < length entries → leads_to stitch tile (get_or entries k d) ≡ true → (0 < count) × (leads_to stitch tile (get_or entries (count - 1) d) ≡ true)
    last_has_beyond k d inside held =
        let e = get_or entries k d in
        let c = get_or entries (count - 1) d in
        let (line, along) = begins stitch tile.id e.id tile.piece e.piece tiling laid (listed k d inside) held in
        let early : k < count = is_early k d inside (up_to_along (start_of stitch e.piece.rect) (place_beyond stitch tile.piece.rect) line along) in
        let last : count - 1 < length entries = omega (arith, early, parted.bound) in
        let after = up_to_later stitch entries sorted k (count - 1) d (omega (arith, early)) last in (
          omega (arith, early),
          last_is stitch tile.id e.id c.id tile.piece e.piece c.piece tiling laid (listed k d inside) (listed (count - 1) d last) held after
              (parted.before (count - 1) d (omega arith) (omega (arith, early))),
        )

    -- tiles that lead back are among the first
    pub back_early : (k : ℕ) (d : LaidTile) → k < length entries → leads_to (back_of stitch) (get_or entries k d) tile ≡ true → k < count
    back_early k d inside held =
        let e = get_or entries k d in
        let (line, along) = begins_back stitch tile.id e.id tile.piece e.piece tiling laid (listed k d inside) held in
        is_early k d inside (up_to_along (start_of stitch e.piece.rect) (place_beyond stitch tile.piece.rect) line along)

    -- and they are the last of these
    pub back_later :
        (j k : ℕ) (d : LaidTile) → j ≤ k → k < count → leads_to (back_of stitch) (get_or entries j d) tile ≡ true → leads_to (back_of stitch) (get_or entries k d) tile ≡ true
    back_later j k d order early held =
        let within : k < length entries = omega (arith, early, parted.bound) in
        let e = get_or entries j d in
        let c = get_or entries k d in
        back_is stitch tile.id e.id c.id tile.piece e.piece c.piece tiling laid (listed j d (omega (arith, order, within))) (listed k d within) held
        (up_to_later stitch entries sorted j k d order within) (parted.before k d (omega arith) early)

not_above : (m n : ℕ) → is_lt (nat_cmp n m) ≡ false → nat_le m n ≡ true
not_above m n not_less = grind (arith, nat_tests)

-- a sort by where the tiles begin sorts them
pub AreSortedFor-from_sort :
    (stitch : Stitch) (entries : List LaidTile) → IsSortedByKey (λ (entry : LaidTile). rank_of (start_of stitch entry.piece.rect)) nat_cmp entries → AreSortedFor stitch entries
AreSortedFor-from_sort stitch entries sorted = λ i j d below within.
    let rank : LaidTile → ℕ = λ entry. rank_of (start_of stitch entry.piece.rect) in
    not_above (rank (get_or entries i d)) (rank (get_or entries j d)) (sorted_far _ (ranks_by nat_cmp_total rank) entries sorted i j d (omega arith) within)

-- and parts them at each place
pub IsPartitionedBy-sorted :
    (stitch : Stitch) (place : ℕ) (entries : List LaidTile) → AreSortedFor stitch entries
    → IsPartitionedBy (λ (entry : LaidTile). nat_le (rank_of (start_of stitch entry.piece.rect)) place) entries
IsPartitionedBy-sorted stitch place entries sorted = λ i j d below within passed.
    let early : is_up_to (start_of stitch (get_or entries i d).piece.rect) (start_of stitch (get_or entries j d).piece.rect) ≡ true = up_to_later stitch entries sorted i j d below within in
    grind (arith, nat_tests)

-- so the last of the first tiles and the one after them tell of all
pub BeginUpTo-found :
    (stitch : Stitch) (rect : Rect) (entries : List LaidTile) (count : ℕ) → AreSortedFor stitch entries → count ≤ length entries
    → (0 < count → (e : LaidTile) × (e ≡ get_or entries (count - 1) e) × (rank_of (start_of stitch e.piece.rect) ≤ rank_of (place_beyond stitch rect)))
    → (count < length entries → (e : LaidTile) × (e ≡ get_or entries count e) × (rank_of (place_beyond stitch rect) < rank_of (start_of stitch e.piece.rect)))
    → BeginUpTo stitch rect entries count
BeginUpTo-found stitch rect entries count sorted bound last next =
    let place = place_beyond stitch rect in
    let parts = IsPartitionedBy-sorted stitch (rank_of place) entries sorted in
    record {
      bound = bound;
      before = λ k d from before.
          let (e, is, up) = last (omega (arith, before)) in
          let within : count - 1 < length entries = omega (arith, before, bound) in
          let here : get_or entries (count - 1) d ≡ e = get_or_default entries (count - 1) d e within ∙ sym is in
          let passes : is_up_to (start_of stitch e.piece.rect) place ≡ true = grind (arith, nat_tests) in
          parts k (count - 1) d (omega arith) within (rw here passes);
      after = λ k d from within. false_from_ne_true _ (λ passes.
          let (e, is, above) = next (omega (arith, from, within)) in
          let here : get_or entries count d ≡ e = get_or_default entries count d e (omega (arith, from, within)) ∙ sym is in
          let early : is_up_to (start_of stitch e.piece.rect) place ≡ true = rw here at (parts count k d from within passes) in
          absurd (grind (arith, nat_tests)));
    }
