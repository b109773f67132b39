-- Splits and joins are replacements that leave the picture as it was.
use Rattle.std.proofs.Common.{◌≡◌, ◌≢◌, ◌⊎◌, ℕ, true, List, [], ◌∷◌, slice_get, Some, None, All, AllPairs, Contains, inl, inr, refl, sym, ap, ◌∙◌, subst, arith}
use Rattle.mls_stitch.proofs.Common.{AllZip, All-cons, All-nil, same_Some, Point, IsRectangleIn, holds, world, Piece, Contains-first, Contains-rest, between_holds, Agrees, overlaid_stays, tile_in, Tile, Replaces, HoldsAt, IsPlane, block_at, shown}
use Rattle.std.proofs.Math.Path.{fun_ext}
use Rattle.mls_stitch.specs.Splits.{IsCutAt, Joins, Splits, first_part, joined_along, right_part, second_part, upper_of}
use Rattle.mls_stitch.specs.declared.split.Axis.{Axis}
use Rattle.mls_stitch.specs.declared.split.Axis.TheVariants.{X, Y}
use Rattle.mls_stitch.proofs.CutBlocks.{AreJoined, AreParts, differ_joined, parts_along, parts_joined}
use Rattle.mls_stitch.proofs.FreshTiles.{Contains-first_or_rest, nothing_in_nil}
use Rattle.mls_stitch.proofs.ShownTiles.{KeysDiffer, shown-inside}
use Rattle.mls_stitch.proofs.Sides.{HoldsAt-block, legal-AreBlocks}

-- the only element of a list of one
Contains-one : {X : Type 0} (x y : X) → Contains (x ∷ []) y → x ≡ y
Contains-one x y found = elim (Contains-first_or_rest x y [] found) [
  | inl same ↦ same
  | inr later ↦ absurd (nothing_in_nil y later)
]

-- a piece of a tile's kind, inside its block, shows what was there
Agrees-inside :
    (tiles : List (ℕ × Tile)) (key : ℕ) (block piece : Piece) (x y : ℕ) → IsPlane tiles → KeysDiffer tiles → block_at tiles key ≡ Some block
    → ((at : Point) → holds piece.rect at.x at.y ≡ true → holds block.rect at.x at.y ≡ true) → piece.kind ≡ block.kind → Agrees x y (shown tiles x y) piece
Agrees-inside tiles key block piece x y plane differ here within same inside =
    same ∙ sym (shown-inside tiles key block x y plane differ here (within (record { x = x; y = y }) inside))

-- the first key and the second one of two
two_keys :
    (P : ℕ → Piece → Type 0) (keys : List ℕ) (first second : Piece) → AllZip P keys (first ∷ second ∷ []) → (a : ℕ) × (b : ℕ) × (keys ≡ a ∷ b ∷ []) × P a first × P b second
two_keys P [] first second laid = absurd laid
two_keys P (a ∷ []) first second laid = absurd laid.1
two_keys P (a ∷ b ∷ []) first second laid = (a, b, refl, laid.0, laid.1.0)
two_keys P (a ∷ b ∷ c ∷ keys) first second laid = absurd laid.1.1

one_key : (P : ℕ → Piece → Type 0) (keys : List ℕ) (whole : Piece) → AllZip P keys (whole ∷ []) → (a : ℕ) × (keys ≡ a ∷ []) × P a whole
one_key P [] whole laid = absurd laid
one_key P (a ∷ []) whole laid = (a, refl, laid.0)
one_key P (a ∷ b ∷ keys) whole laid = absurd laid.1

-- a tile that gives way to the parts of its block is split
pub Splits-Replaces :
    (old new : List (ℕ × Tile)) (tile id : ℕ) (block first second : Piece) (at : Point) → IsPlane old → KeysDiffer old → block_at old tile ≡ Some block → AreParts block first second
    → holds second.rect at.x at.y ≡ true → Replaces old new (tile ∷ []) (first ∷ second ∷ []) → HoldsAt (block_at new) id at → Splits old new tile id first second
Splits-Replaces old new tile id block first second at plane differ here parts in_second done held =
    let (a, b, keys, first_laid, second_laid) = two_keys (λ key piece. block_at new key ≡ Some piece) done.keys first second done.laid in
    let a_is : a ≡ tile = same_Some a tile (ap (λ ks. slice_get ks 0) (sym keys) ∙ done.again 0 (omega arith) (omega arith)) in
    let b_is : b ≡ id = done.plane.tiling.apart b id at (HoldsAt-block (block_at new) b second at second_laid in_second) held in
    let unused = subst (All (λ key. Contains (tile ∷ []) key ⊎ (tile_in old key ≡ None))) keys done.unused in
    let once = subst (AllPairs (λ k l. k ≢ l)) keys done.once in
    record {
      replaced = done;
      first_kept = ap (block_at new) (sym a_is) ∙ first_laid;
      second_new = ap (block_at new) (sym b_is) ∙ second_laid;
      unused = elim (unused 1 0 (omega arith)) [
        | inl found ↦ absurd (once 0 1 0 (omega arith) (omega arith) (a_is ∙ Contains-one tile b found))
        | inr none ↦ ap (tile_in old) (sym b_is) ∙ none
      ];
      picture = done.picture ∙ fun_ext (λ x. fun_ext (λ y.
          overlaid_stays (shown old) (first ∷ second ∷ []) x y (shown old x y)
          (All-cons (Agrees x y (shown old x y)) first (second ∷ []) (Agrees-inside old tile block first x y plane differ here parts.in_first parts.first_kind)
          (All-cons (Agrees x y (shown old x y)) second [] (Agrees-inside old tile block second x y plane differ here parts.in_second parts.second_kind)
          (All-nil (Agrees x y (shown old x y))))) refl));
    }

-- two tiles that give way to both their blocks as one are joined
pub Joins-Replaces :
    (old new : List (ℕ × Tile)) (a b : ℕ) (whole first second : Piece) → IsPlane old → KeysDiffer old → block_at old a ≡ Some first → block_at old b ≡ Some second → a ≢ b
    → AreParts whole first second → Replaces old new (a ∷ b ∷ []) (whole ∷ []) → Joins old new a b whole
Joins-Replaces old new a b whole first second plane differ is_first is_second apart parts done =
    let (k, keys, laid) = one_key (λ key piece. block_at new key ≡ Some piece) done.keys whole done.laid in
    let k_is : k ≡ a = same_Some k a (ap (λ ks. slice_get ks 0) (sym keys) ∙ done.again 0 (omega arith) (omega arith)) in
    let touched : Contains (a ∷ b ∷ []) b = Contains-rest a b (b ∷ []) (Contains-first b b [] refl) in
    record {
      replaced = done;
      joined = ap (block_at new) (sym k_is) ∙ laid;
      gone = done.gone b touched (λ found. apart (sym k_is ∙ Contains-one k b (subst (λ ks. Contains ks b) keys found)));
      picture = done.picture ∙ fun_ext (λ x. fun_ext (λ y.
          let same : Agrees x y (shown old x y) whole = λ inside. elim (parts.either (record { x = x; y = y }) inside) [
            | inl in_first ↦ sym parts.first_kind ∙ sym (shown-inside old a first x y plane differ is_first in_first)
            | inr in_second ↦ sym parts.second_kind ∙ sym (shown-inside old b second x y plane differ is_second in_second)
          ] in
          overlaid_stays (shown old) (whole ∷ []) x y (shown old x y) (All-cons (Agrees x y (shown old x y)) whole [] same (All-nil (Agrees x y (shown old x y)))) refl));
    }

-- so it is with a tile that a line cuts; the new tile is the one that has the second part's lower-left square
second_corner : (axis : Axis) (block : Piece) (at : ℕ) → IsRectangleIn world block.rect → IsCutAt axis at block
    → holds (second_part axis at block).rect (second_part axis at block).rect.left (second_part axis at block).rect.bottom ≡ true
second_corner X block x legal (after, before) = between_holds (right_part x block).rect x block.rect.bottom (omega arith) before (omega arith) legal.tall
second_corner Y block y legal (after, before) = between_holds (upper_of y block).rect block.rect.left y (omega arith) legal.wide (omega arith) before

pub Splits-cut :
    (old new : List (ℕ × Tile)) (tile id : ℕ) (block : Piece) (axis : Axis) (at : ℕ) → IsPlane old → KeysDiffer old → block_at old tile ≡ Some block → IsCutAt axis at block
    → Replaces old new (tile ∷ []) (first_part axis at block ∷ second_part axis at block ∷ [])
    → HoldsAt (block_at new) id (record { x = (second_part axis at block).rect.left; y = (second_part axis at block).rect.bottom })
    → Splits old new tile id (first_part axis at block) (second_part axis at block)
Splits-cut old new tile id block axis at plane differ here inside done held =
    let second = second_part axis at block in
    Splits-Replaces old new tile id block (first_part axis at block) second (record { x = second.rect.left; y = second.rect.bottom }) plane differ here (parts_along axis block at inside)
    (second_corner axis block at (legal-AreBlocks (block_at old) tile block plane.tiling here) inside) done held

-- and with two tiles that share a whole side
pub Joins-join :
    (old new : List (ℕ × Tile)) (axis : Axis) (first second : ℕ) (a b : Piece) → IsPlane old → KeysDiffer old → AreJoined (block_at old) axis first second a b
    → Replaces old new (first ∷ second ∷ []) (joined_along axis a b ∷ []) → Joins old new first second (joined_along axis a b)
Joins-join old new axis first second a b plane differ joins done =
    Joins-Replaces old new first second (joined_along axis a b) a b plane differ joins.is_a joins.is_b (differ_joined (block_at old) axis first second a b plane.tiling joins)
    (parts_joined (block_at old) axis first second a b plane.tiling joins) done
