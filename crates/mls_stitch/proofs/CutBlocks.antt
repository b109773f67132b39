-- Blocks cut in two by a line, and two blocks as one: the parts have exactly the squares of the whole.
use Rattle.std.proofs.Common.{◌≡◌, ◌≢◌, ◌⊎◌, ℕ, ◌<◌, true, IsTrue, List, [], ◌∷◌, Option, Some, IsSome, All, AllPairs, Any, inl, inr, refl, sym, ap, ◌∙◌, subst, arith}
use Rattle.mls_stitch.proofs.Common.{cases_lt, nat_tests, All-cons, All-nil, same_Some, Point, IsRectangleIn, holds, world, Piece, Contains-first, Contains-rest, holds_between, AreDisjoint, TakePlace, HoldsAt, AreBlocks}
use Rattle.std.proofs.lemmas.List.Kept.{AllPairs-cons}
use Rattle.mls_stitch.specs.Splits.{IsCutAt, JoinAlong, JoinInX, JoinInY, first_part, joined_along, joined_x, joined_y, left_part, lower_of, right_part, second_part, upper_of}
use Rattle.mls_stitch.specs.declared.split.Axis.{Axis}
use Rattle.mls_stitch.specs.declared.split.Axis.TheVariants.{X, Y}
use Rattle.mls_stitch.proofs.FreshTiles.{Contains-first_or_rest, nothing_in_nil}
use Rattle.mls_stitch.proofs.ReplacedStitches.{Any-contained}
use Rattle.mls_stitch.proofs.Sides.{HoldsAt-block, holds-HoldsAt, legal-AreBlocks}

-- two pieces have the squares of a third, each once, and its kind
pub record AreParts (whole first second : Piece) : Type 0 where
  pub in_first : (at : Point) → holds first.rect at.x at.y ≡ true → holds whole.rect at.x at.y ≡ true
  pub in_second : (at : Point) → holds second.rect at.x at.y ≡ true → holds whole.rect at.x at.y ≡ true
  pub either : (at : Point) → holds whole.rect at.x at.y ≡ true → (holds first.rect at.x at.y ≡ true) ⊎ (holds second.rect at.x at.y ≡ true)
  pub apart : AreDisjoint first second
  pub first_kind : first.kind ≡ whole.kind
  pub second_kind : second.kind ≡ whole.kind

-- two blocks that share a whole side are the parts of both together
parts-joined_x : (a b : Piece) → a.rect.left < a.rect.right → b.rect.left < b.rect.right → JoinInX a b → AreParts (joined_x a b) a b
parts-joined_x a b wide_a wide_b join = record {
  in_first = λ at inside. grind (arith, nat_tests);
  in_second = λ at inside. grind (arith, nat_tests);
  either = λ at inside. elim (cases_lt at.x a.rect.right) [ inl below ↦ inl (grind (arith, nat_tests)) | inr above ↦ inr (grind (arith, nat_tests)) ];
  apart = λ at in_a in_b. omega (arith, (holds_between a.rect at.x at.y in_a).1, (holds_between b.rect at.x at.y in_b).0, join.meet);
  first_kind = refl;
  second_kind = join.kinds;
}

parts-joined_y : (a b : Piece) → a.rect.bottom < a.rect.top → b.rect.bottom < b.rect.top → JoinInY a b → AreParts (joined_y a b) a b
parts-joined_y a b tall_a tall_b join = record {
  in_first = λ at inside. grind (arith, nat_tests);
  in_second = λ at inside. grind (arith, nat_tests);
  either = λ at inside. elim (cases_lt at.y a.rect.top) [ inl below ↦ inl (grind (arith, nat_tests)) | inr above ↦ inr (grind (arith, nat_tests)) ];
  apart = λ at in_a in_b. omega (arith, (holds_between a.rect at.x at.y in_a).3, (holds_between b.rect at.x at.y in_b).2, join.meet);
  first_kind = refl;
  second_kind = join.kinds;
}

-- which is a rectangle of the world where they are
pub legal-joined_x : (a b : Piece) → IsRectangleIn world a.rect → IsRectangleIn world b.rect → JoinInX a b → IsRectangleIn world (joined_x a b).rect
legal-joined_x a b legal_a legal_b join = record { left_in = legal_a.left_in; wide = omega (arith, legal_a.wide, legal_b.wide, join.meet); right_in = legal_b.right_in; bottom_in = legal_a.bottom_in; tall = legal_a.tall; top_in = legal_a.top_in }

pub legal-joined_y : (a b : Piece) → IsRectangleIn world a.rect → IsRectangleIn world b.rect → JoinInY a b → IsRectangleIn world (joined_y a b).rect
legal-joined_y a b legal_a legal_b join = record { left_in = legal_a.left_in; wide = legal_a.wide; right_in = legal_a.right_in; bottom_in = legal_a.bottom_in; tall = omega (arith, legal_a.tall, legal_b.tall, join.meet); top_in = legal_b.top_in }

-- lists of one and of two
All-one : {X : Type 0} (P : X → Type 0) (x : X) → P x → All P (x ∷ [])
All-one P x here = All-cons P x [] here (All-nil P)

All-two : {X : Type 0} (P : X → Type 0) (x y : X) → P x → P y → All P (x ∷ y ∷ [])
All-two P x y here there = All-cons P x (y ∷ []) here (All-one P y there)

AllPairs-one : {X : Type 0} (R : X → X → Type 0) (x : X) → AllPairs R (x ∷ [])
AllPairs-one R x i j d before within = absurd (omega (arith, before, within))

AllPairs-two : {X : Type 0} (R : X → X → Type 0) (x y : X) → R x y → AllPairs R (x ∷ y ∷ [])
AllPairs-two R x y related = AllPairs-cons R x (y ∷ []) (All-one (R x) y related) (AllPairs-one R y)

Any-one : {X : Type 0} (P : X → Type 0) (x : X) → Any P (x ∷ []) → P x
Any-one P x (k, y, within, is, here) = elim (Contains-first_or_rest x y [] (k, within, is)) [
  | inl same ↦ subst P (sym same) here
  | inr later ↦ absurd (nothing_in_nil y later)
]

Any-two : {X : Type 0} (P : X → Type 0) (x y : X) → Any P (x ∷ y ∷ []) → P x ⊎ P y
Any-two P x y (k, z, within, is, here) = elim (Contains-first_or_rest x z (y ∷ []) (k, within, is)) [
  | inl same ↦ inl (subst P (sym same) here)
  | inr (j, within', is') ↦ inr (Any-one P y (j, z, within', is', here))
]

Any-first : {X : Type 0} (P : X → Type 0) (x : X) (xs : List X) → P x → Any P (x ∷ xs)
Any-first P x xs here = Any-contained P (x ∷ xs) x (Contains-first x x xs refl) here

Any-second : {X : Type 0} (P : X → Type 0) (x y : X) (xs : List X) → P y → Any P (x ∷ y ∷ xs)
Any-second P x y xs here = Any-contained P (x ∷ y ∷ xs) y (Contains-rest x y (y ∷ xs) (Contains-first y y xs refl)) here

-- a block that is there
IsSome-there : {X : Type 0} (o : Option X) (x : X) → o ≡ Some x → IsSome o
IsSome-there o x is = subst IsSome (sym is) refl

-- the piece has the square
abbrev Has : Point → Piece → Type 0
Has at piece = IsTrue (holds piece.rect at.x at.y)

-- the parts of a tile's block take its place
pub TakePlace-parts :
    (blocks : ℕ → Option Piece) (tile : ℕ) (whole first second : Piece) → blocks tile ≡ Some whole → AreParts whole first second → IsRectangleIn world first.rect
    → IsRectangleIn world second.rect → TakePlace blocks (tile ∷ []) (first ∷ second ∷ [])
TakePlace-parts blocks tile whole first second is parts legal_first legal_second = record {
  there = All-one (λ key. IsSome (blocks key)) tile (IsSome-there (blocks tile) whole is);
  once = AllPairs-one (λ a b. a ≢ b) tile;
  legal = All-two (λ p. IsRectangleIn world p.rect) first second legal_first legal_second;
  apart = AllPairs-two AreDisjoint first second parts.apart;
  same = λ at. (
    λ held.
        let inside = holds-HoldsAt blocks tile whole at is (Any-one (λ key. HoldsAt blocks key at) tile held) in
        elim (parts.either at inside) [
          | inl in_first ↦ Any-first (Has at) first (second ∷ []) in_first
          | inr in_second ↦ Any-second (Has at) first second [] in_second
        ],
    λ shared.
        let inside : holds whole.rect at.x at.y ≡ true = elim (Any-two (Has at) first second shared) [
          | inl in_first ↦ parts.in_first at in_first
          | inr in_second ↦ parts.in_second at in_second
        ] in
        Any-first (λ key. HoldsAt blocks key at) tile [] (HoldsAt-block blocks tile whole at is inside),
  );
}

-- and a block takes the places of its parts' tiles
pub TakePlace-whole :
    (blocks : ℕ → Option Piece) (a b : ℕ) (whole first second : Piece) → blocks a ≡ Some first → blocks b ≡ Some second → a ≢ b → AreParts whole first second
    → IsRectangleIn world whole.rect → TakePlace blocks (a ∷ b ∷ []) (whole ∷ [])
TakePlace-whole blocks a b whole first second is_first is_second differ parts legal = record {
  there = All-two (λ key. IsSome (blocks key)) a b (IsSome-there (blocks a) first is_first) (IsSome-there (blocks b) second is_second);
  once = AllPairs-two (λ k l. k ≢ l) a b differ;
  legal = All-one (λ p. IsRectangleIn world p.rect) whole legal;
  apart = AllPairs-one AreDisjoint whole;
  same = λ at. (
    λ held.
        let inside : holds whole.rect at.x at.y ≡ true = elim (Any-two (λ key. HoldsAt blocks key at) a b held) [
          | inl held_a ↦ parts.in_first at (holds-HoldsAt blocks a first at is_first held_a)
          | inr held_b ↦ parts.in_second at (holds-HoldsAt blocks b second at is_second held_b)
        ] in
        Any-first (Has at) whole [] inside,
    λ shared. elim (parts.either at (Any-one (Has at) whole shared)) [
      | inl in_first ↦ Any-first (λ key. HoldsAt blocks key at) a (b ∷ []) (HoldsAt-block blocks a first at is_first in_first)
      | inr in_second ↦ Any-second (λ key. HoldsAt blocks key at) a b [] (HoldsAt-block blocks b second at is_second in_second)
    ],
  );
}

-- so it is along either axis: a block that a line cuts is its two parts joined
pub parts_along : (axis : Axis) (block : Piece) (at : ℕ) → IsCutAt axis at block → AreParts block (first_part axis at block) (second_part axis at block)
parts_along X block x (after, before) = parts-joined_x (left_part x block) (right_part x block) after before (record { meet = refl; bottoms = refl; tops = refl; kinds = refl })
parts_along Y block y (after, before) = parts-joined_y (lower_of y block) (upper_of y block) after before (record { meet = refl; lefts = refl; rights = refl; kinds = refl })

-- which are rectangles of the world where the block is one
legal-parts :
    (axis : Axis) (block : Piece) (at : ℕ) → IsRectangleIn world block.rect → IsCutAt axis at block
    → IsRectangleIn world (first_part axis at block).rect × IsRectangleIn world (second_part axis at block).rect
legal-parts X block x legal (after, before) = (
  record { left_in = legal.left_in; wide = after; right_in = omega (arith, legal.right_in, before); bottom_in = legal.bottom_in; tall = legal.tall; top_in = legal.top_in },
  record { left_in = omega (arith, legal.left_in, after); wide = before; right_in = legal.right_in; bottom_in = legal.bottom_in; tall = legal.tall; top_in = legal.top_in },
)
legal-parts Y block y legal (after, before) = (
  record { left_in = legal.left_in; wide = legal.wide; right_in = legal.right_in; bottom_in = legal.bottom_in; tall = after; top_in = omega (arith, legal.top_in, before) },
  record { left_in = legal.left_in; wide = legal.wide; right_in = legal.right_in; bottom_in = omega (arith, legal.bottom_in, after); tall = before; top_in = legal.top_in },
)

parts-joined : (axis : Axis) (a b : Piece) → IsRectangleIn world a.rect → IsRectangleIn world b.rect → JoinAlong axis a b → AreParts (joined_along axis a b) a b
parts-joined X a b legal_a legal_b join = parts-joined_x a b legal_a.wide legal_b.wide join
parts-joined Y a b legal_a legal_b join = parts-joined_y a b legal_a.tall legal_b.tall join

legal-joined : (axis : Axis) (a b : Piece) → IsRectangleIn world a.rect → IsRectangleIn world b.rect → JoinAlong axis a b → IsRectangleIn world (joined_along axis a b).rect
legal-joined X = legal-joined_x
legal-joined Y = legal-joined_y

-- a block doesn't begin where it ends
not_itself : (axis : Axis) (a : Piece) → IsRectangleIn world a.rect → JoinAlong axis a a → ⊥
not_itself X a legal join = omega (arith, legal.wide, join.meet)
not_itself Y a legal join = omega (arith, legal.tall, join.meet)

-- what a cut and a join need to know of the blocks
pub record AreJoined (blocks : ℕ → Option Piece) (axis : Axis) (first second : ℕ) (a b : Piece) : Type 0 where
  pub is_a : blocks first ≡ Some a
  pub is_b : blocks second ≡ Some b
  pub join : JoinAlong axis a b

-- blocks that join are two, and the parts of both as one
pub differ_joined : (blocks : ℕ → Option Piece) (axis : Axis) (first second : ℕ) (a b : Piece) → AreBlocks blocks → AreJoined blocks axis first second a b → first ≢ second
differ_joined blocks axis first second a b tiling joins same =
    let one : a ≡ b = same_Some a b (sym joins.is_a ∙ ap blocks same ∙ joins.is_b) in
    not_itself axis a (legal-AreBlocks blocks first a tiling joins.is_a) (subst (JoinAlong axis a) (sym one) joins.join)

pub parts_joined : (blocks : ℕ → Option Piece) (axis : Axis) (first second : ℕ) (a b : Piece) → AreBlocks blocks → AreJoined blocks axis first second a b → AreParts (joined_along axis a b) a b
parts_joined blocks axis first second a b tiling joins =
    parts-joined axis a b (legal-AreBlocks blocks first a tiling joins.is_a) (legal-AreBlocks blocks second b tiling joins.is_b) joins.join

-- so it is with each cut and each join
pub TakePlace-cut :
    (blocks : ℕ → Option Piece) (tile : ℕ) (block : Piece) (axis : Axis) (at : ℕ) → AreBlocks blocks → blocks tile ≡ Some block → IsCutAt axis at block
    → TakePlace blocks (tile ∷ []) (first_part axis at block ∷ second_part axis at block ∷ [])
TakePlace-cut blocks tile block axis at tiling is inside =
    let legal = legal-parts axis block at (legal-AreBlocks blocks tile block tiling is) inside in
    TakePlace-parts blocks tile block (first_part axis at block) (second_part axis at block) is (parts_along axis block at inside) legal.0 legal.1

pub TakePlace-join :
    (blocks : ℕ → Option Piece) (axis : Axis) (first second : ℕ) (a b : Piece) → AreBlocks blocks → AreJoined blocks axis first second a b
    → TakePlace blocks (first ∷ second ∷ []) (joined_along axis a b ∷ [])
TakePlace-join blocks axis first second a b tiling joins =
    TakePlace-whole blocks first second (joined_along axis a b) a b joins.is_a joins.is_b (differ_joined blocks axis first second a b tiling joins)
    (parts_joined blocks axis first second a b tiling joins)
    (legal-joined axis a b (legal-AreBlocks blocks first a tiling joins.is_a) (legal-AreBlocks blocks second b tiling joins.is_b) joins.join)
