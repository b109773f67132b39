-- The sides of tiles: a tile's right side is the left side of the tile to which one stitch leads, and its top the bottom of another.
use Rattle.std.proofs.Common.{◌≡◌, ℕ, ◌-◌, ◌<◌, ◌≤◌, true, false, Option, Some, None, List, inl, inr, refl, sym, ap, ◌∙◌, subst, arith}
use Rattle.mls_stitch.proofs.Common.{IsSomeAnd, option_map, both_ways, cases_lt, same_Some, Rect, Point, IsRectangleIn, holds, world, Piece, holds_between, between_holds, tile_in, Tile, HoldsAt, LeadsTo, beyond, AreBlocks, AreTiledAs, ArePlaced, IsPlaced, IsPlane, block_at, block_of, bottom_beyond, left_beyond, Tr, Rt}
use Rattle.std.proofs.Math.Path.{fun_ext}

-- the value that is there, with what holds of it
pub there-IsSomeAnd : {X : Type 0} (o : Option X) (P : X → Type 0) → IsSomeAnd o P → (x : X) × (o ≡ Some x) × P x
there-IsSomeAnd None P held = absurd held
there-IsSomeAnd (Some x) P held = (x, refl, held)

-- the block under a key has the square
pub HoldsAt-block : (blocks : ℕ → Option Piece) (key : ℕ) (block : Piece) (at : Point) → blocks key ≡ Some block → holds block.rect at.x at.y ≡ true → HoldsAt blocks key at
HoldsAt-block blocks key block at is inside = rw is inside

pub holds-HoldsAt : (blocks : ℕ → Option Piece) (key : ℕ) (block : Piece) (at : Point) → blocks key ≡ Some block → HoldsAt blocks key at → holds block.rect at.x at.y ≡ true
holds-HoldsAt blocks key block at is held = rw is at held

-- each block is a rectangle of the world
pub legal-AreBlocks : (blocks : ℕ → Option Piece) (key : ℕ) (block : Piece) → AreBlocks blocks → blocks key ≡ Some block → IsRectangleIn world block.rect
legal-AreBlocks blocks key block tiling is = rw is at (tiling.legal key)

-- blocks that share a square are one
pub one_block :
    (blocks : ℕ → Option Piece) (a b : ℕ) (p q : Piece) (x y : ℕ) → AreBlocks blocks → blocks a ≡ Some p → blocks b ≡ Some q → holds p.rect x y ≡ true → holds q.rect x y ≡ true → p ≡ q
one_block blocks a b p q x y tiling is_p is_q in_p in_q =
    let same : a ≡ b = tiling.apart a b (record { x = x; y = y }) (rw is_p in_p) (rw is_q in_q) in
    same_Some p q (sym is_p ∙ ap blocks same ∙ is_q)

-- a block that has a square just right of another begins at the other's right side
pub right_neighbour :
    (blocks : ℕ → Option Piece) (a b : ℕ) (p q : Piece) (y : ℕ) → AreBlocks blocks → blocks a ≡ Some p → blocks b ≡ Some q → p.rect.bottom ≤ y → y < p.rect.top
    → holds q.rect p.rect.right y ≡ true → q.rect.left ≡ p.rect.right
right_neighbour blocks a b p q y tiling is_p is_q above below inside =
    let legal = legal-AreBlocks blocks a p tiling is_p in
    let lines = holds_between q.rect p.rect.right y inside in
    elim (cases_lt q.rect.left p.rect.right) [
      | inl before ↦
          let x = p.rect.right - 1 in
          let in_p : holds p.rect x y ≡ true = between_holds p.rect x y (omega (arith, legal.wide)) (omega (arith, legal.wide)) above below in
          let in_q : holds q.rect x y ≡ true = between_holds q.rect x y (omega (arith, before)) (omega (arith, lines.1)) lines.2 lines.3 in
          let same : p ≡ q = one_block blocks a b p q x y tiling is_p is_q in_p in_q in
          absurd (omega (arith, lines.1, ap (λ r. r.rect.right) same))
      | inr after ↦ omega (arith, lines.0, after)
    ]

-- a block that has a square just left of another ends at the other's left side
pub left_neighbour :
    (blocks : ℕ → Option Piece) (a b : ℕ) (p q : Piece) (y : ℕ) → AreBlocks blocks → blocks a ≡ Some p → blocks b ≡ Some q → p.rect.bottom ≤ y → y < p.rect.top
    → holds q.rect (p.rect.left - 1) y ≡ true → q.rect.right ≡ p.rect.left
left_neighbour blocks a b p q y tiling is_p is_q above below inside =
    let legal = legal-AreBlocks blocks a p tiling is_p in
    let positive : 0 < p.rect.left = omega (arith, legal.left_in) in
    let lines = holds_between q.rect (p.rect.left - 1) y inside in
    elim (cases_lt p.rect.left q.rect.right) [
      | inl past ↦
          let x = p.rect.left in
          let in_p : holds p.rect x y ≡ true = between_holds p.rect x y (omega arith) legal.wide above below in
          let in_q : holds q.rect x y ≡ true = between_holds q.rect x y (omega (arith, lines.0)) past lines.2 lines.3 in
          let same : p ≡ q = one_block blocks a b p q x y tiling is_p is_q in_p in_q in
          absurd (omega (arith, lines.0, positive, ap (λ r. r.rect.left) same))
      | inr ends ↦ omega (arith, lines.1, ends, positive)
    ]

-- a block that has a square just above another begins at the other's top
pub upper_neighbour :
    (blocks : ℕ → Option Piece) (a b : ℕ) (p q : Piece) (x : ℕ) → AreBlocks blocks → blocks a ≡ Some p → blocks b ≡ Some q → p.rect.left ≤ x → x < p.rect.right
    → holds q.rect x p.rect.top ≡ true → q.rect.bottom ≡ p.rect.top
upper_neighbour blocks a b p q x tiling is_p is_q after before inside =
    let legal = legal-AreBlocks blocks a p tiling is_p in
    let lines = holds_between q.rect x p.rect.top inside in
    elim (cases_lt q.rect.bottom p.rect.top) [
      | inl under ↦
          let y = p.rect.top - 1 in
          let in_p : holds p.rect x y ≡ true = between_holds p.rect x y after before (omega (arith, legal.tall)) (omega (arith, legal.tall)) in
          let in_q : holds q.rect x y ≡ true = between_holds q.rect x y lines.0 lines.1 (omega (arith, under)) (omega (arith, lines.3)) in
          let same : p ≡ q = one_block blocks a b p q x y tiling is_p is_q in_p in_q in
          absurd (omega (arith, lines.3, ap (λ r. r.rect.top) same))
      | inr over ↦ omega (arith, lines.2, over)
    ]

-- a block that has a square just below another ends at the other's bottom
pub lower_neighbour :
    (blocks : ℕ → Option Piece) (a b : ℕ) (p q : Piece) (x : ℕ) → AreBlocks blocks → blocks a ≡ Some p → blocks b ≡ Some q → p.rect.left ≤ x → x < p.rect.right
    → holds q.rect x (p.rect.bottom - 1) ≡ true → q.rect.top ≡ p.rect.bottom
lower_neighbour blocks a b p q x tiling is_p is_q after before inside =
    let legal = legal-AreBlocks blocks a p tiling is_p in
    let positive : 0 < p.rect.bottom = omega (arith, legal.bottom_in) in
    let lines = holds_between q.rect x (p.rect.bottom - 1) inside in
    elim (cases_lt p.rect.bottom q.rect.top) [
      | inl past ↦
          let y = p.rect.bottom in
          let in_p : holds p.rect x y ≡ true = between_holds p.rect x y after before (omega arith) legal.tall in
          let in_q : holds q.rect x y ≡ true = between_holds q.rect x y lines.0 lines.1 (omega (arith, lines.2)) past in
          let same : p ≡ q = one_block blocks a b p q x y tiling is_p is_q in_p in_q in
          absurd (omega (arith, lines.2, positive, ap (λ r. r.rect.bottom) same))
      | inr ends ↦ omega (arith, lines.3, ends, positive)
    ]

-- a rectangle beside whose right side there is no square of the extent ends with it
pub right-outside : (extent e : Rect) (y : ℕ) → IsRectangleIn extent e → e.bottom ≤ y → y < e.top → holds extent e.right y ≡ false → e.right ≡ extent.right
right-outside extent e y legal above below outside = elim (cases_lt e.right extent.right) [
  | inl within ↦
      absurd (both_ways _ outside
      (between_holds extent e.right y (omega (arith, legal.left_in, legal.wide)) within (omega (arith, legal.bottom_in, above)) (omega (arith, legal.top_in, below))))
  | inr reaches ↦ omega (arith, reaches, legal.right_in)
]

pub top-outside : (extent e : Rect) (x : ℕ) → IsRectangleIn extent e → e.left ≤ x → x < e.right → holds extent x e.top ≡ false → e.top ≡ extent.top
top-outside extent e x legal after before outside = elim (cases_lt e.top extent.top) [
  | inl within ↦
      absurd (both_ways _ outside
      (between_holds extent x e.top (omega (arith, legal.left_in, after)) (omega (arith, legal.right_in, before)) (omega (arith, legal.bottom_in, legal.tall)) within))
  | inr reaches ↦ omega (arith, reaches, legal.top_in)
]

-- the tile and the block under a key
tile_there : (slot : Option Tile) (block : Option Piece) (piece : Piece) → ArePlaced slot block → block ≡ Some piece → (tile : Tile) × (slot ≡ Some tile) × IsPlaced tile piece
tile_there None block piece none is = absurd (let absent : block ≡ None = none in cc)
tile_there (Some tile) block piece (other, is_other, placed) is = (tile, refl, subst (IsPlaced tile) (same_Some other piece (sym is_other ∙ is)) placed)

block_there : (slot : Option Tile) (block : Option Piece) (tile : Tile) → ArePlaced slot block → slot ≡ Some tile → (piece : Piece) × (block ≡ Some piece) × IsPlaced tile piece
block_there None block tile none is = absurd (cc)
block_there (Some other) block tile (piece, is_piece, placed) is = (piece, is_piece, subst (λ t. IsPlaced t piece) (same_Some other tile is) placed)

-- a block's tile has its lower-left corner and kind, and a tile's block
pub placed_tile : (tiles : List (ℕ × Tile)) (blocks : ℕ → Option Piece) (key : ℕ) (block : Piece) → ArePlaced (tile_in tiles key) (blocks key) → blocks key ≡ Some block
    → (tile : Tile) × (tile_in tiles key ≡ Some tile) × IsPlaced tile block
placed_tile tiles blocks key block = tile_there (tile_in tiles key) (blocks key) block

pub placed_block : (tiles : List (ℕ × Tile)) (blocks : ℕ → Option Piece) (key : ℕ) (tile : Tile) → ArePlaced (tile_in tiles key) (blocks key) → tile_in tiles key ≡ Some tile
    → (block : Piece) × (blocks key ≡ Some block) × IsPlaced tile block
placed_block tiles blocks key tile = block_there (tile_in tiles key) (blocks key) tile

-- what is read beyond a stitch is what it is at the border of the world, or what it is of the tile that has the square there
read_beyond :
    (tiles : List (ℕ × Tile)) (blocks : ℕ → Option Piece) (stitch : Option ℕ) (at : Point) (read : Option ℕ → ℕ) (line : ℕ) → AreTiledAs tiles blocks → LeadsTo blocks stitch at
    → (LeadsTo blocks None at → read None ≡ line)
    → ((other : ℕ) (tile : Tile) (block : Piece) → tile_in tiles other ≡ Some tile → IsPlaced tile block → blocks other ≡ Some block → holds block.rect at.x at.y ≡ true → read (Some other) ≡ line)
    → read stitch ≡ line
read_beyond tiles blocks None at read line tiled leads border beside = border leads
read_beyond tiles blocks (Some other) at read line tiled leads border beside =
    let (block, is, held) = there-IsSomeAnd (blocks other) (λ b. holds b.rect at.x at.y ≡ true) leads in
    let (tile, found, placed) = placed_tile tiles blocks other block (tiled.placed other) is in
    beside other tile block found placed is held

-- the right side of a tile's block is the left side beyond it, and its top is the bottom beyond it
sides_beyond :
    (tiles : List (ℕ × Tile)) (blocks : ℕ → Option Piece) (key : ℕ) (block : Piece) (tr rt : Option ℕ) → AreTiledAs tiles blocks → blocks key ≡ Some block
    → LeadsTo blocks tr (beyond Tr block.rect) → LeadsTo blocks rt (beyond Rt block.rect) → (left_beyond tiles tr ≡ block.rect.right) × (bottom_beyond tiles rt ≡ block.rect.top)
sides_beyond tiles blocks key block tr rt tiled is leads_right leads_up =
    let legal = legal-AreBlocks blocks key block tiled.tiling is in
    let right =
    read_beyond tiles blocks tr (beyond Tr block.rect) (left_beyond tiles) block.rect.right tiled leads_right
    (λ border. sym (right-outside world block.rect (block.rect.top - 1) legal (omega (arith, legal.tall)) (omega (arith, legal.tall)) border))
    (λ other tile b found placed there held. rw found (placed.left
    ∙ right_neighbour blocks key other block b (block.rect.top - 1) tiled.tiling is there (omega (arith, legal.tall)) (omega (arith, legal.tall)) held)) in
    let up =
    read_beyond tiles blocks rt (beyond Rt block.rect) (bottom_beyond tiles) block.rect.top tiled leads_up
    (λ border. sym (top-outside world block.rect (block.rect.right - 1) legal (omega (arith, legal.wide)) (omega (arith, legal.wide)) border))
    (λ other tile b found placed there held. rw found (placed.bottom
    ∙ upper_neighbour blocks key other block b (block.rect.right - 1) tiled.tiling is there (omega (arith, legal.wide)) (omega (arith, legal.wide)) held)) in
    (right, up)

same_block : (tiles : List (ℕ × Tile)) (tile : Tile) (block : Piece) → IsPlaced tile block → left_beyond tiles tile.tr ≡ block.rect.right → bottom_beyond tiles tile.rt ≡ block.rect.top
    → block_of tiles tile ≡ block
same_block tiles tile block placed right top = rw (placed.left, placed.bottom, right, top, placed.kind) refl

block_at-slot :
    (tiles : List (ℕ × Tile)) (blocks : ℕ → Option Piece) (key : ℕ) (slot : Option Tile) → AreTiledAs tiles blocks → tile_in tiles key ≡ slot → ArePlaced slot (blocks key)
    → option_map (block_of tiles) slot ≡ blocks key
block_at-slot tiles blocks key None tiled is placed = sym placed
block_at-slot tiles blocks key (Some tile) tiled is (block, is_block, placed) =
    let (right, up) = sides_beyond tiles blocks key block tile.tr tile.rt tiled is_block (tiled.stitched key tile block Tr is is_block) (tiled.stitched key tile block Rt is is_block) in
    ap Some (same_block tiles tile block placed right up) ∙ sym is_block

-- so tiles that are laid as blocks and stitched have these blocks by their stitches
pub block_at-AreTiledAs : (tiles : List (ℕ × Tile)) (blocks : ℕ → Option Piece) → AreTiledAs tiles blocks → (key : ℕ) → block_at tiles key ≡ blocks key
block_at-AreTiledAs tiles blocks tiled key = block_at-slot tiles blocks key (tile_in tiles key) tiled refl (tiled.placed key)

pub blocks-AreTiledAs : (tiles : List (ℕ × Tile)) (blocks : ℕ → Option Piece) → AreTiledAs tiles blocks → block_at tiles ≡ blocks
blocks-AreTiledAs tiles blocks tiled = fun_ext (block_at-AreTiledAs tiles blocks tiled)

-- and are a plane
pub IsPlane-AreTiledAs : (tiles : List (ℕ × Tile)) (blocks : ℕ → Option Piece) → AreTiledAs tiles blocks → IsPlane tiles
IsPlane-AreTiledAs tiles blocks tiled = subst (AreTiledAs tiles) (sym (blocks-AreTiledAs tiles blocks tiled)) tiled
