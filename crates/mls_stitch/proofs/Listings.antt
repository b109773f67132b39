-- What area search has listed so far, from step to step.
use Rattle.std.proofs.Common.{◌≡◌, ◌≢◌, ◌⊎◌, ℕ, zero, suc, ◌+◌, ◌-◌, ◌<◌, ◌≤◌, true, IsTrue, List, [], ◌∷◌, ◌++◌, length, get_or, Option, Some, None, All, Any, Contains, inl, inr, refl, sym, ap, ◌∙◌, subst, arith}
use Rattle.mls_stitch.proofs.Common.{IsSome, IsSomeAnd, option_map, both_ways, cases_lt, nat_tests, get_or_append_left, length_push, All-push, Contains-append_left, Contains-push, same_Some, Point, Rect, IsRectangleIn, holds, meets, world, Piece, holds_between, between_holds, IsFound, MeetArea, IsListedTo, IsParent, IsReached, first_row, LeadsTo, AreBlocks, IsPlane, block_at, block_of, IsLaid, IsLaidAt, LaidTile, Lb, Tr, tile_in, Tile}
use Rattle.std.proofs.lemmas.List.Quantifiers.{all_pairs_push}
use Rattle.mls_stitch.proofs.ListedTiles.{length-le-AreLaid}
use Rattle.mls_stitch.proofs.Sides.{holds-HoldsAt, left_neighbour, legal-AreBlocks, lower_neighbour, right_neighbour, there-IsSomeAnd}

-- the lines of rectangles that share a square
pub meets_lines : (a b : Rect) → meets a b ≡ true → (a.left < b.right) × (b.left < a.right) × (a.bottom < b.top) × (b.bottom < a.top)
meets_lines a b met = grind (arith, nat_tests)

pub lines_meet : (a b : Rect) → a.left < a.right → b.left < b.right → a.bottom < a.top → b.bottom < b.top → a.left < b.right → b.left < a.right → a.bottom < b.top → b.bottom < a.top → meets a b ≡ true
lines_meet a b wide wide' tall tall' left left' low low' = grind (arith, nat_tests)

abbrev named : Piece → ℕ → LaidTile
named piece id = record { id = id; piece = piece }

abbrev named_as : ℕ → Piece → LaidTile
named_as id piece = record { id = id; piece = piece }

-- tiles that are laid under one key, or share a square, are one
pub same_tile : (blocks : ℕ → Option Piece) (p q : LaidTile) → IsLaid blocks p → IsLaid blocks q → p.id ≡ q.id → p ≡ q
same_tile blocks p q is_p is_q same =
    let pieces : p.piece ≡ q.piece = same_Some p.piece q.piece (sym is_p ∙ ap blocks same ∙ is_q) in
    ap (named p.piece) same ∙ ap (named_as q.id) pieces

pub one_tile :
    (blocks : ℕ → Option Piece) (p q : LaidTile) (x y : ℕ) → AreBlocks blocks → IsLaid blocks p → IsLaid blocks q → holds p.piece.rect x y ≡ true → holds q.piece.rect x y ≡ true → p ≡ q
one_tile blocks p q x y tiling is_p is_q in_p in_q =
    let same : p.id ≡ q.id = tiling.apart p.id q.id (record { x = x; y = y }) (rw is_p in_p) (rw is_q in_q) in
    same_tile blocks p q is_p is_q same

-- an element that passes is still one in a longer list
pub any_push : {X : Type 0} (P : X → Type 0) (xs : List X) (y : X) → Any P xs → Any P (xs ++ y ∷ [])
any_push P xs y (k, x, within, is, passes) = (k, x, omega (arith, length_push xs y, within), get_or_append_left xs (y ∷ []) x k within ∙ is, passes)

⊎_map : {A B C D : Type 0} → (A → C) → (B → D) → A ⊎ B → C ⊎ D
⊎_map f g (inl a) = inl (f a)
⊎_map f g (inr b) = inr (g b)

-- what is reached, by another index and line
reached_as :
    {area : Rect} {list : List LaidTile} {index line next low : ℕ} {tile : LaidTile} (reached : IsReached area list index line tile)
    → (reached.place < next) ⊎ ((reached.place ≡ next) × (low ≤ first_row area tile)) → IsReached area list next low tile
reached_as reached passed = record {
  place = reached.place;
  parent = reached.parent;
  within = reached.within;
  there = reached.there;
  is_parent = reached.is_parent;
  passed = passed;
}

-- where the tile's parent is, once it is reached at the index
parent_here :
    (area : Rect) (list : List LaidTile) (index at_index line : ℕ) (parent tile : LaidTile) → ((d : LaidTile) → get_or list index d ≡ parent)
    → (reached : IsReached area list at_index line tile) → reached.place ≡ index → IsParent area parent tile
parent_here area list index at_index line parent tile here reached at =
    let is : reached.parent ≡ parent = sym reached.there ∙ ap (λ place. get_or list place reached.parent) at ∙ here reached.parent in
    subst (λ p. IsParent area p tile) is reached.is_parent

-- what is reached stays reached further down
reached_lower : (area : Rect) (list : List LaidTile) (index line low : ℕ) (tile : LaidTile) → low ≤ line → IsReached area list index line tile → IsReached area list index low tile
reached_lower area list index line low tile lower reached = elim reached.passed [
  | inl before ↦ reached_as reached (inl before)
  | inr (at, above) ↦
      reached_as reached (inr (at, omega (arith, above, lower)))
]

-- what is reached in a list is reached in a longer one, and the other way round
reached_push : (area : Rect) (list : List LaidTile) (more : LaidTile) (index line : ℕ) (tile : LaidTile) → IsReached area list index line tile → IsReached area (list ++ more ∷ []) index line tile
reached_push area list more index line tile reached = record {
  place = reached.place;
  parent = reached.parent;
  within = omega (arith, length_push list more, reached.within);
  there = get_or_append_left list (more ∷ []) reached.parent reached.place reached.within ∙ reached.there;
  is_parent = reached.is_parent;
  passed = reached.passed;
}

reached_unpush :
    (area : Rect) (list : List LaidTile) (more : LaidTile) (index line : ℕ) (tile : LaidTile) → index < length list → IsReached area (list ++ more ∷ []) index line tile
    → IsReached area list index line tile
reached_unpush area list more index line tile short reached =
    let within : reached.place < length list = elim reached.passed [
      | inl before ↦ omega (arith, before, short)
      | inr (at, above) ↦ omega (arith, at, short)
    ] in
    record {
      place = reached.place;
      parent = reached.parent;
      within = within;
      there = sym (get_or_append_left list (more ∷ []) reached.parent reached.place within) ∙ reached.there;
      is_parent = reached.is_parent;
      passed = reached.passed;
    }

-- once the index is passed, so is all that was reached there
reached_past : (area : Rect) (list : List LaidTile) (index line : ℕ) (tile : LaidTile) → IsReached area list index line tile → IsReached area list (index + 1) world.top tile
reached_past area list index line tile reached = elim reached.passed [
  | inl before ↦ reached_as reached (inl (omega (arith, before)))
  | inr (at, above) ↦ reached_as reached (inl (omega (arith, at)))
]

-- where the same has been reached by another index and line, the list is listed to these
relisted :
    (blocks : ℕ → Option Piece) (area : Rect) (list : List LaidTile) (index line next low : ℕ) → IsListedTo blocks area list index line
    → ((tile : LaidTile) → IsReached area list index line tile → IsReached area list next low tile)
    → ((child : LaidTile) → IsFound blocks area child → IsReached area list next low child → IsReached area list index line child) → IsListedTo blocks area list next low
relisted blocks area list index line next low listed onward back = record {
  each = listed.each;
  once = listed.once;
  on_side = listed.on_side;
  listed = λ k d within. ⊎_map (λ e. e) (onward (get_or list k d)) (listed.listed k d within);
  reached = λ child found beyond reached. listed.reached child found beyond (back child found reached);
}

-- the right neighbours above the line of the parent, which is the listed tile at the index, have been passed, and the stitch leads to the next one
pub record ArePassed (blocks : ℕ → Option Piece) (area : Rect) (list : List LaidTile) (index line : ℕ) (parent : LaidTile) (next : Option ℕ) : Type 0 where
  pub listed : IsListedTo blocks area list index line
  pub within : index < length list
  pub here : (d : LaidTile) → get_or list index d ≡ parent
  pub up_to : line ≤ parent.piece.rect.top
  pub before_end : parent.piece.rect.right < area.right
  pub leads : LeadsTo blocks next (record { x = parent.piece.rect.right; y = line - 1 })
  -- the last one that was passed lies on top of it
  pub told : line < parent.piece.rect.top → (tile : LaidTile) → IsLaidAt blocks (record { x = parent.piece.rect.right; y = line - 1 }) tile → tile.piece.rect.top ≡ line

-- the tile is the next right neighbour of the parent, and has rows of the area
pub record IsBeside (blocks : ℕ → Option Piece) (area : Rect) (list : List LaidTile) (index line : ℕ) (parent tile : LaidTile) : Type 0 where
  pub listed : IsListedTo blocks area list index line
  pub within : index < length list
  pub here : (d : LaidTile) → get_or list index d ≡ parent
  pub up_to : line ≤ parent.piece.rect.top
  pub before_end : parent.piece.rect.right < area.right
  pub not_last : first_row area parent < line
  pub told : line < parent.piece.rect.top → tile.piece.rect.top ≡ line
  pub beside : IsLaidAt blocks (record { x = parent.piece.rect.right; y = line - 1 }) tile

-- the tile that has a square, with its block
pub tile_with : (blocks : ℕ → Option Piece) (x y : ℕ) → AreBlocks blocks → holds world x y ≡ true → (tile : LaidTile) × IsLaidAt blocks (record { x = x; y = y }) tile
tile_with blocks x y tiling inside =
    let (key, held) = tiling.whole (record { x = x; y = y }) inside in
    let there = there-IsSomeAnd (blocks key) (λ block. holds block.rect x y ≡ true) held in
    (record { id = key; piece = there.0 }, record { laid = there.1; held = there.2 })

pub inside_world : (area : Rect) (x y : ℕ) → IsRectangleIn world area → holds area x y ≡ true → holds world x y ≡ true
inside_world area x y inside held =
    let square = holds_between area x y held in
    between_holds world x y (omega (arith, square.0, inside.left_in)) (omega (arith, square.1, inside.right_in)) (omega (arith, square.2, inside.bottom_in)) (omega (arith, square.3, inside.top_in))

module _ (blocks : ℕ → Option Piece) (area : Rect) (tiling : AreBlocks blocks) (inside : IsRectangleIn world area) where
  legal : (tile : LaidTile) → IsLaid blocks tile → IsRectangleIn world tile.piece.rect
  legal tile laid = legal-AreBlocks blocks tile.id tile.piece tiling laid

  -- a found tile has its first row, and so has the area
  pub first_row_found :
      (tile : LaidTile) → IsFound blocks area tile
      → (tile.piece.rect.bottom ≤ first_row area tile) × (area.bottom ≤ first_row area tile) × (first_row area tile < tile.piece.rect.top) × (first_row area tile < area.top)
  first_row_found tile found =
      let lines = meets_lines tile.piece.rect area found.met in
      let sides = legal tile found.laid in
      (omega arith, omega arith, omega (arith, lines.2, lines.3, sides.tall, inside.tall), omega (arith, lines.2, lines.3, inside.tall, sides.tall))

  -- a parent ends where its child begins
  child_beside : (parent tile : LaidTile) → IsLaid blocks parent → IsFound blocks area tile → IsParent area parent tile → tile.piece.rect.left ≡ parent.piece.rect.right
  child_beside parent tile laid found is_parent =
      let rows = first_row_found tile found in
      sym (left_neighbour blocks tile.id parent.id tile.piece parent.piece (first_row area tile) tiling found.laid laid rows.0 rows.2 is_parent)

  module _ (list : List LaidTile) (index line : ℕ) (parent tile : LaidTile) (beside : IsBeside blocks area list index line parent tile) where
    parent_found : IsFound blocks area parent
    parent_found = subst (IsFound blocks area) (beside.here parent) (beside.listed.each index parent beside.within)

    lines : (tile.piece.rect.left ≤ parent.piece.rect.right) × (parent.piece.rect.right < tile.piece.rect.right) × (tile.piece.rect.bottom ≤ line - 1) × (line - 1 < tile.piece.rect.top)
    lines = holds_between tile.piece.rect parent.piece.rect.right (line - 1) beside.beside.held

    -- it begins where the parent ends
    pub begins_beside : tile.piece.rect.left ≡ parent.piece.rect.right
    begins_beside =
        right_neighbour blocks parent.id tile.id parent.piece tile.piece (line - 1) tiling parent_found.laid beside.beside.laid (omega (arith, beside.not_last)) (omega (arith, beside.not_last, beside.up_to)) beside.beside.held

    -- a child of the parent with its first row beside it is this neighbour
    child_here : (child : LaidTile) → IsFound blocks area child → IsParent area parent child → tile.piece.rect.bottom ≤ first_row area child → first_row area child < line → child ≡ tile
    child_here child found is_parent above below =
        let rows = first_row_found child found in
        let sides = legal child found.laid in
        let at_right = child_beside parent child parent_found.laid found is_parent in
        let y = first_row area child in
        one_tile blocks child tile parent.piece.rect.right y tiling found.laid beside.beside.laid
        (between_holds child.piece.rect parent.piece.rect.right y (omega (arith, at_right)) (omega (arith, at_right, sides.wide)) rows.0 rows.2)
        (between_holds tile.piece.rect parent.piece.rect.right y lines.0 lines.1 above (omega (arith, lines.3, below)))

    -- a tile that is reached down to its bottom was reached before, or is this neighbour
    reached_down :
        (child : LaidTile) → IsFound blocks area child → IsReached area list index tile.piece.rect.bottom child
        → ((child ≡ tile) × IsParent area parent child) ⊎ IsReached area list index line child
    reached_down child found reached = elim reached.passed [
      | inl before ↦ inr (reached_as reached (inl before))
      | inr (at, above) ↦
          elim (cases_lt (first_row area child) line) [
            | inl below ↦
                let is_parent = parent_here area list index index tile.piece.rect.bottom parent child beside.here reached at in
                inl (child_here child found is_parent above below, is_parent)
            | inr over ↦ inr (reached_as reached (inr (at, over)))
          ]
    ]

    -- where it is reached now, it was not listed before
    not_listed : IsFound blocks area tile → IsParent area parent tile → All (λ p. p.id ≢ tile.id) list
    not_listed found is_parent k d within same =
        let listed = beside.listed in
        let other = get_or list k d in
        let is : other ≡ tile = same_tile blocks other tile (listed.each k d within).laid found.laid same in
        let at_right = child_beside parent tile parent_found.laid found is_parent in
        let after = meets_lines parent.piece.rect area parent_found.met in
        elim (subst (λ t. (t.piece.rect.left ≤ area.left) ⊎ IsReached area list index line t) is (listed.listed k d within)) [
          | inl at_side ↦ omega (arith, at_side, at_right, after.1)
          | inr reached ↦
              elim reached.passed [
                | inl before ↦
                    let first = subst (IsFound blocks area) reached.there (listed.each reached.place reached.parent reached.within) in
                    let one = one_tile blocks reached.parent parent (tile.piece.rect.left - 1) (first_row area tile) tiling first.laid parent_found.laid reached.is_parent is_parent in
                    listed.once reached.place index reached.parent before beside.within (ap (λ t. t.id) (reached.there ∙ one ∙ sym (beside.here reached.parent)))
                | inr (at, above) ↦ omega (arith, above, lines.2, beside.not_last)
              ]
        ]

    -- it is listed where it is the parent's child
    pub listed_push : IsFound blocks area tile → IsParent area parent tile → IsListedTo blocks area (list ++ tile ∷ []) index tile.piece.rect.bottom
    listed_push found is_parent =
        let listed = beside.listed in
        let low = tile.piece.rect.bottom in
        let lower : low ≤ line = omega (arith, lines.2) in
        record {
          each = All-push (IsFound blocks area) list tile listed.each found;
          once = all_pairs_push (λ p q. p.id ≢ q.id) list tile listed.once (not_listed found is_parent);
          on_side = λ y above below. any_push (λ t. holds t.piece.rect area.left y ≡ true) list tile (listed.on_side y above below);
          listed =
              All-push (λ t. (t.piece.rect.left ≤ area.left) ⊎ IsReached area (list ++ tile ∷ []) index low t) list tile
              (λ k d within. ⊎_map (λ e. e) (λ reached. reached_push area list tile index low _ (reached_lower area list index line low _ lower reached)) (listed.listed k d within))
              (inr (record {
                place = index;
                parent = parent;
                within = omega (arith, length_push list tile, beside.within);
                there = get_or_append_left list (tile ∷ []) parent index beside.within ∙ beside.here parent;
                is_parent = is_parent;
                passed = inr (refl, omega arith);
              }));
          reached = λ child child_found beyond reached.
              elim (reached_down child child_found (reached_unpush area list tile index low child beside.within reached)) [
                | inl (is, _) ↦ subst (Contains (list ++ tile ∷ [])) (sym is) (Contains-push list tile)
                | inr before ↦ Contains-append_left list (tile ∷ []) child (listed.reached child child_found beyond before)
              ];
        }

    -- and where it is not, it need not be listed
    pub listed_skip : (IsFound blocks area tile → IsParent area parent tile → ⊥) → IsListedTo blocks area list index tile.piece.rect.bottom
    listed_skip other =
        relisted blocks area list index line index tile.piece.rect.bottom beside.listed (λ _ reached. reached_lower area list index line tile.piece.rect.bottom _ (omega (arith, lines.2)) reached)
        (λ child found reached. elim (reached_down child found reached) [
          | inl (is, is_parent) ↦ absurd (other (subst (IsFound blocks area) is found) (subst (IsParent area parent) is is_parent))
          | inr before ↦ before
        ])

    -- it is the parent's child where its first row is one of the parent's in the area
    pub child_found : first_row area parent ≤ first_row area tile → first_row area tile < area.top → IsFound blocks area tile × IsParent area parent tile
    child_found above low =
        let wide = (legal parent parent_found.laid).wide in
        let sides = legal tile beside.beside.laid in
        let left = begins_beside in
        let met = meets_lines parent.piece.rect area parent_found.met in (
          record {
            laid = beside.beside.laid;
            met =
                lines_meet tile.piece.rect area sides.wide inside.wide sides.tall inside.tall (omega (arith, left, beside.before_end)) (omega (arith, left, sides.wide, met.1)) (omega (arith, low))
                (omega (arith, beside.not_last, lines.3));
          },
          between_holds parent.piece.rect (tile.piece.rect.left - 1) (first_row area tile) (omega (arith, left, wide)) (omega (arith, left, wide)) (omega (arith, above))
              (omega (arith, lines.2, beside.not_last, beside.up_to)),
        )

  -- and only there
  pub child_rows : (parent tile : LaidTile) → IsFound blocks area tile → IsParent area parent tile → (first_row area parent ≤ first_row area tile) × (first_row area tile < area.top)
  child_rows parent tile found is_parent =
      let rows = holds_between parent.piece.rect (tile.piece.rect.left - 1) (first_row area tile) is_parent in
      (omega (arith, rows.2), (first_row_found tile found).3)

  -- there is a next one down to the parent's first row
  pub next_there :
      (list : List LaidTile) (index line : ℕ) (parent : LaidTile) (next : Option ℕ) → ArePassed blocks area list index line parent next → first_row area parent < line → IsSome next
  next_there list index line parent next was not_last = go next was.leads where
    go : (stitch : Option ℕ) → LeadsTo blocks stitch (record { x = parent.piece.rect.right; y = line - 1 }) → IsSome stitch
    go None outside =
        let found = subst (IsFound blocks area) (was.here parent) (was.listed.each index parent was.within) in
        let sides = legal parent found.laid in
        absurd (both_ways _ outside
        (between_holds world parent.piece.rect.right (line - 1) (omega (arith, sides.wide, sides.left_in)) (omega (arith, was.before_end, inside.right_in)) (omega (arith, not_last, sides.bottom_in))
        (omega (arith, not_last, was.up_to, sides.top_in))))
    go (Some key) held = refl

  module _ (list : List LaidTile) (index line : ℕ) (parent : LaidTile) (listed : IsListedTo blocks area list index line) (here : (d : LaidTile) → get_or list index d ≡ parent) where
    -- the parent at the index is passed where all its children lie at the line or above it
    listed_after : ((child : LaidTile) → IsFound blocks area child → IsParent area parent child → line ≤ first_row area child) → IsListedTo blocks area list (index + 1) world.top
    listed_after above_line =
        relisted blocks area list index line (index + 1) world.top listed (λ _. reached_past area list index line _) (λ child found reached. elim reached.passed [
          | inl before ↦
              elim (cases_lt reached.place index) [
                | inl earlier ↦ reached_as reached (inl earlier)
                | inr later ↦
                    let at : reached.place ≡ index = omega (arith, before, later) in
                    reached_as reached (inr (at, above_line child found (parent_here area list index (index + 1) world.top parent child here reached at)))
              ]
          | inr (at, above) ↦ absurd (omega (arith, above, (first_row_found child found).3, inside.top_in))
        ])

    -- so it is after its last right neighbour
    pub listed_past : line ≤ first_row area parent → IsListedTo blocks area list (index + 1) world.top
    listed_past last = listed_after (λ child found is_parent.
        let lines = holds_between parent.piece.rect (child.piece.rect.left - 1) (first_row area child) is_parent in
        omega (arith, last, lines.2))

    -- and a parent that reaches the area's right side has no child in the area
    pub listed_at_end : index < length list → area.right ≤ parent.piece.rect.right → IsListedTo blocks area list (index + 1) world.top
    listed_at_end within at_end =
        let laid = subst (IsFound blocks area) (here parent) (listed.each index parent within) in
        listed_after (λ child found is_parent.
        absurd (omega (arith, at_end, child_beside parent child laid.laid found is_parent, (meets_lines child.piece.rect area found.met).0)))

  -- before its first right neighbour, nothing of the parent at the index is passed
  pub listed_from_top :
      (list : List LaidTile) (index : ℕ) (parent : LaidTile) → IsListedTo blocks area list index world.top → index < length list → ((d : LaidTile) → get_or list index d ≡ parent)
      → IsListedTo blocks area list index parent.piece.rect.top
  listed_from_top list index parent listed within here =
      let laid = subst (IsFound blocks area) (here parent) (listed.each index parent within) in
      relisted blocks area list index world.top index parent.piece.rect.top listed (λ _. reached_lower area list index world.top parent.piece.rect.top _ (legal parent laid.laid).top_in)
      (λ child found reached. elim reached.passed [
        | inl before ↦ reached_as reached (inl before)
        | inr (at, above) ↦
            let is_parent = parent_here area list index index parent.piece.rect.top parent child here reached at in
            absurd (omega (arith, above, (holds_between parent.piece.rect (child.piece.rect.left - 1) (first_row area child) is_parent).3))
      ])

  -- a tile with a square of the area is found there
  pub found_with : (tile : LaidTile) (x y : ℕ) → holds area x y ≡ true → IsLaidAt blocks (record { x = x; y = y }) tile → IsFound blocks area tile
  found_with tile x y held is =
      let square = holds_between area x y held in
      let lines = holds_between tile.piece.rect x y is.held in
      let sides = legal tile is.laid in
      record {
        laid = is.laid;
        met =
            lines_meet tile.piece.rect area sides.wide inside.wide sides.tall inside.tall (omega (arith, lines.0, square.1)) (omega (arith, square.0, lines.1)) (omega (arith, lines.2, square.3))
            (omega (arith, square.2, lines.3));
      }

  -- the parent's square of a tile beyond the area's left side
  parent_square : (tile : LaidTile) → IsFound blocks area tile → area.left < tile.piece.rect.left → holds area (tile.piece.rect.left - 1) (first_row area tile) ≡ true
  parent_square tile found beyond =
      let rows = first_row_found tile found in
      let lines = meets_lines tile.piece.rect area found.met in
      between_holds area (tile.piece.rect.left - 1) (first_row area tile) (omega (arith, beyond)) (omega (arith, lines.0, beyond)) rows.1 rows.3

  -- once all parents are passed, each square of the area is in a listed tile
  module _ (list : List LaidTile) (listed : IsListedTo blocks area list (length list) world.top) where
    whole_below : (n x y : ℕ) → x < n → holds area x y ≡ true → Any (λ tile. holds tile.piece.rect x y ≡ true) list
    whole_below zero x y few held = absurd (omega arith)
    whole_below (suc n) x y few held =
        let with' : (tile : LaidTile) × IsLaidAt blocks (record { x = x; y = y }) tile = tile_with blocks x y tiling (inside_world area x y inside held) in
        let tile = with'.0 in
        let is = with'.1 in
        let found = found_with tile x y held is in
        let lines = holds_between tile.piece.rect x y is.held in
        elim (cases_lt area.left tile.piece.rect.left) [
          | inl beyond ↦
              let (k, parent, within, there, is_parent) =
              whole_below n (tile.piece.rect.left - 1) (first_row area tile) (omega (arith, few, lines.0, beyond)) (parent_square tile found beyond) in
              let (j, short, at) =
              listed.reached tile found beyond (record { place = k; parent = parent; within = within; there = there; is_parent = is_parent; passed = inl within }) in
              (j, tile, short, at, is.held)
          | inr at_side ↦
              let square = holds_between area x y held in
              let (k, other, within, there, on_side) = listed.on_side y square.2 square.3 in
              let laid = (subst (IsFound blocks area) there (listed.each k other within)).laid in
              let one =
              one_tile blocks tile other area.left y tiling is.laid laid (between_holds tile.piece.rect area.left y at_side (omega (arith, square.0, lines.1)) lines.2 lines.3) on_side in
              (k, other, within, there, subst (λ t. holds t.piece.rect x y ≡ true) one is.held)
        ]

    -- so the list has the tiles of the area
    pub MeetArea-listed : MeetArea blocks area list
    MeetArea-listed = record { each = listed.each; whole = λ x y. whole_below (suc x) x y (omega arith) }

module _ (tiles : List (ℕ × Tile)) (area : Rect) (plane : IsPlane tiles) (inside : IsRectangleIn world area) where
  -- the first right neighbour comes next
  pub passed_none :
      (list : List LaidTile) (index : ℕ) (parent : LaidTile) (tile : Tile) → IsListedTo (block_at tiles) area list index world.top → index < length list
      → ((d : LaidTile) → get_or list index d ≡ parent) → parent.piece.rect.right < area.right → tile_in tiles parent.id ≡ Some tile
      → ArePassed (block_at tiles) area list index parent.piece.rect.top parent tile.tr
  passed_none list index parent tile listed within here before_end is =
      let laid = subst (IsFound (block_at tiles) area) (here parent) (listed.each index parent within) in
      record {
        listed = listed_from_top (block_at tiles) area plane.tiling inside list index parent listed within here;
        within = within;
        here = here;
        up_to = omega arith;
        before_end = before_end;
        leads = plane.stitched parent.id tile parent.piece Tr is laid.laid;
        told = λ lower. absurd (omega (arith, lower));
      }

  -- a tile that the stitch leads to is there
  pub led_there : (stitch : Option ℕ) (at : Point) (key : ℕ) → LeadsTo (block_at tiles) stitch at → stitch ≡ Some key → IsSome (tile_in tiles key)
  led_there stitch at key leads is = go (tile_in tiles key) (subst (λ s. LeadsTo (block_at tiles) s at) is leads) where
    go : (slot : Option Tile) → IsSomeAnd (option_map (block_of tiles) slot) (λ block. IsTrue (holds block.rect at.x at.y)) → IsSome slot
    go None held = absurd held
    go (Some tile) held = refl

  -- and is the next right neighbour
  pub beside_next :
      (list : List LaidTile) (index line id : ℕ) (parent : LaidTile) (next : Option ℕ) (tile : Tile) → ArePassed (block_at tiles) area list index line parent next
      → first_row area parent < line → next ≡ Some id → tile_in tiles id ≡ Some tile
      → IsBeside (block_at tiles) area list index line parent (record { id = id; piece = block_of tiles tile })
  beside_next list index line id parent next tile was not_last named there =
      let at : Point = record { x = parent.piece.rect.right; y = line - 1 } in
      let laid : block_at tiles id ≡ Some (block_of tiles tile) = ap (option_map (block_of tiles)) there in
      let is : IsLaidAt (block_at tiles) at (record { id = id; piece = block_of tiles tile }) =
      record { laid = laid; held = holds-HoldsAt (block_at tiles) id (block_of tiles tile) at laid (subst (λ s. LeadsTo (block_at tiles) s at) named was.leads) } in
      record {
        listed = was.listed;
        within = was.within;
        here = was.here;
        up_to = was.up_to;
        before_end = was.before_end;
        not_last = not_last;
        told = λ lower. was.told lower (record { id = id; piece = block_of tiles tile }) is;
        beside = is;
      }

  module _ (list : List LaidTile) (index line id : ℕ) (parent : LaidTile) (tile : Tile) (there : tile_in tiles id ≡ Some tile)
      (was : IsBeside (block_at tiles) area list index line parent (record { id = id; piece = block_of tiles tile })) where
    abbrev this : LaidTile
    this = record { id = id; piece = block_of tiles tile }

    -- after it, the one below it comes next
    pub passed_more :
        (more : List LaidTile) → index < length more → ((d : LaidTile) → get_or more index d ≡ parent) → IsListedTo (block_at tiles) area more index tile.corner.y
        → ArePassed (block_at tiles) area more index tile.corner.y parent tile.lb
    passed_more more within here listed =
        let lines = holds_between this.piece.rect parent.piece.rect.right (line - 1) was.beside.held in
        let at_right = begins_beside (block_at tiles) area plane.tiling inside list index line parent this was in
        record {
          listed = listed;
          within = within;
          here = here;
          up_to = omega (arith, lines.2, was.up_to);
          before_end = was.before_end;
          leads = subst (λ x. LeadsTo (block_at tiles) tile.lb (record { x = x; y = tile.corner.y - 1 })) at_right (plane.stitched id tile this.piece Lb there was.beside.laid);
          told = λ _ below at. lower_neighbour (block_at tiles) id below.id this.piece below.piece parent.piece.rect.right plane.tiling was.beside.laid at.laid lines.0 lines.1 at.held;
        }

    -- there is room for a child
    pub child_fits : IsFound (block_at tiles) area this → IsParent area parent this → length list < length tiles
    child_fits found is_parent =
        let longer = listed_push (block_at tiles) area plane.tiling inside list index line parent this was found is_parent in
        omega (arith, length_push list this, length-le-AreLaid tiles (list ++ this ∷ []) (λ k d within. (longer.each k d within).laid) longer.once)
