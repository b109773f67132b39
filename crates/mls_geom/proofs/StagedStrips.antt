-- The strips of a row that is changed from left to right, as far as they are done: each that reaches on is stacked on the band if it begins left of the column.
use Rattle.mls_geom.proofs.Common.{◌≡◌, ◌≢◌, ℕ, ◌-◌, ◌<◌, ◌≤◌, ◌==◌, nat_lt, min, if◌then◌else◌, List, [], ◌∷◌, ◌++◌, length, get_or, set, map, All, sym, ap, refl, ◌∙◌, inl, inr, arith, get_or-set_other, fun_ext, AllWithin, Contains, cases_eq, cases_lt, cond-true, cond-false, eq-eqb, ne_eqb, lt-ltb, le-ltb, get_or-set_at, get_or_default, get_or-set_same, get_or_append_left, All-contains}
use Rattle.mls_geom.proofs.Definitions.{Picture, IsRun, IsChanging, staged, lowered, run_of, strip_at, extended, world, Piece}
use Rattle.mls_geom.proofs.MappedLists.{All-from_map, AllPairs-from_map, map_alike}

-- a strip that reaches on is stacked on the band left of the column, and ends at its bottom line right of it; one that has ended stays
pub staged_left :
    (bottom top column : ℕ) (strip : Piece) → strip.rect.top ≡ world.top → strip.rect.left < column → staged bottom top column strip ≡ extended top strip
staged_left bottom top column strip reaches left =
    cond-true (strip.rect.top == world.top) (extended (if nat_lt strip.rect.left column then top else bottom) strip) strip (eq-eqb strip.rect.top world.top reaches)
    ∙ ap (λ line. extended line strip) (cond-true (nat_lt strip.rect.left column) top bottom (lt-ltb strip.rect.left column left))

pub staged_right :
    (bottom top column : ℕ) (strip : Piece) → strip.rect.top ≡ world.top → column ≤ strip.rect.left → staged bottom top column strip ≡ extended bottom strip
staged_right bottom top column strip reaches right =
    cond-true (strip.rect.top == world.top) (extended (if nat_lt strip.rect.left column then top else bottom) strip) strip (eq-eqb strip.rect.top world.top reaches)
    ∙ ap (λ line. extended line strip) (cond-false (nat_lt strip.rect.left column) top bottom (le-ltb strip.rect.left column right))

pub staged_ended : (bottom top column : ℕ) (strip : Piece) → strip.rect.top ≢ world.top → staged bottom top column strip ≡ strip
staged_ended bottom top column strip ends =
    cond-false (strip.rect.top == world.top) (extended (if nat_lt strip.rect.left column then top else bottom) strip) strip (ne_eqb strip.rect.top world.top ends)

-- a strip that is lowered to a line
pub lowered_to : (y line : ℕ) (strip : Piece) → min y strip.rect.top ≡ line → lowered y strip ≡ extended line strip
lowered_to y line strip is = ap (λ line. extended line strip) is

-- a strip keeps its columns and its kind when it is extended or ended
pub run_of-extended : (strips : List Piece) (k top : ℕ) → k < length strips → run_of (set strips k (extended top (strip_at strips k))) ≡ run_of strips
run_of-extended strips k top within = fun_ext (λ j. elim (cases_eq j k) [
  | inl same ↦ rw (same, get_or-set_same strips k (extended top (strip_at strips k)) (strip_at [] 0) within) refl
  | inr other ↦ rw (get_or-set_other strips k j (extended top (strip_at strips k)) (strip_at [] 0) other) refl
])

-- the strips known before keep theirs when one more is found
pub run_of-push : (strips : List Piece) (new : Piece) (k : ℕ) → k < length strips → run_of (strips ++ new ∷ []) k ≡ run_of strips k
run_of-push strips new k within = rw (get_or_append_left strips (new ∷ []) (strip_at [] 0) k within) refl

pub runs_of-push :
    (strips : List Piece) (new : Piece) (row : List ℕ) → All (λ k. k < length strips) row → map (run_of (strips ++ new ∷ [])) row ≡ map (run_of strips) row
runs_of-push strips new row known = map_alike (run_of (strips ++ new ∷ [])) (run_of strips) row 0 (λ m within. run_of-push strips new (get_or row m 0) (known m 0 within))

-- what holds of a strip after another one is replaced
pub strip_at-set :
    (P : Piece → Type 0) (strips : List Piece) (k j : ℕ) (new : Piece) → k < length strips → (j ≡ k → P new) → (j ≢ k → P (strip_at strips j)) → P (strip_at (set strips k new) j)
strip_at-set P strips k j new within here others = elim (cases_eq j k) [
  | inl same ↦ rw (get_or-set_at strips k j new (strip_at [] 0) same within) (here same)
  | inr other ↦ rw (get_or-set_other strips k j new (strip_at [] 0) other) (others other)
]

-- a strip known before is the same when one more is found
pub strip_at-push : (strips : List Piece) (new : Piece) (k : ℕ) → k < length strips → strip_at (strips ++ new ∷ []) k ≡ strip_at strips k
strip_at-push strips new k within = get_or_append_left strips (new ∷ []) (strip_at [] 0) k within

-- at one place of the row there is one strip, whatever the default
pub one_place : (row : List ℕ) (m n d : ℕ) → m ≡ n → n < length row → get_or row m d ≡ get_or row n 0
one_place row m n d same within = rw same (get_or_default row n d 0 within)

-- a strip of the new row's runs lies left of the column
pub next_left :
    {picture : Picture} {bottom top column passed open_from : ℕ} {strips : List Piece} {row next : List ℕ} (k : ℕ)
    → IsChanging picture bottom top column strips row next passed open_from → Contains next k
    → ((strip_at strips k).rect.left < (strip_at strips k).rect.right) × ((strip_at strips k).rect.right ≤ column)
next_left {picture} {bottom} {column} {strips} {next} k state listed = (
  (All-contains (λ k. IsRun world picture (strip_at strips k).rect.left (strip_at strips k).rect.right bottom (strip_at strips k).kind) next k
      (All-from_map (λ run. IsRun world picture run.left run.right bottom run.kind) (run_of strips) next state.runs.each) listed).wide,
  All-contains (λ k. (strip_at strips k).rect.right ≤ column) next k (All-from_map (λ run. run.right ≤ column) (run_of strips) next state.runs.before) listed,
)

-- the runs of a row lie in order
pub in_order :
    {picture : Picture} {bottom top column passed open_from : ℕ} {strips : List Piece} {row next : List ℕ} (m n d : ℕ)
    → IsChanging picture bottom top column strips row next passed open_from → m < n → n < length row
    → ((strip_at strips (get_or row m d)).rect.left < (strip_at strips (get_or row m d)).rect.right)
    × ((strip_at strips (get_or row m d)).rect.right ≤ (strip_at strips (get_or row n d)).rect.left)
in_order {picture} {bottom} {strips} {row} m n d state before within = elim (cases_lt world.bottom bottom) [
  | inl above ↦
      let list = state.runs_below above in (
        (All-from_map (λ run. IsRun world picture run.left run.right (bottom - 1) run.kind) (run_of strips) row list.each m d (omega arith)).wide,
        AllPairs-from_map (λ p q. p.right ≤ q.left) (run_of strips) row list.ordered m n d before within,
      )
  | inr low ↦ absurd (omega (arith, ap length (state.none_below low)))
]

-- a strip that no run of the new row names, and none of those that still reach on, has ended
pub between_ended :
    {picture : Picture} {bottom top column passed open_from : ℕ} {strips : List Piece} {row next : List ℕ} (k : ℕ)
    → IsChanging picture bottom top column strips row next passed open_from → k < length strips → column ≤ (strip_at strips k).rect.left
    → AllWithin (λ other. other ≢ k) row open_from (length row) → (strip_at strips k).rect.top ≤ bottom
between_ended k state within right apart = state.ended k within (λ listed. omega (arith, next_left k state listed)) apart

-- a strip is staged alike at the column and at a line right of it, where it begins at neither side of them or has ended
pub staged_alike :
    {picture : Picture} {bottom top column passed open_from : ℕ} {strips : List Piece} {row next : List ℕ} (line k : ℕ)
    → IsChanging picture bottom top column strips row next passed open_from → k < length strips → column ≤ line
    → ((strip_at strips k).rect.left < line → AllWithin (λ other. other ≢ k) row open_from (length row))
    → staged bottom top line (strip_at strips k) ≡ staged bottom top column (strip_at strips k)
staged_alike {bottom} {top} {column} {strips} line k state within on apart =
    let strip = strip_at strips k in
    elim (cases_eq strip.rect.top world.top) [
      | inr ends ↦ staged_ended bottom top line strip ends ∙ sym (staged_ended bottom top column strip ends)
      | inl reaches ↦ elim (cases_lt strip.rect.left column) [
        | inl left ↦ staged_left bottom top line strip reaches (omega arith) ∙ sym (staged_left bottom top column strip reaches left)
        | inr right ↦ elim (cases_lt strip.rect.left line) [
          | inl inside ↦ absurd (omega (arith, between_ended k state within right (apart inside), reaches, state.band.tall, state.to))
          | inr past ↦ staged_right bottom top line strip reaches past ∙ sym (staged_right bottom top column strip reaches right)
        ]
      ]
    ]

-- runs that begin right of the line don't name a strip that begins left of it
pub apart_left :
    (strips : List Piece) (row : List ℕ) (line from to k : ℕ) → AllWithin (λ k. line ≤ (strip_at strips k).rect.left) row from to → (strip_at strips k).rect.left < line
    → AllWithin (λ other. other ≢ k) row from to
apart_left strips row line from to k right left m d above below is = omega (arith, left, rw is at (right m d above below))
