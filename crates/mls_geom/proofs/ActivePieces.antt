-- The pieces that a row meets show in it what all the pieces show.
use Rattle.mls_geom.proofs.Common.{◌≡◌, ◌≢◌, ℕ, zero, suc, ◌+◌, ◌-◌, ◌<◌, ◌≤◌, false, Some, cond, List, [], ◌∷◌, ◌++◌, length, drop, take, get_or, slice_index, slice_get, IsSomeAnd, refl, sym, ap, ◌∙◌, inl, inr, arith, add-zero, zero-add, add_assoc, add-one, one-add, All, cons_option, filter_map, IsStrictlyIncreasing, cases_eq, cases_lt, cases_order, false_from_ne_true, drop_all, drop_more, get_or_default, take_more, Contains-get_or, filter_map-append, AllPairs-from_increasing}
use Rattle.mls_geom.proofs.Definitions.{holds, Picture, overlaid, painted, AreActive, Piece}
use Rattle.mls_geom.proofs.Holds.{holds_between}
use Rattle.mls_geom.proofs.Overlays.{painted_outside}

-- where there is a piece, the index is one of the list
pub named_within : (P : Piece → Type 0) (pieces : List Piece) (i : ℕ) → IsSomeAnd (slice_get pieces i) P → i < length pieces
named_within P [] i named = elim named [ ]
named_within P (p ∷ pieces) zero named = omega arith
named_within P (p ∷ pieces) (suc i) named = omega (arith, named_within P pieces i named)

pub active_within : (pieces : List Piece) (y : ℕ) (active : List ℕ) → AreActive pieces y active → All (λ i. i < length pieces) active
active_within pieces y active meet = λ k d in_list.
    named_within (λ p. (p.rect.bottom ≤ y) × (y < p.rect.top)) pieces (get_or active k d) ((meet.members _).0 (Contains-get_or active k d in_list))

-- ascending numbers are at least their indices
at_least_index : (xs : List ℕ) → IsStrictlyIncreasing xs → (k : ℕ) → k < length xs → k ≤ slice_index xs k
at_least_index xs ascending zero within = omega arith
at_least_index xs ascending (suc k) within = omega (arith, at_least_index xs ascending k (omega arith), rw add-one at (ascending k (omega arith)))

-- no more pieces are active than there are
pub active_fit : (pieces : List Piece) (y : ℕ) (active : List ℕ) → AreActive pieces y active → length active ≤ length pieces
active_fit pieces y active meet =
    elim (cases_eq (length active) 0) [
      | inl none ↦ omega arith
      | inr some ↦ (let last = length active - 1 in
          omega (arith, at_least_index active meet.ascending last (omega arith), active_within pieces y active meet last 0 (omega arith)))
    ]

-- the pieces of these indices
abbrev pub pieces_at : List Piece → List ℕ → List Piece
pieces_at pieces indices = filter_map (slice_get pieces) indices

-- the first of those from one index of the indices on
pieces_at-more :
    (pieces : List Piece) (indices : List ℕ) (k : ℕ) (piece : Piece) → k < length indices → slice_get pieces (slice_index indices k) ≡ Some piece
    → pieces_at pieces (drop k indices) ≡ piece ∷ pieces_at pieces (drop (k + 1) indices)
pieces_at-more pieces indices k piece within is =
    ap (pieces_at pieces) (drop_more indices k 0 within) ∙ ap (λ o. cons_option o (pieces_at pieces (drop (k + 1) indices))) is

-- those of one index more
pub pieces_at-push :
    (pieces : List Piece) (indices : List ℕ) (k : ℕ) (piece : Piece) → k < length indices → slice_get pieces (slice_index indices k) ≡ Some piece
    → pieces_at pieces (take (k + 1) indices) ≡ pieces_at pieces (take k indices) ++ piece ∷ []
pieces_at-push pieces indices k piece within is =
    ap (pieces_at pieces) (take_more indices k 0 within) ∙ filter_map-append (slice_get pieces) (take k indices) _ ∙ ap (λ o. pieces_at pieces (take k indices) ++ cons_option o []) is

-- the first m of the indices are those below i
record Splits (indices : List ℕ) (m i : ℕ) : Type 0 where
  before : (q : ℕ) → q < m → slice_index indices q < i
  after : (q : ℕ) → m ≤ q → q < length indices → i ≤ slice_index indices q

-- i is none of the indices
abbrev IsAbsent : List ℕ → ℕ → Type 0
IsAbsent indices i = (q : ℕ) → q < length indices → slice_index indices q ≢ i

Splits-present :
    (indices : List ℕ) (m i : ℕ) → IsStrictlyIncreasing indices → Splits indices m i → m < length indices → slice_index indices m ≡ i
    → Splits indices (m + 1) (i + 1)
Splits-present indices m i ascending split within is = record {
  before = λ q earlier. grind (arith, split.before q);
  after = λ q later in_list. omega (arith, AllPairs-from_increasing indices ascending m q 0 (omega arith) in_list);
}

Splits-absent : (indices : List ℕ) (m i : ℕ) → Splits indices m i → IsAbsent indices i → Splits indices m (i + 1)
Splits-absent indices m i split absent = record {
  before = λ q earlier. omega (arith, split.before q earlier);
  after = λ q later in_list. omega (arith, split.after q later in_list, absent q in_list);
}

IsAbsent-from_next :
    (indices : List ℕ) (m i : ℕ) → IsStrictlyIncreasing indices → Splits indices m i → (m < length indices → slice_index indices m ≢ i) → IsAbsent indices i
IsAbsent-from_next indices m i ascending split not_next q in_list is =
    elim (cases_order q m) [
      | inl same ↦ not_next (omega arith) (rw (← same) is)
      | inr (inl before) ↦ absurd (omega (arith, split.before q before))
      | inr (inr after) ↦ absurd (omega (arith, split.after m (omega arith) (omega arith), AllPairs-from_increasing indices ascending m q 0 after in_list))
    ]

module _ (pieces : List Piece) (active : List ℕ) (x y : ℕ) (meet : AreActive pieces y active) where
  -- a piece that is not active has no square in the row
  outside : (i : ℕ) (piece : Piece) → slice_get pieces i ≡ Some piece → IsAbsent active i → holds piece.rect x y ≡ false
  outside i piece is absent = false_from_ne_true (holds piece.rect x y) (λ inside.
      let between = holds_between piece.rect x y inside in
      let (q, in_list, there) = (meet.members i).1 (rw is (between.2, between.3)) in
      absent q in_list (get_or_default active q 0 i in_list ∙ there))

  -- the rest are the pieces from index i on, and the active ones among them are those from index m on
  overlaid_rest :
      (rest : List Piece) (i m : ℕ) → ((k : ℕ) → slice_get pieces (i + k) ≡ slice_get rest k) → Splits active m i → (below other : Picture)
      → below x y ≡ other x y → overlaid below (pieces_at pieces (drop m active)) x y ≡ overlaid other rest x y
  overlaid_rest [] i m same split below other alike =
      let none = λ (within : m < length active).
      let index = slice_index active m in
      let there : i + (index - i) ≡ index = omega (arith, split.after m (omega arith) within) in
      rw (rw there at (same (index - i))) at ((meet.members index).0 (Contains-get_or active m 0 within)) in
      rw (drop_all m active (elim (cases_lt m (length active)) [ inl within ↦ absurd (none within) | inr all ↦ all ])) alike
  overlaid_rest (piece ∷ rest) i m same split below other alike =
      let is : slice_get pieces i ≡ Some piece = rw add-zero at (same 0) in
      let same_rest : (k : ℕ) → slice_get pieces (i + 1 + k) ≡ slice_get rest k = λ k. rw (add_assoc, one-add) (same (suc k)) in
      let skip = λ (not_next : m < length active → slice_index active m ≢ i).
      let absent = IsAbsent-from_next active m i meet.ascending split not_next in
      overlaid_rest rest (i + 1) m same_rest (Splits-absent active m i split absent) below (painted other piece)
      (alike ∙ sym (painted_outside other piece x y (outside i piece is absent))) in
      elim (cases_lt m (length active)) [
        | inl within ↦ elim (cases_eq (slice_index active m) i) [
          | inl next ↦ ap (λ list. overlaid below list x y) (pieces_at-more pieces active m piece within (rw next is))
              ∙ overlaid_rest rest (i + 1) (m + 1) same_rest (Splits-present active m i meet.ascending split within next) (painted below piece) (painted other piece)
              (ap (cond (holds piece.rect x y) piece.kind) alike)
          | inr not_next ↦ skip (λ _. not_next)
        ]
        | inr all ↦ skip (λ within. absurd (omega arith))
      ]

  pub overlaid_active : (below : Picture) → overlaid below (pieces_at pieces active) x y ≡ overlaid below pieces x y
  overlaid_active below =
      overlaid_rest pieces 0 0 (λ k. rw zero-add) (record { before = λ q none. absurd (omega arith); after = λ q later in_list. omega arith }) below below refl
