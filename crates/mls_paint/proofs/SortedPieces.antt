-- Pieces in the order of strips, and the search for one of them.
use Rattle.std.proofs.Common.{◌≡◌, ◌≢◌, ℕ, ◌<◌, ◌≤◌, true, false, not, List, filter, length, get_or, AllPairs, Contains, IsTrue, IsPermutation, Bool, Ordering, inl, inr, sym, ap, ◌∙◌, subst, arith}
use Rattle.std.specs.Cmp.{IsTotalOrder}
use Rattle.std.specs.List.{AllWithin}
use Rattle.std.specs.List.Sorted.{IsPartitionedBy, IsSortedByKey}
use Rattle.std.specs.Ordering.{is_lt, nat_cmp, on, then_cmp}
use Rattle.std.proofs.Math.Path.{fun_ext}
use Rattle.std.proofs.lemmas.Bool.{cases_lt, false≢true}
use Rattle.std.proofs.lemmas.Bool.Decides.{nat_tests}
use Rattle.std.proofs.lemmas.Cmp.{nat_cmp_total, on_total, then_total}
use Rattle.std.proofs.lemmas.List.Elements.{Contains-get_or}
use Rattle.std.proofs.lemmas.List.Sorted.{Contains-permutation, IsPermutation-sym, list_any-IsPermutation, ranks_by, sorted_far}
use Rattle.mls_geom.specs.Strips.{comes_before}
use Rattle.mls_geom.specs.declared.piece.Piece.{Piece}
use Rattle.mls_stitch.proofs.FreshTiles.{AllPairs-either}
use Rattle.mls_paint.specs.Changes.{AreInOrder, CornersDiffer, is_same, put_of, sort_key_of}
use Rattle.mls_paint.specs.declared.changes.SortKey.{SortKey}
use Rattle.mls_paint.proofs.ChangedTiles.{not_level}

-- the order of sort keys
abbrev pub sort_key_cmp : SortKey → SortKey → Ordering
sort_key_cmp = then_cmp (on (λ (key : SortKey). key.bottom) nat_cmp) (on (λ (key : SortKey). key.left) nat_cmp)

sort_key_cmp_total : IsTotalOrder sort_key_cmp
sort_key_cmp_total = then_total (on_total (λ (key : SortKey). key.bottom) nat_cmp_total) (on_total (λ (key : SortKey). key.left) nat_cmp_total)

not_before : (p q : Piece) → is_lt (sort_key_cmp (sort_key_of q) (sort_key_of p)) ≡ false → comes_before q p ≡ false
not_before p q not_less = grind (arith, nat_tests)

-- a sort by them puts pieces in that order
pub ordered_from_sort : (pieces : List Piece) → IsSortedByKey sort_key_of sort_key_cmp pieces → AllPairs (λ p q. comes_before q p ≡ false) pieces
ordered_from_sort pieces sorted = λ i j d before within.
    not_before (get_or pieces i d) (get_or pieces j d) (sorted_far _ (ranks_by sort_key_cmp_total sort_key_of) pieces sorted i j d (omega arith) within)

-- strips are in order
one_way : (p q : Piece) → comes_before p q ≡ true → comes_before q p ≡ false
one_way p q before = grind (arith, nat_tests)

pub AreInOrder-strips : (strips : List Piece) → AllPairs (λ p q. IsTrue (comes_before p q)) strips → AreInOrder strips
AreInOrder-strips strips up = record {
  ordered = λ i j d before within. one_way (get_or strips i d) (get_or strips j d) (up i j d before within);
  alike = λ p q in_p in_q left bottom.
      elim (AllPairs-either (λ p q. IsTrue (comes_before p q)) strips p q up in_p in_q) [
        | inl same ↦ same
        | inr either ↦
            elim either [
              | inl before ↦ absurd (not_level p q left bottom before)
              | inr after ↦ absurd (not_level q p (sym left) (sym bottom) after)
            ]
      ];
}

-- and so are other pieces, once they are sorted
pub AreInOrder-sorted :
    (pieces sorted : List Piece) → CornersDiffer pieces → IsPermutation pieces sorted → AllPairs (λ p q. comes_before q p ≡ false) sorted → AreInOrder sorted
AreInOrder-sorted pieces sorted differ moved up =
    let back = λ (p : Piece) (there : Contains sorted p). Contains-permutation sorted pieces p (IsPermutation-sym pieces sorted moved) there in
    record {
      ordered = up;
      alike = λ p q in_p in_q left bottom.
          elim (AllPairs-either (λ p q. sort_key_of p ≢ sort_key_of q) pieces p q differ (back p in_p) (back q in_q)) [
            | inl same ↦ same
            | inr either ↦
                let one : sort_key_of p ≡ sort_key_of q = λ i. record { bottom = bottom i; left = left i } in
                elim either [
                  | inl other ↦ absurd (other one)
                  | inr other ↦ absurd (other (sym one))
                ]
          ];
    }

-- a sort changes nothing in what is put
pub put_of-sorted : (strips pieces sorted : List Piece) → IsPermutation pieces sorted → put_of strips sorted ≡ put_of strips pieces
put_of-sorted strips pieces sorted moved =
    ap (λ (test : Piece → Bool). filter (λ s. not (test s)) strips) (fun_ext (λ s. sym (list_any-IsPermutation (is_same s) pieces sorted moved)))

-- what comes before what comes before the piece does too
before_chain : (p q r : Piece) → comes_before q p ≡ false → comes_before q r ≡ true → comes_before p r ≡ true
before_chain p q r not_after before = grind (arith, nat_tests)

-- the order parts pieces at each piece
pub IsPartitionedBy-ordered :
    (pieces : List Piece) (piece : Piece) → AreInOrder pieces → IsPartitionedBy (λ other. comes_before other piece) pieces
IsPartitionedBy-ordered pieces piece order = λ i j d below within passed.
    elim (cases_lt i j) [
      | inl before ↦ before_chain (get_or pieces i d) (get_or pieces j d) piece (order.ordered i j d before within) passed
      | inr after ↦
          let same : i ≡ j = omega arith in
          rw same passed
    ]

-- neither before nor after is at one corner
level : (p q : Piece) → comes_before p q ≡ false → comes_before q p ≡ false → (p.rect.left ≡ q.rect.left) × (p.rect.bottom ≡ q.rect.bottom)
level p q not_before not_after = (grind (arith, nat_tests), grind (arith, nat_tests))

not_itself : (p : Piece) → comes_before p p ≡ false
not_itself p = grind (arith, nat_tests)

-- so a listed piece is the first that doesn't come before it
pub first_is :
    (pieces : List Piece) (piece : Piece) (before : ℕ) → AreInOrder pieces → AllWithin (λ other. comes_before other piece ≡ true) pieces 0 before
    → AllWithin (λ other. comes_before other piece ≡ false) pieces before (length pieces) → Contains pieces piece
    → (before < length pieces) × (get_or pieces before piece ≡ piece)
first_is pieces piece before order front back (k, within, is) =
    let reached : before ≤ k = elim (cases_lt k before) [
      | inl early ↦ absurd (false≢true (sym (not_itself piece) ∙ subst (λ p. comes_before p piece ≡ true) is (front k piece (omega arith) early)))
      | inr late ↦ late
    ] in
    let inside : before < length pieces = omega (arith, reached, within) in
    let first = get_or pieces before piece in
    let not_earlier = back before piece (omega arith) inside in
    elim (cases_lt before k) [
      | inl earlier ↦
          let not_later : comes_before piece first ≡ false = subst (λ p. comes_before p first ≡ false) is (order.ordered before k piece earlier within) in
          let corner = level first piece not_earlier not_later in
          (inside, order.alike first piece (Contains-get_or pieces before piece inside) (k, within, is) corner.0 corner.1)
      | inr there ↦
          let same : before ≡ k = omega arith in
          (inside, ap (λ n. get_or pieces n piece) same ∙ is)
    ]
