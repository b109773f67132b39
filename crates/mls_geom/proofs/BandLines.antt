-- The lines of pieces, from the bottom up.
use Rattle.mls_geom.proofs.Common.{◌≡◌, ℕ, ◌+◌, ◌-◌, ◌<◌, ◌≤◌, ◌↔◌, List, [], ◌∷◌, ◌++◌, length, get_or, take, subst, ◌∙◌, arith, inl, inr, Contains, IsNonDecreasing, IsStrictlyIncreasing, cases_lt, get_or_default, All-contains, All-contains_itself, All-more, All-push, All-weaker, Contains-append_left, Contains-push, non_decreasing_from_sorted, sorted_from_strictly_increasing}
use Rattle.mls_geom.proofs.Definitions.{AreBandLines, HaveEnds, HaveEndsOf, IsLineOf, Rect, IsRectangleIn, Piece}
use Rattle.mls_geom.proofs.BandRows.{IsBand}

-- one line more
HaveEnds-push :
    (extent : Rect) (pieces : List Piece) (lines : List ℕ) (line : ℕ) → IsLineOf extent line → HaveEnds extent pieces lines
    → HaveEnds extent pieces (lines ++ line ∷ [])
HaveEnds-push extent pieces lines line is have =
    let still = λ (other : ℕ) (held : Contains lines other). Contains-append_left lines (line ∷ []) other held in
    record {
      within = All-push (IsLineOf extent) lines line have.within is;
      bottom = still extent.bottom have.bottom;
      top = still extent.top have.top;
      ends = λ k d in_pieces. (still _ (have.ends k d in_pieces).0, still _ (have.ends k d in_pieces).1);
    }

-- the ends of one piece more
pub HaveEnds-more :
    (extent : Rect) (pieces : List Piece) (i bottom top : ℕ) (lines : List ℕ) (piece : Piece) → i < length pieces → piece ≡ get_or pieces i piece
    → IsRectangleIn extent piece.rect → bottom ≡ piece.rect.bottom → top ≡ piece.rect.top → HaveEnds extent (take i pieces) lines
    → HaveEnds extent (take (i + 1) pieces) ((lines ++ bottom ∷ []) ++ top ∷ [])
HaveEnds-more extent pieces i bottom top lines piece within at legal bottom_is top_is have =
    let lower = lines ++ bottom ∷ [] in
    let all = lower ++ top ∷ [] in
    let bottom_in : IsLineOf extent bottom = (omega (arith, legal.bottom_in), omega (arith, legal.tall)) in
    let top_in : IsLineOf extent top = (omega (arith, legal.bottom_in, legal.tall), omega (arith, legal.top_in)) in
    let both = HaveEnds-push extent (take i pieces) lower top top_in (HaveEnds-push extent (take i pieces) lines bottom bottom_in have) in
    let has_bottom : Contains all piece.rect.bottom = rw (← bottom_is) (Contains-append_left lower (top ∷ []) bottom (Contains-push lines bottom)) in
    let has_top : Contains all piece.rect.top = rw (← top_is) (Contains-push lower top) in
    record {
      within = both.within;
      bottom = both.bottom;
      top = both.top;
      ends = All-more (HaveEndsOf all) pieces i piece within both.ends (subst (HaveEndsOf all) at (has_bottom, has_top));
    }

-- the ends of one piece more that are there already
pub HaveEnds-again :
    (extent : Rect) (pieces : List Piece) (i : ℕ) (lines : List ℕ) (piece : Piece) → i < length pieces → piece ≡ get_or pieces i piece
    → Contains lines piece.rect.bottom → Contains lines piece.rect.top → HaveEnds extent (take i pieces) lines → HaveEnds extent (take (i + 1) pieces) lines
HaveEnds-again extent pieces i lines piece within at bottom_in top_in have = record {
  within = have.within;
  bottom = have.bottom;
  top = have.top;
  ends = All-more (HaveEndsOf lines) pieces i piece within have.ends (subst (HaveEndsOf lines) at (bottom_in, top_in));
}

-- sorting keeps the ends
pub AreBandLines-ascended :
    (extent : Rect) (pieces : List Piece) (listed lines : List ℕ) → HaveEnds extent pieces listed → IsStrictlyIncreasing lines
    → ((line : ℕ) → Contains lines line ↔ Contains listed line) → AreBandLines extent pieces lines
AreBandLines-ascended extent pieces listed lines have ascending same =
    let within = λ (line : ℕ) (held : Contains lines line). All-contains (IsLineOf extent) listed line have.within ((same line).0 held) in
    record {
      ascending = ascending;
      members = record {
        within = All-weaker (Contains lines) (IsLineOf extent) within lines (All-contains_itself lines);
        bottom = (same extent.bottom).1 have.bottom;
        top = (same extent.top).1 have.top;
        ends = λ k d in_pieces. ((same _).1 (have.ends k d in_pieces).0, (same _).1 (have.ends k d in_pieces).1);
      };
    }

module _ (extent : Rect) (pieces : List Piece) (lines : List ℕ) (are : AreBandLines extent pieces lines) where
  -- a line is not below an earlier one
  rises : IsNonDecreasing lines
  rises = non_decreasing_from_sorted lines (sorted_from_strictly_increasing lines are.ascending)

  -- between neighbouring lines lies none of the lines
  next_line : (k line : ℕ) → k + 1 < length lines → Contains lines line → get_or lines k 0 < line → get_or lines (k + 1) 0 ≤ line
  next_line k line within (j, j_within, is) above =
      let at : get_or lines j 0 ≡ line = get_or_default lines j 0 line j_within ∙ is in
      elim (cases_lt k j) [
        | inl later ↦ omega (arith, at, rises (k + 1) j 0 (omega arith) j_within)
        | inr earlier ↦ absurd (omega (arith, at, rises j k 0 earlier (omega arith)))
      ]

  -- so what lies between them is a band
  pub IsBand-lines : (i bottom top : ℕ) → 0 < i → i < length lines → bottom ≡ get_or lines (i - 1) 0 → top ≡ get_or lines i 0 → IsBand pieces bottom top
  IsBand-lines i bottom top from within bottom_is top_is =
      let next : i - 1 + 1 ≡ i = omega arith in
      let above = rw next at (are.ascending (i - 1) (omega arith)) in
      record {
        tall = omega arith;
        outside = λ k d in_pieces.
            let ends = are.members.ends k d in_pieces in
            rw (bottom_is, top_is) record {
              begin = rw next at (next_line (i - 1) _ (omega arith) ends.0);
              end = rw next at (next_line (i - 1) _ (omega arith) ends.1);
            };
      }

  -- each line is one of the extent, the first its bottom line and the last its top line
  pub IsLineOf-lines : (i : ℕ) → i < length lines → IsLineOf extent (get_or lines i 0)
  IsLineOf-lines i within = are.members.within i 0 within

  pub first_line : get_or lines 0 0 ≡ extent.bottom
  first_line =
      let bottom = are.members.bottom in
      let at = get_or_default lines bottom.0 0 extent.bottom bottom.1 ∙ bottom.2 in
      omega (arith, (IsLineOf-lines 0 (omega arith)).0, at, rises 0 bottom.0 0 (omega arith) bottom.1)

  pub last_line : get_or lines (length lines - 1) 0 ≡ extent.top
  last_line =
      let top = are.members.top in
      let at = get_or_default lines top.0 0 extent.top top.1 ∙ top.2 in
      omega (arith, (IsLineOf-lines (length lines - 1) (omega arith)).1, at, rises top.0 (length lines - 1) 0 (omega arith) (omega arith))
