-- A change on several planes, painted plane by plane.
use Rattle.std.proofs.Common.{◌≡◌, ◌≢◌, Bool, true, false, ℕ, ℤ, pos, negsuc, ◌+◌, ◌-ℤ◌, ◌<◌, ◌≤◌, ◌==◌, ◌&&◌, if◌then◌else◌, List, length, get_or, inl, inr, refl, sym, ap, subst, ◌∙◌, arith}
use Rattle.std.proofs.Math.Path.{fun_ext}
use Rattle.std.proofs.lemmas.Bool.{cases_eq, cases_lt}
use Rattle.std.proofs.lemmas.List.{get_or_default}
use Rattle.mls_kinds.specs.KindSets.{has_bit as has_type}
use Rattle.mls_session.proofs.Common.{AreAtHome, Change, ChangesAmong, ChangesOnly, Design, HasStrips, Layout, ListsChange, Picture, Piece, Pool, ReadsAtMost, changed, changed_layout, dumped, empty_picture, holds, kind_or_space, layout_in, moved_picture, painted_over, picture_in, shown, tiles_of}
use Rattle.mls_paint.proofs.OwnerFrames.{ChangesAmong-ChangesOnly, ChangesAmong-refl, ChangesAmong-trans, layout_in-at}
use Rattle.mls_session.specs.declared.change.Change.TheVariants.{Erase, Dump}
use Rattle.mls_session.proofs.DumpedRects.{layout_in-beyond}
use Rattle.mls_session.proofs.HomePlanes.{AreAtHome-ChangesOnly, owners_differ}

-- ---- plane by plane
-- the first planes show what is wanted and the others have the tiles that they had, only they have changed, and all are at home
pub record IsMade (old new : Pool) (design : Design) (wanted : Layout) (count : ℕ) : Type 0 where
  pub done : (k d : ℕ) → k < count → k < length design.planes → picture_in new (get_or design.planes k d) ≡ wanted k
  pub rest : (k d : ℕ) → count ≤ k → k < length design.planes → tiles_of new (get_or design.planes k d) ≡ tiles_of old (get_or design.planes k d)
  pub only : ChangesAmong old new design.planes
  pub home : AreAtHome new design.quota design.planes

pub IsMade-none : (pool : Pool) (design : Design) (wanted : Layout) → AreAtHome pool design.quota design.planes → IsMade pool pool design wanted 0
IsMade-none pool design wanted home = record {
  done = λ k d before within. absurd (omega (arith, before));
  rest = λ k d after within. refl;
  only = ChangesAmong-refl pool design.planes;
  home = home;
}

module _ (old mid : Pool) (design : Design) (wanted : Layout) (i owner : ℕ) (made : IsMade old mid design wanted i) (within : i < length design.planes) (is : owner ≡ get_or design.planes i owner) where
  at : (d : ℕ) → get_or design.planes i d ≡ owner
  at d = get_or_default design.planes i d owner within ∙ sym is

  -- the next plane has the tiles that it had
  pub tiles_of-IsMade : tiles_of mid owner ≡ tiles_of old owner
  tiles_of-IsMade = ap (tiles_of mid) (sym (at 0)) ∙ made.rest i 0 (omega arith) within ∙ ap (tiles_of old) (at 0)

  -- so it shows what it did at first
  pub picture_in-IsMade : picture_in mid owner ≡ layout_in old design.planes i
  picture_in-IsMade =
      ap shown tiles_of-IsMade ∙ sym (layout_in-at old design.planes i owner within is)

  module _ (new : Pool) (changes : ChangesOnly mid new owner) (strips : HasStrips new owner) (shows : picture_in new owner ≡ wanted i) where
    differs : (k d : ℕ) → k ≢ i → k < length design.planes → get_or design.planes k d ≢ owner
    differs k d other below same = owners_differ design.planes k i d made.home.apart below within other (same ∙ sym (at d))

    kept : (k d : ℕ) → k ≢ i → k < length design.planes → tiles_of new (get_or design.planes k d) ≡ tiles_of mid (get_or design.planes k d)
    kept k d other below = changes.others (get_or design.planes k d) (differs k d other below)

    next_done : (k d : ℕ) → k < i + 1 → k < length design.planes → picture_in new (get_or design.planes k d) ≡ wanted k
    next_done k d before below = elim (cases_eq k i) [
      | inl same ↦
          let P : ℕ → Type 0 = λ j. picture_in new (get_or design.planes j d) ≡ wanted j in
          subst P (sym same) (ap (picture_in new) (at d) ∙ shows)
      | inr other ↦ ap shown (kept k d other below) ∙ made.done k d (omega (arith, before, other)) below
    ]

    pub IsMade-more : IsMade old new design wanted (i + 1)
    IsMade-more = record {
      done = next_done;
      rest = λ k d after below.
          let other : k ≢ i = omega (arith, after) in
          kept k d other below ∙ made.rest k d (omega (arith, after)) below;
      only =
          ChangesAmong-trans old mid new design.planes made.only
          (ChangesAmong-ChangesOnly mid new design.planes owner (i, within, sym is) changes);
      home = AreAtHome-ChangesOnly mid new design.quota design.planes owner changes strips made.home;
    }

-- each plane shows what is wanted once all are done
pub layout_in-IsMade :
    (old new : Pool) (design : Design) (wanted : Layout) (count plane : ℕ) → IsMade old new design wanted count → length design.planes ≤ count → plane < length design.planes
    → layout_in new design.planes plane ≡ wanted plane
layout_in-IsMade old new design wanted count plane made all within =
    let owner = get_or design.planes plane 0 in
    let is : owner ≡ get_or design.planes plane owner = get_or_default design.planes plane 0 owner within in
    layout_in-at new design.planes plane owner within is ∙ made.done plane 0 (omega (arith, within, all)) within

-- ---- all planes
-- past the last plane there is space, also after the change
kind_or_space-space : (x y : ℤ) → kind_or_space empty_picture x y ≡ 0
kind_or_space-space (pos x) (pos y) = refl
kind_or_space-space (pos x) (negsuc y) = refl
kind_or_space-space (negsuc x) y = refl

dumped-space : (below : Picture) (dx dy : ℤ) → dumped below empty_picture dx dy ≡ below
unfolding moved_picture
dumped-space below dx dy = fun_ext (λ x. fun_ext (λ y. ap (λ kind. if kind == 0 then below x y else kind) (kind_or_space-space (pos x -ℤ dx) (pos y -ℤ dy))))

space_either : (b : Bool) (kind : ℕ) → (if b then kind else kind) ≡ kind
space_either true kind = refl
space_either false kind = refl

-- past a cell's last plane a dump paints nothing
pub dumped-past : (pool : Pool) (owners : List ℕ) (plane : ℕ) (dx dy : ℤ) (below : Picture) → length owners ≤ plane → dumped below (layout_in pool owners plane) dx dy ≡ below
dumped-past pool owners plane dx dy below past = ap (λ over. dumped below over dx dy) (layout_in-beyond pool owners plane past) ∙ dumped-space below dx dy

changed-past : (pool : Pool) (change : Change) (count plane : ℕ) → ReadsAtMost count change → count ≤ plane → changed pool change plane empty_picture ≡ empty_picture
changed-past pool (Erase rect kinds) count plane few past = fun_ext (λ x. fun_ext (λ y. space_either (holds rect x y && has_type kinds 0) 0))
changed-past pool (Dump planes dx dy) count plane few past =
    dumped-past pool planes.now plane dx dy empty_picture (omega (arith, few, past))

-- the layout is changed once all planes show what the change lists for them
pub layout_in-changed :
    (old new : Pool) (design : Design) (change : Change) (pieces : ℕ → List Piece) → ReadsAtMost (length design.planes) change
    → ListsChange old change (length design.planes) (layout_in old design.planes) pieces
    → ((plane : ℕ) → plane < length design.planes → layout_in new design.planes plane ≡ painted_over pieces (layout_in old design.planes) plane)
    → layout_in new design.planes ≡ changed_layout old change (layout_in old design.planes)
layout_in-changed old new design change pieces few listed painted = fun_ext at_plane
  where
    at_plane : (plane : ℕ) → layout_in new design.planes plane ≡ changed_layout old change (layout_in old design.planes) plane
    at_plane plane = elim (cases_lt plane (length design.planes)) [
      | inl within ↦ painted plane within ∙ listed plane within
      | inr past ↦
          layout_in-beyond new design.planes plane past ∙ sym (changed-past old change (length design.planes) plane few past)
          ∙ ap (changed old change plane) (sym (layout_in-beyond old design.planes plane past))
    ]
