-- A design's error plane lies in the pool beside the planes of its layout, and stays there as one of them changes.
use Rattle.std.proofs.Common.{◌≡◌, ◌≢◌, ℕ, ◌≤◌, List, [], ◌∷◌, get_or, Option, Some, All, Contains, sym, ap, ◌∙◌, subst, arith}
use Rattle.std.proofs.lemmas.List.{get_or_default}
use Rattle.std.proofs.lemmas.List.Elements.{Contains-append_left, Contains-push}
use Rattle.mls_session.proofs.Common.{AddsOwner, CellUse, ChangesAmong, ChangesOnly, ErrorPlane, FitsWorkspace, HasPlane, HasStrips, Pool, Rect, ShowsMarks, checking_of, is_marked, layout_in, marked_count, marks_picture, most_quota, picture_in, plane_reserve, room_of, shown, world}
use Rattle.mls_paint.proofs.OwnerFrames.{ChangesAmong-ChangesOnly, ChangesAmong-more, ChangesAmong-refl, HasStrips-AddsOwner, HasStrips-ChangesAmong, layout_in-kept, picture_in-ChangesAmong, room_of-ChangesAmong}
use Rattle.mls_session.specs.Designs.{AreAtHome, Design, HasErrorPlane, IsHome, KeepsPlanes, drawn_of, owners_of}
use Rattle.mls_session.proofs.HomePlanes.{AreAtHome-ChangesOnly, AreAtHome-same, differ_from_new}

-- an owner that differs from each of the others is none of them
pub is_none_of : (owners : List ℕ) (owner : ℕ) → All (λ other. other ≢ owner) owners → ¬ (Contains owners owner)
is_none_of owners owner apart found = apart found.0 owner found.1 found.2

-- ---- what calls of the error plane ask for
pub HasPlane-home : (pool : Pool) (quota : ℕ) (planes : List ℕ) → AreAtHome pool quota planes → All (HasPlane pool) planes
HasPlane-home pool quota planes home k d within = (home.strips k d within).plane

pub FitsWorkspace-home : (pool : Pool) (quota : ℕ) (planes : List ℕ) → AreAtHome pool quota planes → quota ≤ most_quota → All (FitsWorkspace pool) planes
FitsWorkspace-home pool quota planes home few k d within =
    let fits : plane_reserve quota ≤ 16448 = omega (arith, few) in
    rw (home.reserves k d within) fits

-- ---- what depends on the planes and the quota alone
IsHome-with :
    (pool : Pool) (before after : Design) → after.planes ≡ before.planes → after.quota ≡ before.quota → after.errors.owner ≡ before.errors.owner
    → AreAtHome pool before.quota before.planes → ShowsMarks pool after.errors → room_of pool before.errors.owner ≡ Some (plane_reserve before.quota)
    → All (λ plane. plane ≢ before.errors.owner) before.planes → IsHome pool after
IsHome-with pool before after planes quota owner layout shows reserve apart = record {
  layout = AreAtHome-same pool before after planes quota layout;
  errors = record {
    marks = shows;
    reserve = ap (room_of pool) owner ∙ reserve ∙ ap (λ q. Some (plane_reserve q)) (sym quota);
    apart = subst (λ o. All (λ plane. plane ≢ o) after.planes) (sym owner) (subst (λ owners. All (λ plane. plane ≢ before.errors.owner) owners) (sym planes) apart);
  };
}

-- as many squares are marked on the same plane
ShowsMarks-same : (pool : Pool) (before after : ErrorPlane) → after.owner ≡ before.owner → after.marked ≡ before.marked → ShowsMarks pool before → ShowsMarks pool after
ShowsMarks-same pool before after owner marked shows = record {
  strips = subst (HasStrips pool) (sym owner) shows.strips;
  marks = subst (λ (o : ℕ). picture_in pool o ≡ marks_picture (is_marked (picture_in pool o))) (sym owner) shows.marks;
  counted = marked ∙ shows.counted ∙ ap (λ (o : ℕ). marked_count world (picture_in pool o)) (sym owner);
}

pub IsHome-same :
    (pool : Pool) (before after : Design) → after.planes ≡ before.planes → after.quota ≡ before.quota → after.errors.owner ≡ before.errors.owner
    → after.errors.marked ≡ before.errors.marked → IsHome pool before → IsHome pool after
IsHome-same pool before after planes quota owner marked home =
    IsHome-with pool before after planes quota owner home.layout (ShowsMarks-same pool before.errors after.errors owner marked home.errors.marks) home.errors.reserve home.errors.apart

-- ---- as nothing changes
pub KeepsPlanes-same :
    (pool : Pool) (before after : Design) → IsHome pool before → after.planes ≡ before.planes → after.quota ≡ before.quota → after.errors.owner ≡ before.errors.owner
    → after.errors.marked ≡ before.errors.marked → KeepsPlanes pool pool before after
KeepsPlanes-same pool before after home planes quota owner marked = record {
  home = IsHome-same pool before after planes quota owner marked home;
  only = ChangesAmong-refl pool (owners_of before);
  planes = planes;
  errors = owner;
  quota = quota;
}

-- ---- as tiles of the layout's planes change
module _ (old new : Pool) (design : Design) (errors : HasErrorPlane old design) (only : ChangesAmong old new design.planes) where
  outside : ¬ (Contains design.planes design.errors.owner)
  outside = is_none_of design.planes design.errors.owner errors.apart

  -- the marks stay
  pub picture-kept : picture_in new design.errors.owner ≡ picture_in old design.errors.owner
  picture-kept = picture_in-ChangesAmong old new design.planes design.errors.owner only outside

  -- and lie there as before
  pub HasErrorPlane-kept : HasErrorPlane new design
  HasErrorPlane-kept = record {
    marks = record {
      strips = HasStrips-ChangesAmong old new design.planes design.errors.owner only outside errors.marks.strips;
      marks = picture-kept ∙ errors.marks.marks ∙ ap (λ p. marks_picture (is_marked p)) (sym picture-kept);
      counted = errors.marks.counted ∙ ap (marked_count world) (sym picture-kept);
    };
    reserve = room_of-ChangesAmong old new design.planes design.errors.owner only ∙ errors.reserve;
    apart = errors.apart;
  }

  -- what is known of the marks stays
  pub checking_of-kept : checking_of new design.errors ≡ checking_of old design.errors
  checking_of-kept = ap (λ p. record { marks = is_marked p; dirty = design.errors.dirty }) picture-kept

among_owners : (design : Design) → All (Contains (owners_of design)) design.planes
among_owners design k d within = Contains-append_left design.planes (design.errors.owner ∷ []) (get_or design.planes k d) (k, within, found)
  where
    found : get_or design.planes k (get_or design.planes k d) ≡ get_or design.planes k d
    found = sym (get_or_default design.planes k d (get_or design.planes k d) within)

-- so the design keeps its planes
pub KeepsPlanes-layout :
    (old new : Pool) (before after : Design) → IsHome old before → AreAtHome new before.quota before.planes → ChangesAmong old new before.planes
    → after.planes ≡ before.planes → after.quota ≡ before.quota → after.errors.owner ≡ before.errors.owner → after.errors.marked ≡ before.errors.marked
    → KeepsPlanes old new before after
KeepsPlanes-layout old new before after home layout only planes quota owner marked = record {
  home = IsHome-same new before after planes quota owner marked (record { layout = layout; errors = HasErrorPlane-kept old new before home.errors only });
  only = ChangesAmong-more old new before.planes (owners_of before) (among_owners before) only;
  planes = planes;
  errors = owner;
  quota = quota;
}

-- ---- as tiles of the error plane change
module _ (old new : Pool) (design : Design) (errors : HasErrorPlane old design) (changed : ChangesOnly old new design.errors.owner) where
  -- the layout stays
  pub layout-kept : layout_in new design.planes ≡ layout_in old design.planes
  layout-kept = layout_in-kept old new design.planes (λ k d within. ap shown (changed.others (get_or design.planes k d) (errors.apart k d within)))

  pub drawn-kept : drawn_of new design ≡ drawn_of old design
  drawn-kept = ap (λ paint. record { box = design.box; paint = paint; uses = design.uses }) layout-kept

pub drawn-errors :
    (old new : Pool) (before after : Design) → IsHome old before → ChangesOnly old new before.errors.owner → after.box ≡ before.box → after.planes ≡ before.planes
    → after.uses ≡ before.uses → drawn_of new after ≡ drawn_of old before
drawn-errors old new before after home changed box planes uses =
    ap (λ (b : Option Rect). record { box = b; paint = layout_in new after.planes; uses = after.uses }) box
    ∙ ap (λ (owners : List ℕ). record { box = before.box; paint = layout_in new owners; uses = after.uses }) planes
    ∙ ap (λ (placed : List CellUse). record { box = before.box; paint = layout_in new before.planes; uses = placed }) uses
    ∙ drawn-kept old new before home.errors changed

pub KeepsPlanes-errors :
    (old new : Pool) (before after : Design) → IsHome old before → ChangesOnly old new before.errors.owner → ShowsMarks new after.errors
    → after.planes ≡ before.planes → after.quota ≡ before.quota → after.errors.owner ≡ before.errors.owner → KeepsPlanes old new before after
KeepsPlanes-errors old new before after home changed shows planes quota owner = record {
  home = IsHome-with new before after planes quota owner
      (AreAtHome-ChangesOnly old new before.quota before.planes before.errors.owner changed (subst (HasStrips new) owner shows.strips) home.layout) shows
      (ap (λ rooms. room_of (record old { rooms = rooms }) before.errors.owner) changed.rooms ∙ home.errors.reserve) home.errors.apart;
  only = ChangesAmong-ChangesOnly old new (owners_of before) before.errors.owner (Contains-push before.planes before.errors.owner) changed;
  planes = planes;
  errors = owner;
  quota = quota;
}

-- ---- as an error plane is added
module _ (old new : Pool) (quota : ℕ) (planes : List ℕ) (owner : ℕ) (home : AreAtHome old quota planes) (added : AddsOwner old new owner (plane_reserve quota)) where
  pub differs : All (λ other. other ≢ owner) planes
  differs = differ_from_new old new quota planes owner (plane_reserve quota) home added

  -- the layout stays
  pub layout-added : layout_in new planes ≡ layout_in old planes
  layout-added = layout_in-kept old new planes (λ k d within. ap shown (added.others (get_or planes k d) (differs k d within)))

  pub IsHome-added : (design : Design) → design.planes ≡ planes → design.quota ≡ quota → design.errors.owner ≡ owner → ShowsMarks new design.errors → IsHome new design
  IsHome-added design same_planes same_quota same_owner shows =
      let added_to : Design = record { box = design.box; planes = planes; uses = design.uses; quota = quota; errors = record { owner = owner; marked = design.errors.marked; dirty = design.errors.dirty } } in
      IsHome-with new added_to design same_planes same_quota same_owner (record {
        strips = λ k d within. HasStrips-AddsOwner old new owner (get_or planes k d) (plane_reserve quota) added (home.strips k d within);
        reserves = λ k d within. added.rooms (get_or planes k d) (differs k d within) ∙ home.reserves k d within;
        apart = home.apart;
      }) shows added.room differs
