-- What a paint on one plane makes of the layout of a design.
use Rattle.std.proofs.Common.{◌≡◌, ◌≢◌, ℕ, ◌<◌, List, length, get_or, slice_get, nat_lt, true, false, Option, Some, None, AllPairs, inl, inr, refl, sym, ap, ◌∙◌, eq-eqb, ne_eqb, arith}
use Rattle.std.proofs.Math.Path.{fun_ext}
use Rattle.std.proofs.lemmas.Bool.{cases_eq, cond-true, cond-false}
use Rattle.std.proofs.lemmas.Bool.Decides.{nat_tests}
use Rattle.std.proofs.lemmas.Option.{get_or_from_slice_get, slice_get_within}
use Rattle.mls_session.proofs.Common.{AreAtHome, CellUse, ChangesOnly, Config, Design, Picture, Piece, Pool, Quota, Rect, drawn_of, layout_in, overlaid, picture_at, picture_in, repaint_step, shown, tile_count, with_plane, world}
use Rattle.mls_paint.proofs.OwnerFrames.{layout_in-at}
use Rattle.mls_session.specs.declared.reply.Reply.TheVariants.{Done, Refused}
use Rattle.mls_session.proofs.HomePlanes.{owners_differ}

-- a change of one owner's tiles leaves what the planes of all others show
picture_at-kept : (old new : Pool) (owner : ℕ) (at : Option ℕ) → ChangesOnly old new owner → ((other : ℕ) → at ≡ Some other → other ≢ owner) → picture_at new at ≡ picture_at old at
picture_at-kept old new owner None changed differs = refl
picture_at-kept old new owner (Some other) changed differs = ap shown (changed.others other (differs other refl))

-- a change of one owner's tiles changes the picture of its plane alone
pub layout_in-with_plane :
    (old new : Pool) (owners : List ℕ) (plane owner : ℕ) (picture : Picture) → AllPairs (λ a b. a ≢ b) owners → plane < length owners
    → owner ≡ get_or owners plane owner → ChangesOnly old new owner → picture_in new owner ≡ picture
    → layout_in new owners ≡ with_plane (layout_in old owners) plane picture
layout_in-with_plane old new owners plane owner picture apart within is changed shows = fun_ext at_plane
  where
    another : (p other : ℕ) → p ≢ plane → slice_get owners p ≡ Some other → other ≢ owner
    another p other differ found same =
        owners_differ owners p plane owner apart (slice_get_within owners p other found) within differ
        (get_or_from_slice_get owners p other owner found ∙ same ∙ is)

    at_plane : (p : ℕ) → layout_in new owners p ≡ with_plane (layout_in old owners) plane picture p
    at_plane p = elim (cases_eq p plane) [
      | inl same ↦
          ap (layout_in new owners) same ∙ layout_in-at new owners plane owner within is ∙ shows ∙ sym (cond-true _ _ _ (eq-eqb p plane same))
      | inr differ ↦
          picture_at-kept old new owner (slice_get owners p) changed (λ other found. another p other differ found)
          ∙ sym (cond-false _ _ _ (ne_eqb p plane differ))
    ]

-- a plane that shows the picture, with no more tiles than the quota, is what a repaint leads to
pub repaint_step-Done :
    (config : Config) (old new : Pool) (design : Design) (box : Option Rect) (planes : List ℕ) (uses : List CellUse) (plane owner : ℕ) (pieces : List Piece)
    → config.quota ≡ design.quota → AreAtHome old design.quota design.planes → plane < length design.planes → owner ≡ get_or design.planes plane owner → box ≡ design.box
    → planes ≡ design.planes → uses ≡ design.uses → ChangesOnly old new owner → picture_in new owner ≡ overlaid (picture_in old owner) pieces
    → ¬ (design.quota < tile_count world (overlaid (picture_in old owner) pieces))
    → repaint_step config (drawn_of old design) plane (overlaid (layout_in old design.planes plane) pieces)
    ≡ (record { box = box; paint = layout_in new planes; uses = uses }, Done)
repaint_step-Done config old new design box planes uses plane owner pieces same_quota home within is same_box same_planes same_uses changed shows few =
    let before = layout_in-at old design.planes plane owner within is in
    let layout = layout_in-with_plane old new design.planes plane owner (overlaid (picture_in old owner) pieces) home.apart within is changed shows in
    let fits : nat_lt config.quota (tile_count world (overlaid (picture_in old owner) pieces)) ≡ false = grind (arith, nat_tests, same_quota, few) in
    rw (before, fits, same_planes, same_box, same_uses, layout) refl

-- where the plane would have more, nothing changes
pub repaint_step-Refused :
    (config : Config) (pool : Pool) (design : Design) (plane owner : ℕ) (pieces : List Piece)
    → config.quota ≡ design.quota → plane < length design.planes → owner ≡ get_or design.planes plane owner
    → design.quota < tile_count world (overlaid (picture_in pool owner) pieces)
    → repaint_step config (drawn_of pool design) plane (overlaid (layout_in pool design.planes plane) pieces) ≡ (drawn_of pool design, Refused Quota)
repaint_step-Refused config pool design plane owner pieces same_quota within is many =
    let before = layout_in-at pool design.planes plane owner within is in
    let over : nat_lt config.quota (tile_count world (overlaid (picture_in pool owner) pieces)) ≡ true = grind (arith, nat_tests, same_quota, many) in
    rw (before, over) refl
