-- Which rules are violated in a rectangle depends only on what lies round it within the rules' halo.
use Rattle.std.proofs.Common.{◌≡◌, ℕ, ◌-◌, ◌≤◌, Bool, true, false, ◌||◌, ◌&&◌, inl, inr, List, [], ◌∷◌, Option, Some, None, slice_get, Contains, refl, sym, ◌∙◌, arith}
use Rattle.std.proofs.lemmas.Bool.{both_ways, cases_Bool, cond-false, cond-true, false_from_ne_true}
use Rattle.std.proofs.lemmas.Option.{get_or_from_slice_get, slice_get_within}
use Rattle.mls_errorplane.specs.Common.{AgreeIn, AgreeOutside, EdgeRule, IsRectangleIn, Layout, Rect, common, forbids, forbids_in, grown, halo_of, holds, is_violated_in, surroundings, violated_rules, within, world, zone_of}
use Rattle.mls_geom.proofs.Holds.{between_holds, holds_between}
use Rattle.mls_kinds.proofs.BitLemmas.{bits_where_same}
use Rattle.mls_checker.proofs.ListTests.{list_any_same_in_range}
use Rattle.mls_checker.proofs.Locality.{forbidden_same_in}
use Rattle.mls_checker.proofs.ReachLemmas.{halo-bounds}
use Rattle.mls_errorplane.proofs.PaintedPieces.{holds_inside}

-- ---- the zone
in_zone : (h near : ℕ) (piece : Rect) (x y : ℕ) → near ≤ h → holds (grown near piece) x y ≡ true → holds world x y ≡ true → holds (common (grown h piece) world) x y ≡ true
in_zone h near piece x y less here inside =
    let lines = holds_between (grown near piece) x y here in
    let lines' = holds_between world x y inside in
    between_holds (common (grown h piece) world) x y (omega (arith, less, lines.0, lines'.0)) (omega (arith, less, lines.1, lines'.1))
    (omega (arith, less, lines.2, lines'.2)) (omega (arith, less, lines.3, lines'.3))

-- a layout that is space outside the world, cut to the zone, is the same within fewer squares of the piece
AgreeIn-zone :
    (rules : List EdgeRule) (near : ℕ) (piece : Rect) (layout : Layout) → near ≤ halo_of rules → AgreeOutside world layout (λ plane x y. 0)
    → AgreeIn (grown near piece) (within (zone_of rules piece) layout) layout
AgreeIn-zone rules near piece layout less space plane x y here = elim (cases_Bool (holds (zone_of rules piece) x y)) [
  | inl inside ↦ cond-true (holds (zone_of rules piece) x y) (layout plane x y) 0 inside
  | inr outside ↦
      (let not_world = false_from_ne_true (holds world x y) (λ inside. both_ways (holds (zone_of rules piece) x y) outside (in_zone (halo_of rules) near piece x y less here inside)) in
      cond-false (holds (zone_of rules piece) x y) (layout plane x y) 0 outside ∙ sym (space plane x y not_world))
]

-- ---- one rule
-- what the only rule of a list forbids
only : (inside a b : Bool) → inside ≡ true → (inside && (a || false)) ≡ (inside && (b || false)) → a ≡ b
only true true true here same = refl
only true true false here same = same
only true false true here same = same
only true false false here same = refl
only false a b here same = absurd (cc)

halo_of-only : (rules : List EdgeRule) (rule : EdgeRule) → Contains rules rule → halo_of (rule ∷ []) ≤ halo_of rules
halo_of-only rules rule among = let bound = halo-bounds rules rule among in omega (arith, bound)

-- the zone is enough to know which squares of the piece the rule forbids
pub forbids-zone :
    (rules : List EdgeRule) (piece : Rect) (layout : Layout) (rule : EdgeRule) → Contains rules rule → IsRectangleIn world piece → AgreeOutside world layout (λ plane x y. 0)
    → (x y : ℕ) → holds piece x y ≡ true
    → forbids rule (within (zone_of rules piece) layout) (record { x = x; y = y }) ≡ forbids rule layout (record { x = x; y = y })
forbids-zone rules piece layout rule among legal space x y here =
    let zone = within (zone_of rules piece) layout in
    let agree : AgreeIn (surroundings (rule ∷ []) piece) zone layout = AgreeIn-zone rules (halo_of (rule ∷ [])) piece layout (halo_of-only rules rule among) space in
    only (holds world x y) (forbids rule zone (record { x = x; y = y })) (forbids rule layout (record { x = x; y = y })) (holds_inside world piece x y legal here)
    (forbidden_same_in (rule ∷ []) piece zone layout agree x y here)

forbids_in-zone :
    (rules : List EdgeRule) (piece : Rect) (layout : Layout) (rule : EdgeRule) → Contains rules rule → IsRectangleIn world piece
    → AgreeOutside world layout (λ plane x y. 0) → forbids_in piece (within (zone_of rules piece) layout) rule ≡ forbids_in piece layout rule
forbids_in-zone rules piece layout rule among legal space =
    list_any_same_in_range _ _ piece.bottom (piece.top - piece.bottom) (λ y above below.
    list_any_same_in_range _ _ piece.left (piece.right - piece.left) (λ x behind before.
    forbids-zone rules piece layout rule among legal space x y (between_holds piece x y behind (omega (arith, before, legal.wide)) above (omega (arith, below, legal.tall)))))

-- ---- rules by their index
is_violated_in-zone :
    (rules : List EdgeRule) (piece : Rect) (layout : Layout) (k : ℕ) (rule : Option EdgeRule) → slice_get rules k ≡ rule → IsRectangleIn world piece
    → AgreeOutside world layout (λ plane x y. 0) → is_violated_in piece (within (zone_of rules piece) layout) rule ≡ is_violated_in piece layout rule
is_violated_in-zone rules piece layout k None is legal space = refl
is_violated_in-zone rules piece layout k (Some rule) is legal space =
    forbids_in-zone rules piece layout rule (k, slice_get_within rules k rule is, get_or_from_slice_get rules k rule rule is) legal space

-- the zone of a piece is enough to know which rules are violated in it
pub violated_rules-zone :
    (rules : List EdgeRule) (piece : Rect) (layout : Layout) → IsRectangleIn world piece → AgreeOutside world layout (λ plane x y. 0)
    → violated_rules rules piece (within (zone_of rules piece) layout) ≡ violated_rules rules piece layout
unfolding violated_rules
violated_rules-zone rules piece layout legal space =
    bits_where_same 128 (λ k. is_violated_in piece (within (zone_of rules piece) layout) (slice_get rules k)) (λ k. is_violated_in piece layout (slice_get rules k))
    (λ k below. is_violated_in-zone rules piece layout k (slice_get rules k) refl legal space)
