-- Whether a plane would have more tiles than the quota, on one plane and on all.
use Rattle.std.proofs.Common.{◌≡◌, Bool, true, false, not, ℕ, ◌<◌, nat_lt, if◌then◌else◌, [], inl, inr, refl, sym, ap, ◌∙◌, arith}
use Rattle.std.specs.List.{list_any, range_with_len}
use Rattle.std.proofs.lemmas.Bool.{cases_lt, false_from_ne_true}
use Rattle.std.proofs.lemmas.Bool.Decides.{nat_tests}
use Rattle.mls_session.proofs.Common.{Config, Drawn, FitsQuota, Layout, Picture, Quota, Reply, change_step, exceeds_quota, nothing_read, tile_count, world}
use Rattle.mls_session.specs.declared.reply.Reply.TheVariants.{Done, Refused}
use Rattle.mls_library.proofs.FirstPlanes.{any_at}

-- the plane of the layout would have more tiles
abbrev pub exceeds : ℕ → Layout → ℕ → Bool
exceeds quota layout plane = nat_lt quota (tile_count world (layout plane))

-- on all planes it depends on their number and on the quota
pub exceeds_quota-is :
    (config : Config) (layout : Layout) (planes quota : ℕ) → config.tech.plane_count ≡ planes → config.quota ≡ quota
    → exceeds_quota config layout ≡ list_any (exceeds quota layout) (range_with_len 0 planes)
exceeds_quota-is config layout planes quota count same = rw (count, same) refl

-- ---- on one plane
module _ (layout : Layout) (quota i limit : ℕ) (over : Picture) (same : limit ≡ quota) (made : over ≡ layout i) where
  pub exceeds-fits : (limit < tile_count world over → ⊥) → exceeds quota layout i ≡ false
  exceeds-fits few =
      let test : nat_lt quota (tile_count world over) ≡ false = false_from_ne_true _ (λ more. few (grind (arith, nat_tests, more, same))) in
      ap (λ picture. nat_lt quota (tile_count world picture)) (sym made) ∙ test

  pub exceeds-more : limit < tile_count world over → exceeds quota layout i ≡ true
  exceeds-more more =
      let test : nat_lt quota (tile_count world over) ≡ true = grind (arith, nat_tests, more, same) in
      ap (λ picture. nat_lt quota (tile_count world picture)) (sym made) ∙ test

-- ---- on all planes
-- one plane that has more is enough
pub exceeds_quota-more :
    (config : Config) (layout : Layout) (planes quota i : ℕ) → config.tech.plane_count ≡ planes → config.quota ≡ quota → i < planes → exceeds quota layout i ≡ true
    → false ≡ not (exceeds_quota config layout)
exceeds_quota-more config layout planes quota i count same within more =
    ap not (sym (exceeds_quota-is config layout planes quota count same ∙ any_at (exceeds quota layout) planes i within more))

pub exceeds_quota-none :
    (config : Config) (layout : Layout) (planes quota i : ℕ) → config.tech.plane_count ≡ planes → config.quota ≡ quota → i ≡ planes
    → list_any (exceeds quota layout) (range_with_len 0 i) ≡ false → true ≡ not (exceeds_quota config layout)
exceeds_quota-none config layout planes quota i count same all none =
    ap not (sym (exceeds_quota-is config layout planes quota count same ∙ ap (λ n. list_any (exceeds quota layout) (range_with_len 0 n)) (sym all) ∙ none))

-- where a test finds no such plane, all fit
pub FitsQuota-tested :
    (fits : Bool) (layout : Layout) (planes quota : ℕ) → ((config : Config) → config.tech.plane_count ≡ planes → config.quota ≡ quota → fits ≡ not (exceeds_quota config layout))
    → fits ≡ true → FitsQuota planes quota layout
FitsQuota-tested fits layout planes quota tested passed plane within =
    let config : Config = record { tech = record nothing_read { plane_count = planes }; rules = []; cells = []; quota = quota; cell_tiles = quota } in
    elim (cases_lt quota (tile_count world (layout plane))) [
      | inl more ↦
          let test : exceeds quota layout plane ≡ true = grind (arith, nat_tests, more) in
          absurd (cc (sym passed ∙ tested config refl refl ∙ sym (exceeds_quota-more config layout planes quota plane refl refl within test)))
      | inr few ↦ few
    ]

-- ---- the step
pub change_step-Refused : (config : Config) (own : Drawn) (layout : Layout) (fits : Bool) → fits ≡ not (exceeds_quota config layout) → fits ≡ false → change_step config own layout ≡ (own, Refused Quota)
change_step-Refused config own layout fits tested failed =
    by (exceeds_quota config layout) (sym failed ∙ tested)
  where
    by : (more : Bool) → false ≡ not more → ◌≡◌ {A = Drawn × Reply} (if more then (own, Refused Quota) else (record own { paint = layout }, Done)) (own, Refused Quota)
    by true h = refl
    by false h = absurd (cc h)

pub change_step-Done :
    (config : Config) (own new : Drawn) (layout : Layout) (fits : Bool) → fits ≡ not (exceeds_quota config layout) → fits ≡ true → new ≡ record own { paint = layout }
    → change_step config own layout ≡ (new, Done)
change_step-Done config own new layout fits tested passed is =
    by (exceeds_quota config layout) (sym passed ∙ tested) ∙ ap (λ state. (state, Done)) (sym is)
  where
    by : (more : Bool) → true ≡ not more → ◌≡◌ {A = Drawn × Reply} (if more then (own, Refused Quota) else (record own { paint = layout }, Done)) (record own { paint = layout }, Done)
    by true h = absurd (cc h)
    by false h = refl
