-- What a design lends to a call of its error plane, its planes and what its layout is checked by, and the design that comes back.
use Rattle.std.proofs.Common.{◌≡◌, ℕ, ◌≤◌, List, ap, ◌∙◌, subst, arith}
use Rattle.mls_session.proofs.Common.{ChangesOnly, CheckContext, Checking, EdgeRule, ErrorPlane, HasLayout, IsQuota, KeepsDrawn, Layout, Library, Pool, Setup, ShowsMarks, StandsApart, checking_of, config_of, flat_layout, layout_of, most_quota}
use Rattle.mls_session.specs.Designs.{CanDump, Design, IsHome, IsMadeFor, drawn_of, owners_of}
use Rattle.mls_session.specs.declared.design.Design.TheInside.{Inside}
use Rattle.mls_session.proofs.ErrorPlanes.{KeepsPlanes-errors, drawn-errors}
use Rattle.mls_session.proofs.FlatDesigns.{HasLayout-design, StandsApart-design, flat_layout-design}

-- the design as its fields have it
abbrev pub seen : Inside → Design
seen inside = record {
  box = inside.box_rect;
  planes = inside.planes.items;
  uses = inside.uses.items;
  quota = inside.quota;
  errors = inside.errors;
}

-- with the error plane that comes back
abbrev pub returned : Inside → ErrorPlane → Design
returned inside errors = record (seen inside) { errors = errors }

-- these planes, this context and this limit are what is lent
pub record IsLent (setup : Setup) (inside : Inside) (context : CheckContext) (owners : List ℕ) (most : ℕ) : Type 0 where
  pub rules : context.rules.now ≡ setup.rules
  pub library : context.uses.library.now ≡ setup.library
  pub list : context.uses.list.now ≡ inside.uses.items
  pub planes : owners ≡ inside.planes.items
  pub limit : most ≡ inside.quota

-- ---- what is lent
module _ (setup : Setup) (pool : Pool) (inside : Inside) (design : Design) (view : seen inside ≡ design) (home : IsHome pool design) (legal : IsQuota inside.quota) where
  few : design.quota ≤ most_quota
  few = let same = ap (λ (d : Design). d.quota) view in omega (arith, same, legal.bounded)

  -- its planes and the cells are a layout
  pub HasLayout-lent :
      (library : Library) → library ≡ setup.library → (owners : List ℕ) → owners ≡ inside.planes.items → CanDump setup pool (owners_of design) → IsMadeFor setup design
      → HasLayout pool owners library
  HasLayout-lent library same owners lent can made_for =
      HasLayout-design setup pool design can library same owners home few made_for (lent ∙ ap (λ (d : Design). d.planes) view)

  -- from which its error plane stands apart
  pub StandsApart-lent :
      (library : Library) → library ≡ setup.library → (owners : List ℕ) → owners ≡ inside.planes.items → CanDump setup pool (owners_of design)
      → StandsApart inside.errors.owner owners library
  StandsApart-lent library same owners lent can =
      StandsApart-design setup pool design can library same inside.errors.owner owners home.errors (ap (λ (d : Design). d.errors.owner) view) (lent ∙ ap (λ (d : Design). d.planes) view)

-- what is said of the rules, the layout, the planes, the limit and the error plane that are lent is said of the design's own
pub said_of-lent :
    (Says : List EdgeRule → Layout → List ℕ → ℕ → Checking → Type 0) (setup : Setup) (pool : Pool) (inside : Inside) (design : Design) → seen inside ≡ design
    → (context : CheckContext) (owners : List ℕ) (limit : ℕ) → IsLent setup inside context owners limit
    → Says context.rules.now (flat_layout pool context.uses owners) owners limit (checking_of pool inside.errors)
    → Says setup.rules (layout_of (config_of setup pool) (drawn_of pool design)) design.planes design.quota (checking_of pool design.errors)
said_of-lent Says setup pool inside design view context owners limit lent said =
    let own : Design = seen inside in
    let shown = flat_layout-design setup pool own context.uses lent.library lent.list owners lent.planes in
    subst (λ (d : Design). Says setup.rules (layout_of (config_of setup pool) (drawn_of pool d)) d.planes d.quota (checking_of pool d.errors)) view
    (subst (λ (q : ℕ). Says setup.rules (layout_of (config_of setup pool) (drawn_of pool own)) own.planes q (checking_of pool own.errors)) lent.limit
    (subst (λ (planes : List ℕ). Says setup.rules (layout_of (config_of setup pool) (drawn_of pool own)) planes limit (checking_of pool own.errors)) lent.planes
    (subst (λ (layout : Layout). Says setup.rules layout owners limit (checking_of pool own.errors)) shown
    (subst (λ (rules : List EdgeRule). Says rules (flat_layout pool context.uses owners) owners limit (checking_of pool own.errors)) lent.rules said))))

-- ---- what comes back
module _ (old new : Pool) (inside : Inside) (design : Design) (view : seen inside ≡ design) (errors : ErrorPlane) where
  -- where only tiles of the error plane have changed
  only-returned : ChangesOnly old new inside.errors.owner → ChangesOnly old new design.errors.owner
  only-returned only = subst (λ (e : ErrorPlane). ChangesOnly old new e.owner) (ap (λ (d : Design). d.errors) view) only

  pub KeepsDrawn-returned :
      IsHome old design → ChangesOnly old new inside.errors.owner → ShowsMarks new errors → errors.owner ≡ inside.errors.owner
      → KeepsDrawn old new design (returned inside errors)
  KeepsDrawn-returned home only shows owner =
      let after : Design = returned inside errors in
      let planes = ap (λ (d : Design). d.planes) view in
      let changed = only-returned only in
      record {
        drawn = drawn-errors old new design after home changed (ap (λ (d : Design). d.box) view) planes (ap (λ (d : Design). d.uses) view);
        planes = KeepsPlanes-errors old new design after home changed shows planes (ap (λ (d : Design). d.quota) view) (owner ∙ ap (λ (d : Design). d.errors.owner) view);
      }
