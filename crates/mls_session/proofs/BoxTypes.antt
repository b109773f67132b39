-- The types of the first planes: one plane more adds its types.
use Rattle.std.proofs.Common.{◌≡◌, ℕ, ◌+◌, Option, Some, sym, ap, ◌∙◌}
use Rattle.std.proofs.Math.Path.{fun_ext}
use Rattle.mls_session.proofs.Common.{Config, Drawn, Kinds, Layout, Rect, kinds_in, layout_of, set_of, shows, shows_type, types_in, union, what_step}
use Rattle.mls_kinds.proofs.KindSetLemmas.{set_of_none, union-set_of}
use Rattle.mls_library.proofs.FirstPlanes.{any_more}

pub types_none : (layout : Layout) (e : Rect) → types_in 0 layout e ≡ 0
unfolding types_in
types_none layout e = sym set_of_none

pub types_more : (layout : Layout) (e : Rect) (n : ℕ) → types_in (n + 1) layout e ≡ union (types_in n layout e) (kinds_in (layout n) e)
unfolding types_in kinds_in
types_more layout e n =
    ap set_of (fun_ext (λ kind. any_more (λ plane. shows (layout plane) e kind) n))
    ∙ sym (union-set_of (shows_type n layout e) (shows (layout n) e))

pub what_step-Kinds :
    (config : Config) (own : Drawn) (box : Option Rect) (e : Rect) (kinds : ℕ) → box ≡ Some e → kinds ≡ types_in config.tech.plane_count (layout_of config own) e
    → what_step config own box ≡ (own, Kinds kinds)
what_step-Kinds config own box e kinds is_set are_all = rw (is_set, are_all)
