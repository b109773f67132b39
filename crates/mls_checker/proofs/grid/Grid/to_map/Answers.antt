use Rattle.std.proofs.Common.{◌≡◌, ◌/◌, ◌%◌, ◌||◌, ◌&&◌, List, ℕ, false, ap, sym, subst, ◌∙◌}
use Rattle.std.specs.List.{All}
use Rattle.mls_geom.specs.Rects.{holds}
use Rattle.mls_checker.specs.Grids.{Band, Grid, marked_squares}
use Rattle.mls_checker.specs.Maps.{FitsIn, has_place, place_of}
use Rattle.mls_checker.specs.MarkMaps.{MarkMap, mapped}
use Rattle.mls_checker.proofs.GridMaps.{bands-fit, grid-mapped}
use Rattle.mls_checker.proofs.Stacks.{given-back, zero-row}
use Rattle.mls_checker.proofs.grid.Grid.to_map.Goals as goal

pub lay_bands-requires-clause-fits : goal.lay_bands-requires-clause-fits
lay_bands-requires-clause-fits c =
    let grid : Grid = record { rect = c.self.inside.rect; bands = c.self.inside.bands.items } in
    subst (λ (bands : List Band). All (λ band. FitsIn c.of-frame.result band.area) bands) (sym c.deref.ensures.value) (bands-fit c.of-frame.result grid c.of-frame.ensures.round c.of-frame.ensures.left c.self.invariant)

pub returns-clause-squares : goal.returns-clause-squares
returns-clause-squares c x y =
    let grid : Grid = record { rect = c.self.inside.rect; bands = c.self.inside.bands.items } in
    let frame = c.of-frame.result in
    let old = c.deref_mut.result.now in
    let none : has_place old (place_of frame x y) ≡ false =
    ap (λ (words : List ℕ). has_place words (place_of frame x y)) (c.deref_mut.ensures.value ∙ c.in_ok-words.ensures.items_if_clones_equal (λ y is. is)) ∙ zero-row c.size.result (place_of frame x y / 64) (place_of frame x y % 64) in
    let back = given-back c.in_ok-words.words.items old c.lay_bands.new.map c.in_ok-words.words.len c.deref_mut.ensures.value c.lay_bands.auto.map c.deref_mut.ensures.len in
    ap (λ (m : MarkMap). mapped m x y) c.new.ensures
    ∙ ap (λ (words : List ℕ). holds grid.rect x y && has_place words (place_of frame x y)) back
    ∙ grid-mapped frame grid old c.lay_bands.new.map x y c.of-frame.ensures.round c.self.invariant none
    (λ here. c.lay_bands.ensures x y here ∙ ap (λ (bands : List Band). has_place old (place_of frame x y) || marked_squares bands x y) c.deref.ensures.value)
    ∙ ap (λ (g : Grid). marked_squares g.bands x y) c.self.view_is
