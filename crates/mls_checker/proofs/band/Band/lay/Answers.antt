use Rattle.std.proofs.Common.{◌||◌, ◌≡◌, ◌-◌, ◌<◌, length, ap, sym, subst, ◌∙◌, arith}
use Rattle.mls_checker.specs.Grids.{Band, is_between, marked_in}
use Rattle.mls_checker.specs.Maps.{FitsIn, has_place, place_of}
use Rattle.mls_checker.proofs.LaidBands.{laid-band}
use Rattle.mls_checker.proofs.MapMarks.{band-word}
use Rattle.mls_checker.proofs.band.Band.lay.Goals as goal

pub lay_column-requires-clause-some : goal.lay_column-requires-clause-some
lay_column-requires-clause-some c =
    let fits = subst (λ (b : Band). FitsIn c.args.frame b.area) (sym c.self.view_is) c.requires.fits in
    omega (arith, fits.left, fits.right, c.self.invariant.wide, c.words.ensures)

pub lay_column-requires-clause-within : goal.lay_column-requires-clause-within
lay_column-requires-clause-within c row within =
    let fits = subst (λ (b : Band). FitsIn c.args.frame b.area) (sym c.self.view_is) c.requires.fits in
    let long = ap length c.deref.ensures.value in
    let few : row < length c.deref.result.now = within in
    rw (c.words.ensures, c.requires.size) (band-word c.args.frame _ c.first_word-first.result row fits c.self.invariant.wide c.first_word-first.ensures (omega (arith, c.self.invariant.marked, long, few)))

pub returns : goal.returns
returns c x y here =
    let fits = subst (λ (b : Band). FitsIn c.args.frame b.area) (sym c.self.view_is) c.requires.fits in
    let there = rw (c.deref.ensures.value, c.words.ensures) at c.lay_column.ensures.there in
    let others = rw (c.deref.ensures.value, c.words.ensures) at c.lay_column.ensures.others in
    let band : Band = record { area = c.self.inside.area; reached = c.self.inside.reached; marked = c.self.inside.marked.items } in
    let zero : band.area.left - band.area.left ≡ 0 = omega arith in
    laid-band c.args.frame band c.args.map.now c.lay_column.new.map c.first_word-first.result c.columns_of-columns.result x y c.self.invariant fits c.first_word-first.ensures
    (λ k. c.columns_of-columns.ensures k ∙ ap (λ n. is_between n (band.area.right - band.area.left) k) zero) there others here
    ∙ ap (λ (b : Band). has_place c.args.map.now (place_of c.args.frame x y) || marked_in b x y) c.self.view_is
