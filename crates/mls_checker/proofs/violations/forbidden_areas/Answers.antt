use Rattle.std.proofs.Common.{◌≡◌, ℕ, List, false, sym, ap, ◌∙◌, rules}
use Rattle.std.proofs.Math.Bool.{and-false}
use Rattle.mls_geom.specs.Rects.{Rect, holds}
use Rattle.mls_checker.specs.Copies.{copied_layout}
use Rattle.mls_checker.specs.Marking.{Marks, no_squares, squares_of}
use Rattle.mls_checker.proofs.FoundSquares.{forbidden-around}
use Rattle.mls_checker.proofs.violations.forbidden_areas.Goals as goal

pub returns-then-not-parts-clause-found : goal.returns-then-not-parts-clause-found
returns-then-not-parts-clause-found c x y =
    let rect = c.args.rect in
    let none = λ (u v : ℕ). ap (λ (list : List Rect). squares_of list u v) c.new-parts.ensures.none ∙ sym (and-false (holds rect u v)) in
    let found = c.scan_rule.ensures rect no_squares (c.new-parts.ensures.rect, λ short u v. none u v) in
    let all : c.scan_rule.new.sink.is_short ≡ false = search rules in
    let squares = rw c.around-area.ensures.value at found.1 in
    squares all x y ∙ forbidden-around c.args.rule.now (copied_layout c.args.snapshot.now) rect c.args.halo x y c.requires.reach c.requires.bounded (search rules)

pub returns-clause-found : goal.returns-clause-found
returns-clause-found c x y =
    let rect = c.args.rect in
    let layout = copied_layout c.args.snapshot.now in
    let found = c.scan_rule-2.ensures rect no_squares (c.in_ok-grid.ensures.rect, λ u v. c.in_ok-grid.ensures.none layout u v ∙ sym (and-false (holds rect u v))) in
    let squares = rw c.around-area.ensures.value at found.1 in
    ap (λ (m : Marks). squares_of m.areas x y) c.marks.view_is ∙ c.in_ok-marks.ensures.squares x y ∙ squares x y
    ∙ forbidden-around c.args.rule.now layout rect c.args.halo x y c.requires.reach c.requires.bounded (search rules)
