use Rattle.std.proofs.Common.{◌≡◌, ◌<◌, ◌≤◌, ◌&&◌, ℕ, take, length, sym, ap, ◌∙◌, arith, rules}
use Rattle.std.proofs.Math.Bool.{and-false as never}
use Rattle.mls_edgerule.specs.Halos.{halo_of}
use Rattle.mls_geom.specs.Rects.{Rect, grown, holds}
use Rattle.mls_checker.specs.Copies.{copied_layout}
use Rattle.mls_checker.specs.Marking.{MarksOf, SquareSet, marks}
use Rattle.mls_checker.proofs.FoundSquares.{marks-exact, forbidden_by_some, forbidden_by_some-more}
use Rattle.mls_checker.proofs.finding.find_by_sides.Goals as goal

pub loop-rule-init : goal.loop-rule-init
loop-rule-init c = record {
  legal = search rules;
  of_piece = c.in_ok-sink.ensures.rect;
  marked = λ x y. c.in_ok-sink.ensures.none (copied_layout c.args.snapshot.now) x y ∙ sym (never (holds c.args.piece x y));
}

pub loop-rule-preserved : goal.loop-rule-preserved
loop-rule-preserved c =
    let rules = c.as_slice-rule-items.result.now in
    let layout = copied_layout c.args.snapshot.now in
    let area = c.around-area.result in
    let place = c.loop-rule.rule-index in
    let more = c.scan_rule.ensures c.args.piece (forbidden_by_some (take place rules) layout area) (c.loop-rule.invariant.of_piece, c.loop-rule.invariant.marked) in
    let below : place < length rules = omega arith in
    record {
      legal = c.loop-rule.invariant.legal;
      of_piece = more.0;
      marked = λ x y. more.1 x y ∙ ap (λ (set : SquareSet). holds c.args.piece x y && set x y) (forbidden_by_some-more rules layout area place c.rule-item.result below (sym c.rule-item.is));
    }

pub returns : goal.returns
returns c =
    let rules = c.args.rules.now in
    let layout = copied_layout c.args.snapshot.now in
    let found = c.in_ok-marks.marks in
    let same = ap length c.as_slice-rule-items.ensures.value in
    let far : halo_of rules ≤ c.halo.result = omega (arith, c.halo.ensures.value) in
    let all : length rules ≤ c.loop-rule.rule-index = omega (arith, same) in
    let set = forbidden_by_some (take c.loop-rule.rule-index rules) layout (grown c.halo.result c.args.piece) in
    let of_piece : found.rect ≡ c.args.piece = c.in_ok-marks.ensures.rect ∙ c.loop-rule.invariant.of_piece in
    let was : (x y : ℕ) → marks found x y
    ≡ (holds c.args.piece x y && forbidden_by_some (take c.loop-rule.rule-index c.as_slice-rule-items.result.now) layout c.around-area.result x y) =
    λ x y. c.in_ok-marks.ensures.squares x y ∙ c.loop-rule.invariant.marked x y in
    let so_far : (x y : ℕ) → marks found x y ≡ (holds c.args.piece x y && set x y) = rw (c.as_slice-rule-items.ensures.value, c.around-area.ensures.value) at was in
    let marked : MarksOf found set = λ x y. so_far x y ∙ ap (λ (e : Rect). holds e x y && set x y) (sym of_piece) in
    marks-exact c.args.piece c.args.snapshot.now rules found c.halo.result c.loop-rule.rule-index
    c.requires.zone far c.halo.ensures.bounded c.loop-rule.invariant.legal all of_piece marked
