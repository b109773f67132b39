use Rattle.std.proofs.Common.{◌≡◌, ◌+◌, max, ◌∙◌, List, ℕ, false, sym, subst, ap, arith}
use Rattle.mls_checker.specs.Copies.{copied_layout}
use Rattle.mls_checker.specs.Forbids.{forbids}
use Rattle.mls_checker.specs.Maps.{Frame, IsRound, has_place, place_of, square}
use Rattle.mls_checker.specs.Marking.{has_some}
use Rattle.mls_checker.proofs.FoundInRect.{none_in_rect}
use Rattle.mls_checker.proofs.MapMarks.{narrower, rule-found}
use Rattle.mls_checker.proofs.Stacks.{given-back}
use Rattle.mls_checker.proofs.map_marks.MapMarks.find_any.Goals as goal

pub returns-then-is_idle-clause-any : goal.returns-then-is_idle-clause-any
returns-then-is_idle-clause-any c =
    sym (none_in_rect c.args.rect (λ x y. forbids c.args.rule.now (copied_layout c.args.shown.now.snapshot.now) (square x y)) (λ x y here. c.is_idle.ensures c.if-is_idle.true (square x y)))

pub has_any-requires-clause-round : goal.has_any-requires-clause-round
has_any-requires-clause-round c =
    subst (λ (f : Frame). IsRound f c.args.rect 0) (sym c.add.ensures.frame) (narrower c.args.self.now.frame c.args.rect (1 + max c.args.rule.now.distance c.args.rule.now.corner_distance) 0 c.requires.round (omega arith))

pub returns-clause-any : goal.returns-clause-any
returns-clause-any c =
    let self = c.args.self.now in
    let frame = self.frame in
    let rect = c.args.rect in
    let back = given-back self.marked.items c.deref_mut.result.now c.empty.new.map self.marked.len c.deref_mut.ensures.value c.empty.auto.map c.deref_mut.ensures.len in
    let none : (n : ℕ) → has_place _ n ≡ false = λ n. ap (λ (map : List ℕ). has_place map n) back ∙ c.empty.ensures n in
    c.has_any.ensures
    ∙ ap (λ (map : List ℕ). has_some rect (λ x y. has_place map (place_of c.add.new.self.frame x y))) c.deref.ensures.value
    ∙ ap (λ (f : Frame). has_some rect (λ x y. has_place c.add.new.self.marked.items (place_of f x y))) c.add.ensures.frame
    ∙ rule-found c.args.rule.now (copied_layout c.args.shown.now.snapshot.now) frame rect _ c.add.new.self.marked.items c.requires.round none c.add.ensures.marked
