use Rattle.std.proofs.Common.{◌≡◌, ◌||◌, ◌&&◌, ◌∙◌, false, not, ap, sym, arith}
use Rattle.std.proofs.Math.Bool.{and-false}
use Rattle.mls_checker.specs.Maps.{comes_first, corner_begins, has_place}
use Rattle.mls_checker.proofs.reach_maps.Edges.add_flank.Goals as goal
use Rattle.mls_checker.proofs.reach_maps.Edges.add_flank.Goals.{else-self-via-then-self+else-comes_first, else-self-via-else-self}

pub returns : goal.returns
returns c n within =
    let types = c.args.self.now.types.now in
    let first = comes_first c.args.flank c.args.direction in
    let kept : (c.args.self.now.same && first) ≡ false = elim c.else-self.branch [
      | else-self-via-then-self+else-comes_first w ↦ ap (λ b. c.args.self.now.same && b) (sym w.comes_first.ensures ∙ w.if-comes_first.false) ∙ and-false c.args.self.now.same
      | else-self-via-else-self w ↦ ap (λ b. b && first) w.if-self.false
    ] in
    let gained = rw (c.step-step.ensures.on, c.step-step.ensures.places, c.step.ensures.on, c.step.ensures.places, c.frame-frame.ensures) at c.add_corner.ensures in
    gained n (omega (arith, within, c.requires.across))
    ∙ sym (ap (λ b. has_place c.args.blocks.now n || (not b && corner_begins types.before types.behind types.beside c.args.self.now.types.now.frame c.args.count c.args.self.now.home n c.args.direction c.args.flank)) kept)
