use Rattle.std.proofs.Common.{◌≡◌, ◌∙◌, ◌+◌, max, List, ℕ, sym, subst}
use Rattle.mls_checker.specs.Copies.{copied_layout}
use Rattle.mls_checker.specs.Forbids.{forbids, reaches}
use Rattle.mls_checker.specs.Maps.{Frame, GainsDeep, HasLow, Shows, of_types, square}
use Rattle.mls_checker.proofs.MapMarks.{forbidden-gained}
use Rattle.mls_checker.proofs.Stacks.{given-back}
use Rattle.mls_checker.proofs.map_marks.MapMarks.add.Goals as goal

pub returns-clause-marked : goal.returns-clause-marked
returns-clause-marked c =
    let self = c.args.self.now in
    let rule = c.args.rule.now in
    let layout = copied_layout c.args.shown.now.snapshot.now in
    let back = given-back self.marked.items c.deref_mut-2.result.now c.add_but.new.map self.marked.len c.deref_mut-2.ensures.value c.add_but.auto.map c.deref_mut-2.ensures.len in
    let allowed : c.deref.result.now ≡ c.load.new.map =
    c.deref.ensures.value ∙ given-back self.allowed.items c.deref_mut.result.now c.load.new.map self.allowed.len c.deref_mut.ensures.value c.load.auto.map c.deref_mut.ensures.len in
    let reached = subst (λ (f : Frame). HasLow f (1 + max rule.distance rule.corner_distance) (λ x y. reaches rule layout (square x y)) c.find_reach.new.self.level.items) self.reach_framed (c.find_reach.ensures.reached layout c.show.ensures.types) in
    let shown = subst (λ (f : Frame). Shows f (of_types rule.ok_types (layout rule.check_plane)) c.load.new.map) c.requires.shown c.load.ensures in
    let gained = rw (c.deref_mut-2.ensures.value, allowed, c.reached.ensures) at c.add_but.ensures in
    subst (λ (map : List ℕ). GainsDeep self.frame (1 + max rule.distance rule.corner_distance) (λ x y. forbids rule layout (square x y)) self.marked.items map) (sym back)
    (forbidden-gained rule layout self.frame c.find_reach.new.self.level.items c.load.new.map self.marked.items c.add_but.new.map c.words_below-below.result
    reached shown c.words_below-below.ensures.value self.marked_sized gained)
