-- Each mark more widens the slots, until one meets none of them.
use Rattle.mls_geom.proofs.Common.{◌≡◌, sym, ◌∙◌, ◌<◌, arith, get_or, length, get_or_default}
use Rattle.mls_geom.proofs.Definitions.{runs_of, Span}
use Rattle.mls_geom.proofs.MarkedRuns.{AreMet-more, AreMet-one, IsChange-apart}
use Rattle.mls_geom.proofs.kept_row.KeptRow.next_change.Goals as goal

pub loop-after-init : goal.loop-after-init
loop-after-init c =
    let marks = c.args.self.now.marks.items in
    let is : (d : Span) → get_or marks c.args.index d ≡ c.index-mark.result.now = λ d. get_or_default marks c.args.index d _ c.requires.within ∙ sym c.index-mark.ensures in
    AreMet-one c.args.self.now.lines.items c.requires.cuts.ascending (runs_of c.args.self.now.strips.items c.args.self.now.row.items) marks c.requires.sorted c.requires.marks
    c.args.index c.index-mark.result.now c.in_ok-change.change.slots c.in_ok-change.change.runs c.requires.within is c.in_ok-change.ensures

pub loop-after-preserved : goal.loop-after-preserved
loop-after-preserved c =
    let marks = c.args.self.now.marks.items in
    let less : c.loop-after.after < length marks = omega arith in
    let is : (d : Span) → get_or marks c.loop-after.after d ≡ c.index-mark-in-loop-after.result.now = λ d. get_or_default marks c.loop-after.after d _ less ∙ sym c.index-mark-in-loop-after.ensures in
    let more = AreMet-more c.args.self.now.lines.items c.requires.cuts.ascending (runs_of c.args.self.now.strips.items c.args.self.now.row.items) marks c.requires.sorted c.requires.marks
    c.args.index c.loop-after.after c.index-mark-in-loop-after.result.now c.loop-after.change.slots c.loop-after.change.runs c.in_ok-more.more.slots c.in_ok-more.more.runs less is c.loop-after.invariant c.in_ok-more.ensures in
    rw (c.max-change.ensures, c.max-change-in-loop-after.ensures) more

pub returns-then-change-more : goal.returns-then-change-more
returns-then-change-more c =
    let marks = c.args.self.now.marks.items in
    let less : c.loop-after.after < length marks = omega arith in
    let is : (d : Span) → get_or marks c.loop-after.after d ≡ c.index-mark-in-loop-after.result.now = λ d. get_or_default marks c.loop-after.after d _ less ∙ sym c.index-mark-in-loop-after.ensures in
    IsChange-apart c.args.self.now.lines.items c.requires.cuts.ascending (runs_of c.args.self.now.strips.items c.args.self.now.row.items) marks c.requires.sorted c.requires.marks
    c.args.index c.loop-after.after c.index-mark-in-loop-after.result.now c.loop-after.change.slots c.loop-after.change.runs c.in_ok-more.more.slots c.in_ok-more.more.runs less is c.loop-after.invariant c.in_ok-more.ensures c.if-change-more.true
