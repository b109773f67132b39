-- The areas follow the section's heading.
use Rattle.std.proofs.Common.{◌≡◌, length, sym, ◌∙◌}
use Rattle.std.specs.Prelude.{codes}
use Rattle.std.proofs.lemmas.Bool.{eqb-true}
use Rattle.mls_library.proofs.AppendedTexts.{Appends-nothing, Appends-same, Appends-stopped, Appends-then}
use Rattle.mls_library.proofs.MarkedTexts.{rects_section-none, rects_section-some, some_rects}
use Rattle.mls_library.proofs.marked.push_dirty.Goals as goal

pub returns-then-is_empty : goal.returns-then-is_empty
returns-then-is_empty c =
    let none : length c.args.areas.now ≡ 0 = eqb-true (length c.args.areas.now) 0 (sym c.is_empty.ensures ∙ c.if-is_empty.true) in
    Appends-same _ _ _ _ _ (sym (rects_section-none (codes "checkpaint") c.args.areas.now none)) (Appends-nothing tt c.args.out.now)

pub returns-in_err-push_section : goal.returns-in_err-push_section
returns-in_err-push_section c =
    let some = some_rects c.args.areas.now (sym c.is_empty.ensures ∙ c.if-is_empty.false) in
    Appends-same c.from_residual.result _ _ _ _ (sym (rects_section-some (codes "checkpaint") c.args.areas.now some))
    (Appends-stopped c.from_residual.result _ _ _ _ _ c.from_residual.ensures.0 c.in_err-push_section.ensures)

pub returns : goal.returns
returns c =
    let some = some_rects c.args.areas.now (sym c.is_empty.ensures ∙ c.if-is_empty.false) in
    Appends-same c.push_rects.result _ _ _ _ (sym (rects_section-some (codes "checkpaint") c.args.areas.now some))
    (Appends-then c.push_rects.result _ _ _ _ _ _ c.in_ok-push_section.ensures c.push_rects.ensures)
