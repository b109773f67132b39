-- Each part is appended to those before it.
use Rattle.mls_library.specs.SavedCells.{Extends}
use Rattle.mls_library.proofs.SavedTexts.{Extends-after, Extends-appended, Extends-trans, on_err}
use Rattle.mls_session.proofs.MarkedTexts.{marked_text-appended}
use Rattle.mls_session.proofs.Results.{on_err-map, on_ok-map}
use Rattle.mls_session.proofs.layers.push_marked.Goals as goal

pub returns-in_err-push_dirty-clause-kept : goal.returns-in_err-push_dirty-clause-kept
returns-in_err-push_dirty-clause-kept c =
    let o0 = c.args.out.now.items in
    let o1 = c.push_header.new.out.items in
    on_err c.from_residual-in_err-push_dirty.result _ (Extends-trans o0 o1 c.push_dirty.new.out.items (Extends-appended o0 o1 _ c.in_ok-push_header.ensures.text) c.in_err-push_dirty.ensures.kept)

pub returns-in_err-push_marks-clause-kept : goal.returns-in_err-push_marks-clause-kept
returns-in_err-push_marks-clause-kept c =
    on_err c.from_residual-in_err-push_marks.result _
    (Extends-after c.args.out.now.items c.push_header.new.out.items c.push_dirty.new.out.items c.push_marks.new.out.items _ _ c.in_ok-push_header.ensures.text c.in_ok-push_dirty.ensures.text
    c.in_err-push_marks.ensures.kept)

pub returns-in_err-push_layers-clause-kept : goal.returns-in_err-push_layers-clause-kept
returns-in_err-push_layers-clause-kept c =
    let o2 = c.push_dirty.new.out.items in
    let o3 = c.push_marks.new.out.items in
    on_err c.from_residual-in_err-push_layers.result _
    (Extends-after c.args.out.now.items c.push_header.new.out.items o2 c.push_layers.new.out.items _ _ c.in_ok-push_header.ensures.text c.in_ok-push_dirty.ensures.text
    (Extends-trans o2 o3 c.push_layers.new.out.items (Extends-appended o2 o3 _ c.in_ok-push_marks.ensures.text) c.push_layers.ensures.kept))

pub returns-clause-text : goal.returns-clause-text
returns-clause-text c =
    on_ok-map c.push_end.result _ _
    (λ last layout picture all are.
    marked_text-appended c.args.tech.now layout c.args.areas.now picture c.args.marks.now are c.args.out.now.items c.push_header.new.out.items c.push_dirty.new.out.items c.push_marks.new.out.items
    c.push_layers.new.out.items c.push_end.new.out.items c.in_ok-push_header.ensures.text c.in_ok-push_dirty.ensures.text c.in_ok-push_marks.ensures.text
    (c.in_ok-push_layers.ensures.text layout all) last) c.push_end.ensures.text

pub returns-clause-kept : goal.returns-clause-kept
returns-clause-kept c =
    let o0 = c.args.out.now.items in
    let o2 = c.push_dirty.new.out.items in
    let o3 = c.push_marks.new.out.items in
    let o4 = c.push_layers.new.out.items in
    let o5 = c.push_end.new.out.items in
    on_err-map c.push_end.result (Extends o4 o5) (Extends o0 o5)
    (λ last. Extends-after o0 c.push_header.new.out.items o2 o5 _ _ c.in_ok-push_header.ensures.text c.in_ok-push_dirty.ensures.text
    (Extends-trans o2 o3 o5 (Extends-appended o2 o3 _ c.in_ok-push_marks.ensures.text) (Extends-trans o3 o4 o5 c.push_layers.ensures.kept last))) c.push_end.ensures.kept
