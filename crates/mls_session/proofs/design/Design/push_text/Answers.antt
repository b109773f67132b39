-- Each turn appends the text of one type's section.
use Rattle.std.proofs.Common.{◌≡◌, ℕ, ◌+◌, ◌-◌, ◌++◌, ◌<◌, length, vec_len, vec_capacity, refl, sym, ap, subst, ◌∙◌, arith}
use Rattle.mls_session.proofs.Common.{IsSection, Pool, header_lines, layer_lines, layout_in, saved_text, strips_on, text_of}
use Rattle.mls_library.proofs.SavedRooms.{end_fits, grown, front_fits}
use Rattle.mls_library.proofs.SavedTexts.{Extends-appended, Extends-trans, lines_up_to, lines_up_to-none, on_err, text_up_to-all}
use Rattle.mls_session.proofs.SavedSections.{count-all, count-first, count-next, lines_before, section_fits, text-next}
use Rattle.mls_session.proofs.design.Design.push_text.Goals as goal
use Rattle.mls_session.proofs.design.Design.push_text.Goals.{After-list_section-lines}

pub loop-number-init : goal.loop-number-init
loop-number-init c =
    let layout = layout_in c.args.workspace.now.pool c.args.self.now.planes in
    let front = lines_up_to-none (header_lines c.args.tech.now) c.args.tech.now (strips_on layout) in
    record {
      pool = refl;
      from = omega arith;
      text = c.in_ok-push_header.ensures.text ∙ ap (λ lines. c.args.out.now.items ++ text_of lines) (sym front);
      count = count-first c.args.tech.now layout;
      few = omega arith;
      capacity = c.in_ok-push_header.ensures.capacity;
      lists = record { home = c.requires.home; lists = tt };
    }

pub returns-in_err-push_layer-clause-kept : goal.returns-in_err-push_layer-clause-kept
returns-in_err-push_layer-clause-kept c =
    on_err c.from_residual-in_err-push_layer.result _
    (Extends-trans c.args.out.now.items c.loop-number.out.items c.push_layer.new.out.items
    (Extends-appended c.args.out.now.items c.loop-number.out.items _ c.loop-number.invariant.text) c.in_err-push_layer.ensures.kept)

pub returns-in_err-push_layer-clause-pool : goal.returns-in_err-push_layer-clause-pool
returns-in_err-push_layer-clause-pool c = c.list_section-lines.ensures.pool ∙ c.loop-number.invariant.pool

section :
    (c : After-list_section-lines)
    → IsSection c.args.tech.now (layout_in c.args.workspace.now.pool c.args.self.now.planes) c.loop-number.number c.list_section-lines.new.workspace.pieces.items c.list_section-lines.result
section c =
    let listed = c.list_section-lines in
    let strips = listed.new.workspace.pieces.items in
    subst (λ (k : ℕ). IsSection c.args.tech.now (layout_in c.args.workspace.now.pool c.args.self.now.planes) k strips listed.result) c.new-kind.ensures
    (subst (λ (pool : Pool). IsSection c.args.tech.now (layout_in pool c.args.self.now.planes) c.new-kind.result strips listed.result) c.loop-number.invariant.pool listed.ensures.section)

pub loop-number-preserved : goal.loop-number-preserved
loop-number-preserved c =
    let layout = layout_in c.args.workspace.now.pool c.args.self.now.planes in
    let tech = c.args.tech.now in
    let kind = c.loop-number.number in
    let so_far = c.loop-number.invariant in
    let listed = c.list_section-lines in
    let strips = listed.new.workspace.pieces.items in
    let old = c.loop-number.out.items in
    let is = section (goal.at.loop-number-preserved c).After-list_section-lines in
    let appended =
    c.in_ok-push_layer.ensures.text ∙ ap (λ found. old ++ text_of (layer_lines tech c.new-kind.result found)) c.deref.ensures.value
    ∙ ap (λ k. old ++ text_of (layer_lines tech k strips)) c.new-kind.ensures
    in
    record {
      pool = listed.ensures.pool ∙ so_far.pool;
      from = omega arith;
      text = text-next tech layout kind strips listed.result so_far.from is c.args.out.now.items old c.push_layer.new.out.items so_far.text appended;
      count = count-next tech layout kind strips listed.result so_far.from is c.loop-number.lines so_far.count;
      few = omega (arith, so_far.few, listed.ensures.few);
      capacity = omega (arith, so_far.capacity, c.in_ok-push_layer.ensures.capacity);
      lists = listed.ensures.lists;
    }

pub returns-clause-text : goal.returns-clause-text
returns-clause-text c =
    let layout = layout_in c.args.workspace.now.pool c.args.self.now.planes in
    let tech = c.args.tech.now in
    let base = c.args.out.now.items in
    let old = c.loop-number.out.items in
    let all : c.loop-number.number - 1 ≡ length tech.type_planes =
    omega (arith, c.loop-number-test.false, c.loop-number.auto.number-end, c.loop-number.invariant.from, c.types-types.ensures.value)
    in
    let before = c.loop-number.invariant.text ∙ ap (λ n. base ++ text_of (lines_up_to (header_lines tech) tech (strips_on layout) n)) all in
    text_up_to-all (header_lines tech) tech (strips_on layout) base old c.push_end.new.out.items before c.in_ok-push_end.ensures.text

pub returns-in_err-push_end-clause-kept : goal.returns-in_err-push_end-clause-kept
returns-in_err-push_end-clause-kept c =
    let base = c.args.out.now.items in
    let old = c.loop-number.out.items in
    on_err c.from_residual-in_err-push_end.result _
    (Extends-trans base old c.push_end.new.out.items (Extends-appended base old _ c.loop-number.invariant.text) c.in_err-push_end.ensures.kept)

pub returns-in_err-push_header-clause-room : goal.returns-in_err-push_header-clause-room
returns-in_err-push_header-clause-room c =
    let layout = layout_in c.args.workspace.now.pool c.args.self.now.planes in
    on_err c.from_residual.result (vec_capacity c.args.out.now < vec_len c.args.out.now + length (saved_text c.args.tech.now layout))
    (omega (arith, front_fits (header_lines c.args.tech.now) c.args.tech.now (strips_on layout), c.in_err-push_header.ensures.room))

pub returns-in_err-push_layer-clause-room : goal.returns-in_err-push_layer-clause-room
returns-in_err-push_layer-clause-room c =
    let layout = layout_in c.args.workspace.now.pool c.args.self.now.planes in
    let tech = c.args.tech.now in
    let kind = c.loop-number.number in
    let so_far = c.loop-number.invariant in
    let out = c.loop-number.out in
    let strips = c.list_section-lines.new.workspace.pieces.items in
    let is = section (goal.at.returns-in_err-push_layer-clause-room c).After-list_section-lines in
    let few : kind - 1 < length tech.type_planes = omega (arith, so_far.from, c.loop-number-test.true, c.types-types.ensures.value) in
    let before = grown c.args.out.now.items out.items (text_of (lines_before tech layout kind)) c.args.out.now.ok.0 out.ok.0 so_far.text in
    let size = ap (λ found. length (text_of (layer_lines tech c.new-kind.result found))) c.deref.ensures.value ∙ ap (λ k. length (text_of (layer_lines tech k strips))) c.new-kind.ensures in
    on_err c.from_residual-in_err-push_layer.result (vec_capacity c.args.out.now < vec_len c.args.out.now + length (saved_text tech layout))
    (omega (arith, section_fits tech layout kind strips c.list_section-lines.result so_far.from is few, size, before, so_far.capacity, c.in_err-push_layer.ensures.room))

pub returns-in_err-push_end-clause-room : goal.returns-in_err-push_end-clause-room
returns-in_err-push_end-clause-room c =
    let layout = layout_in c.args.workspace.now.pool c.args.self.now.planes in
    let tech = c.args.tech.now in
    let out = c.loop-number.out in
    let all : c.loop-number.number - 1 ≡ length tech.type_planes =
    omega (arith, c.loop-number-test.false, c.loop-number.auto.number-end, c.loop-number.invariant.from, c.types-types.ensures.value)
    in
    let text = c.loop-number.invariant.text ∙ ap (λ n. c.args.out.now.items ++ text_of (lines_up_to (header_lines tech) tech (strips_on layout) n)) all in
    let before = grown c.args.out.now.items out.items (text_of (lines_up_to (header_lines tech) tech (strips_on layout) (length tech.type_planes))) c.args.out.now.ok.0 out.ok.0 text in
    on_err c.from_residual-in_err-push_end.result (vec_capacity c.args.out.now < vec_len c.args.out.now + length (saved_text tech layout))
    (omega (arith, end_fits (header_lines tech) tech (strips_on layout), before, c.loop-number.invariant.capacity, c.in_err-push_end.ensures.room))

pub returns-clause-count : goal.returns-clause-count
returns-clause-count c =
    count-all c.args.tech.now (layout_in c.args.workspace.now.pool c.args.self.now.planes) c.loop-number.number c.loop-number.lines c.loop-number.invariant.count
    (omega (arith, c.loop-number-test.false, c.loop-number.auto.number-end, c.loop-number.invariant.from, c.types-types.ensures.value))
