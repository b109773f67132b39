-- Each part is appended to those before it.
use Rattle.std.proofs.Common.{Ok, Err}
use Rattle.mls_library.specs.SavedCells.{Appends, header_lines, text_of}
use Rattle.mls_library.proofs.AppendedTexts.{Appends-same, Appends-stopped, Appends-then}
use Rattle.mls_library.proofs.EmptyLayouts.{error_text-parts}
use Rattle.mls_library.proofs.marked.push_errors.Goals as goal

pub returns-in_err-push_header : goal.returns-in_err-push_header
returns-in_err-push_header c marks are =
    let e = c.in_err-push_header.ensures in
    let header : Appends {T = Unit {0}} {E = Unit {0}} (Err tt) c.args.out.now c.push_header.new.out (text_of (header_lines c.args.tech.now)) = record { text = tt; kept = e.kept; room = e.room; capacity = e.capacity } in
    Appends-same c.from_residual.result _ _ _ _ (error_text-parts c.args.tech.now c.args.areas.now marks c.args.strips.now are)
    (Appends-stopped c.from_residual.result _ _ _ _ _ c.from_residual.ensures.0 header)

pub returns-in_err-push_dirty : goal.returns-in_err-push_dirty
returns-in_err-push_dirty c marks are =
    let h = c.in_ok-push_header.ensures in
    let header : Appends {T = Unit {0}} {E = Unit {0}} (Ok tt) c.args.out.now c.push_header.new.out (text_of (header_lines c.args.tech.now)) = record { text = h.text; kept = tt; room = tt; capacity = h.capacity } in
    let result = c.from_residual-in_err-push_dirty.result in
    Appends-same result _ _ _ _ (error_text-parts c.args.tech.now c.args.areas.now marks c.args.strips.now are)
    (Appends-then result tt _ _ _ _ _ header (Appends-stopped result _ _ _ _ _ c.from_residual-in_err-push_dirty.ensures.0 c.in_err-push_dirty.ensures))

pub returns-in_err-push_marks : goal.returns-in_err-push_marks
returns-in_err-push_marks c marks are =
    let h = c.in_ok-push_header.ensures in
    let header : Appends {T = Unit {0}} {E = Unit {0}} (Ok tt) c.args.out.now c.push_header.new.out (text_of (header_lines c.args.tech.now)) = record { text = h.text; kept = tt; room = tt; capacity = h.capacity } in
    let result = c.from_residual-in_err-push_marks.result in
    Appends-same result _ _ _ _ (error_text-parts c.args.tech.now c.args.areas.now marks c.args.strips.now are)
    (Appends-then result tt _ _ _ _ _ header
    (Appends-then result tt _ _ _ _ _ c.in_ok-push_dirty.ensures (Appends-stopped result _ _ _ _ _ c.from_residual-in_err-push_marks.ensures.0 c.in_err-push_marks.ensures)))

pub returns : goal.returns
returns c marks are =
    let h = c.in_ok-push_header.ensures in
    let header : Appends {T = Unit {0}} {E = Unit {0}} (Ok tt) c.args.out.now c.push_header.new.out (text_of (header_lines c.args.tech.now)) = record { text = h.text; kept = tt; room = tt; capacity = h.capacity } in
    Appends-same c.push_end.result _ _ _ _ (error_text-parts c.args.tech.now c.args.areas.now marks c.args.strips.now are)
    (Appends-then c.push_end.result tt _ _ _ _ _ header
    (Appends-then c.push_end.result tt _ _ _ _ _ c.in_ok-push_dirty.ensures (Appends-then c.push_end.result tt _ _ _ _ _ c.in_ok-push_marks.ensures c.push_end.ensures)))
