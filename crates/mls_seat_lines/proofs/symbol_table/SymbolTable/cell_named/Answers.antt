use Rattle.std.proofs.Common.{rules, ◌≡◌, ◌<◌, ℕ, true, false, List, Option, Some, None, map, get_or, length, ap, sym, ◌∙◌, arith}
use Rattle.std.specs.List.{position}
use Rattle.std.proofs.lemmas.Bool.Decides.{Decides-ltb}
use Rattle.std.proofs.lemmas.Option.{get_or_from_slice_get, slice_get_within}
use Rattle.mls_text.specs.Words.{same_word}
use Rattle.mls_seat_lines.specs.SymbolTables.{SymbolTable, cell_named}
use Rattle.mls_seat_lines.proofs.SymbolTableLemmas.{cell_at, position-map}
use Rattle.mls_seat_lines.proofs.symbol_table.SymbolTable.cell_named.Goals as goal

pub returns-in_err-place : goal.returns-in_err-place
returns-in_err-place c =
    let names = c.self.inside.names.items in
    let word = c.args.name.now in
    let viewed = ap (λ (g : SymbolTable). cell_named g.cells word) c.self.view_is in
    let none : cell_named (map (λ name. name.items) names) word ≡ None =
    position-map (same_word word) (λ name. name.items) names ∙ sym (c.in_err-place.ensures ∙ ap (position (λ name. same_word word name.items)) c.deref.ensures.value) in
    c.from_residual.ensures ∙ sym none ∙ viewed

pub returns-in_err-get : goal.returns-in_err-get
returns-in_err-get c =
    let names = c.self.inside.names.items in
    let word = c.args.name.now in
    let place = c.in_ok-place.place in
    let cells = c.self.inside.cells.items in
    let here : cell_named (map (λ name. name.items) names) word ≡ Some place =
    position-map (same_word word) (λ name. name.items) names ∙ sym (c.in_ok-place.ensures ∙ ap (position (λ name. same_word word name.items)) c.deref.ensures.value) in
    let at = cell_at (λ name. name.items) names cells word place c.self.invariant here in
    let within : place < length cells = slice_get_within cells place _ at in
    let same : length c.deref-2.result.now ≡ length cells = ap length c.deref-2.ensures.value in
    let below = (Decides-ltb place (length c.deref-2.result.now)).1 (omega (arith, within, same)) in
    let bad : false ≡ true = c.in_err-get.ensures.lookup.0 ∙ below in
    absurd (cc)

pub returns : goal.returns
returns c =
    let names = c.self.inside.names.items in
    let word = c.args.name.now in
    let place = c.in_ok-place.place in
    let cells = c.self.inside.cells.items in
    let cell = c.in_ok-get.field-0.now in
    let viewed = ap (λ (g : SymbolTable). cell_named g.cells word) c.self.view_is in
    let here : cell_named (map (λ name. name.items) names) word ≡ Some place =
    position-map (same_word word) (λ name. name.items) names ∙ sym (c.in_ok-place.ensures ∙ ap (position (λ name. same_word word name.items)) c.deref.ensures.value) in
    let at = cell_at (λ name. name.items) names cells word place c.self.invariant here in
    let read : cell ≡ get_or c.deref-2.result.now place cell = search rules in
    read ∙ ap (λ (l : List (Option ℕ)). get_or l place cell) c.deref-2.ensures.value ∙ get_or_from_slice_get cells place (cell_named (map (λ name. name.items) names) word) cell at ∙ viewed
