-- Each turn counts the lines of one section more.
use Rattle.std.proofs.Common.{length, sym, ap, ◌∙◌, arith}
use Rattle.mls_library.specs.SavedCells.{layer_lines}
use Rattle.mls_session.proofs.ListedLayers.{count_before-next, lines_before-first, section-few, strips_at}
use Rattle.mls_session.proofs.layers.count_layers.Goals as goal

pub loop-number-init : goal.loop-number-init
loop-number-init c = record {
  from = omega arith;
  count = λ layout all. ap length (sym (lines_before-first c.args.tech.now layout));
  few = omega arith;
}

-- a section has no more lines than the world has squares, and one
pub overflow_add-lines : goal.overflow_add-lines
overflow_add-lines c =
    let tech = c.args.tech.now in
    let kind = c.loop-number.number in
    let (layout, all) = c.requires.listed in
    let lines =
    c.layer_line_count-lines.ensures tech ∙ ap (λ list. length (layer_lines tech c.new-kind.result list)) (c.strips_for.ensures layout all)
    ∙ ap (λ k. length (layer_lines tech k (strips_at tech layout k))) c.new-kind.ensures
    in
    omega (arith, c.loop-number.invariant.few, lines, section-few tech layout kind, c.loop-number-test.true, c.types-types.ensures.limit)

pub loop-number-preserved : goal.loop-number-preserved
loop-number-preserved c =
    let tech = c.args.tech.now in
    let kind = c.loop-number.number in
    let so_far = c.loop-number.invariant in
    let (layout, all) = c.requires.listed in
    let lines =
    c.layer_line_count-lines.ensures tech ∙ ap (λ list. length (layer_lines tech c.new-kind.result list)) (c.strips_for.ensures layout all)
    ∙ ap (λ k. length (layer_lines tech k (strips_at tech layout k))) c.new-kind.ensures
    in
    record {
      from = omega arith;
      count = λ shown listed.
          omega (
            arith,
            so_far.count shown listed,
            c.layer_line_count-lines.ensures tech ∙ ap (λ list. length (layer_lines tech c.new-kind.result list)) (c.strips_for.ensures shown listed)
                ∙ ap (λ k. length (layer_lines tech k (strips_at tech shown k))) c.new-kind.ensures,
            count_before-next tech shown kind so_far.from,
          );
      few = omega (arith, so_far.few, lines, section-few tech layout kind);
    }
