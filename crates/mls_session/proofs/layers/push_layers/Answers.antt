-- Each turn appends the section of one type more.
use Rattle.std.proofs.Common.{◌++◌, [], sym, ap, ◌∙◌, arith, append-nil}
use Rattle.mls_library.specs.SavedCells.{layer_lines, text_of}
use Rattle.mls_library.proofs.SavedTexts.{Extends-appended, Extends-trans}
use Rattle.mls_session.proofs.ListedLayers.{strips_at, text_before-first, text_before-next}
use Rattle.mls_session.proofs.layers.push_layers.Goals as goal

pub loop-number-init : goal.loop-number-init
loop-number-init c =
    let base = c.args.out.now.items in
    record {
      from = omega arith;
      kept = Extends-appended base base [] (sym (append-nil base));
      text = λ layout all. text_before-first c.args.tech.now layout base;
    }

pub loop-number-preserved : goal.loop-number-preserved
loop-number-preserved c =
    let so_far = c.loop-number.invariant in
    let base = c.args.out.now.items in
    let old = c.loop-number.out.items in
    let new = c.push_layer.new.out.items in
    record {
      from = omega arith;
      kept = Extends-trans base old new so_far.kept (Extends-appended old new _ c.in_ok-push_layer.ensures.text);
      text = λ layout all.
          text_before-next c.args.tech.now layout c.loop-number.number c.strips_for.result.now base old new so_far.from
          (c.strips_for.ensures layout all ∙ ap (strips_at c.args.tech.now layout) c.new-kind.ensures) (so_far.text layout all)
          (c.in_ok-push_layer.ensures.text ∙ ap (λ kind. old ++ text_of (layer_lines c.args.tech.now kind c.strips_for.result.now)) c.new-kind.ensures);
    }

pub returns-in_err-push_layer-clause-kept : goal.returns-in_err-push_layer-clause-kept
returns-in_err-push_layer-clause-kept c =
    Extends-trans c.args.out.now.items c.loop-number.out.items c.push_layer.new.out.items c.loop-number.invariant.kept c.in_err-push_layer.ensures.kept
