use Rattle.std.proofs.Common.{◌∙◌, ap, codes, refl}
use Rattle.std.proofs.lemmas.Result.{IfOk-weaker}
use Rattle.clap.specs.Simple.{app_of_fields}
use Rattle.clap.specs.Words.{new_app}
use Rattle.mls_magicd.proofs.OptionLemmas.{adds-own, empty-plain}
use Rattle.mls_magicd.specs.CommandLines.{IsOwnCommand, cell_tiles_option, cells_rule, journal_option, live_rule, magicd, number_rule, pool_option, quota_option, tech_rule, workers_option}
use Rattle.mls_magicd.proofs.options.command.Goals as goal

pub returns : goal.returns
unfolding magicd
returns c =
    let empty = c.new.ensures.empty in
    let named = c.about.ensures in
    let bare : IsOwnCommand (new_app (codes "magicd")) c.about.result = record {
      app = ap app_of_fields named ∙ c.new.ensures.app;
      plain = empty-plain c.about.result (ap (λ f. f.args.items) named ∙ empty.0) (ap (λ f. f.groups.items) named ∙ empty.1);
      local = ap (λ f. f.has_globals) named ∙ c.new.ensures.local;
    } in
    let first = adds-own _ c.in_ok-arg.field-0 _ _ tech_rule bare c.tech_option.ensures c.in_ok-arg.ensures in
    let second = adds-own _ c.in_ok-arg-2.field-0 _ _ (number_rule quota_option) first (c.number_option.ensures quota_option refl c.range.ensures.start c.range.ensures.end) c.in_ok-arg-2.ensures in
    let third = adds-own _ c.in_ok-arg-3.field-0 _ _ (number_rule pool_option) second (c.number_option-2.ensures pool_option refl c.range-2.ensures.start c.range-2.ensures.end) c.in_ok-arg-3.ensures in
    let fourth = adds-own _ c.in_ok-arg-4.field-0 _ _ (number_rule journal_option) third (c.number_option-3.ensures journal_option refl c.range-3.ensures.start c.range-3.ensures.end) c.in_ok-arg-4.ensures in
    let fifth = adds-own _ c.in_ok-arg-5.field-0 _ _ (number_rule cell_tiles_option) fourth (c.number_option-4.ensures cell_tiles_option refl c.range-4.ensures.start c.range-4.ensures.end) c.in_ok-arg-5.ensures in
    let sixth = adds-own _ c.in_ok-arg-6.field-0 _ _ (number_rule workers_option) fifth (c.number_option-5.ensures workers_option refl c.range-5.ensures.start c.range-5.ensures.end) c.in_ok-arg-6.ensures in
    let seventh = adds-own _ c.in_ok-arg-7.field-0 _ _ live_rule sixth c.live_option.ensures c.in_ok-arg-7.ensures in
    IfOk-weaker c.arg-8.result _ _ (λ whole added. adds-own _ whole _ _ cells_rule seventh c.cells_argument.ensures added) c.arg-8.ensures
