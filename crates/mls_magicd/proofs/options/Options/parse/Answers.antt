use Rattle.std.proofs.Common.{◌∙◌, inl, inr, ℕ, List, map, subst, arith}
use Rattle.std.proofs.lemmas.Result.{err_from_is_err_and}
use Rattle.clap.specs.Words.{Text, found_of}
use Rattle.mls_magicd.proofs.CellWords.{named-not_bad}
use Rattle.mls_magicd.proofs.OptionLemmas.{cells-named, file-named, live-named, number-parsed, refused-for_fault, refused-for_word, taken-no_fault}
use Rattle.mls_magicd.proofs.NumberTexts.{StandsAt, cell_tiles_stands, journal_stands, pool_stands, quota_stands, workers_stands}
use Rattle.mls_magicd.specs.CommandLines.{IsFoundNumber, NamesFiles, NumberOption, cell_tiles_option, file_of, journal_option, pool_option, quota_option, workers_option}
use Rattle.mls_magicd.proofs.options.Options.parse.Goals as goal

pub returns-in_ok-cells-in-Ok : goal.returns-in_ok-cells-in-Ok
returns-in_ok-cells-in-Ok g c =
    let words = map g.S.AsStr.text c.args.words.now in
    let command = c.in_ok-command.field-0 in
    let built = c.in_ok-command.ensures.app in
    let m = c.in-Ok.matches in
    let taken = c.in-Ok.ensures in
    let number = λ (option : NumberOption) (place value : ℕ) (stands : StandsAt option place) (found : IsFoundNumber option (found_of m) value).
    number-parsed option place stands words command m value built taken.matches taken.parsed c.in_ok-command.ensures.plain c.in_ok-command.ensures.local found in
    let files = map file_of c.in_ok-cells-in-Ok.cells.items in
    let named = subst (λ (words : List Text). NamesFiles words files) (cells-named _ command m built taken.matches) c.in_ok-cells-in-Ok.ensures.ok in
    record {
      taken = (taken-no_fault _ command built taken.kinds, named-not_bad _ files named);
      tech = c.get_str.ensures ∙ file-named _ command m built taken.matches;
      quota = number quota_option 1 c.number_of.result quota_stands (c.number_of.ensures (omega arith));
      pool = number pool_option 2 c.number_of-in-Ok.result pool_stands (c.number_of-in-Ok.ensures (omega arith));
      journal = number journal_option 3 c.number_of-in-Ok-2.result journal_stands (c.number_of-in-Ok-2.ensures (omega arith));
      cell_tiles = number cell_tiles_option 4 c.number_of-in-Ok-3.result cell_tiles_stands (c.number_of-in-Ok-3.ensures (omega arith));
      workers = number workers_option 5 c.number_of-in-Ok-4.result workers_stands (c.number_of-in-Ok-4.ensures (omega arith));
      live = λ asks. c.get_flag.ensures.value (live-named _ command m built taken.matches ∙ asks);
      no_live = λ asks. elim asks [
        | inl none ↦ c.get_flag.ensures.none (live-named _ command m built taken.matches ∙ none)
        | inr given ↦ c.get_flag.ensures.other (live-named _ command m built taken.matches ∙ given)
      ];
      cells = named;
    }

pub returns-in_err-cells-in-Ok : goal.returns-in_err-cells-in-Ok
returns-in_err-cells-in-Ok g c =
    let command = c.in_ok-command.field-0 in
    let built = c.in_ok-command.ensures.app in
    let taken = c.in-Ok.ensures in
    let fault = err_from_is_err_and c.from_residual-in_err-cells-in-Ok.result c.from_residual-in_err-cells-in-Ok.ensures.1 in
    rw (fault.1, fault.2)
    (refused-for_word _ command c.in-Ok.matches c.in_err-cells-in-Ok.field-0.0 built (taken-no_fault _ command built taken.kinds) taken.matches c.in_err-cells-in-Ok.ensures.err)

pub returns-in-Err : goal.returns-in-Err
returns-in-Err g c =
    refused-for_fault _ c.in_ok-command.field-0 c.in-Err.error c.refusal.result c.in_ok-command.ensures.app c.in-Err.ensures.kinds c.refusal.ensures.memory c.refusal.ensures.parser
