use Rattle.std.proofs.Common.{◌∙◌, ℕ, List, Some, None, ap₂, refl, sym, arith}
use Rattle.std.proofs.lemmas.Str.Pattern.{split_once_first}
use Rattle.mls_magicd.proofs.CellWords.{named_file-none, named_file-some}
use Rattle.mls_magicd.proofs.cell_argument.CellArgument.cut.Goals as goal

pub returns-in_err-name : goal.returns-in_err-name
returns-in_err-name c =
    rw (c.from_residual.ensures, named_file-none c.args.word.now (split_once_first 61 c.args.word.now None c.in_err-name.ensures.cases (omega arith))) refl

pub returns : goal.returns
returns c =
    let found = split_once_first 61 c.args.word.now (Some (c.in_ok-name.name, c.in_ok-name.path)) c.in_ok-name.ensures.cases (omega arith) in
    ap₂ (λ (name path : List ℕ). Some (record { name = name; path = path })) found.1 found.2 ∙ sym (named_file-some c.args.word.now found.0)
