use Rattle.mls_tech.proofs.UnbrokenLines.{first_line-unbroken}
use Rattle.mls_tech.proofs.file_lines.FileLines.advance.Goals as goal

pub returns-then-has_content-clause-unbroken : goal.returns-then-has_content-clause-unbroken
returns-then-has_content-clause-unbroken c =
    let fields = c.loop-number.self-inside in
    first_line-unbroken fields.number _ fields.rest.now _ _ c.in_ok-rest.ensures.line
