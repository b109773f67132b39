use Rattle.mls_library.specs.Inner.{IsTypeOn}
use Rattle.mls_library.proofs.LineMeanings.{plain_line-known}
use Rattle.mls_library.proofs.lines.line_meaning.Goals as goal

pub returns-else-eq-clause-known : goal.returns-else-eq-clause-known
returns-else-eq-clause-known c =
    λ within. rw c.plain_line.ensures (plain_line-known (IsTypeOn c.args.tech.now) c.args.place.now c.in-Some.keyword.now _ within)
