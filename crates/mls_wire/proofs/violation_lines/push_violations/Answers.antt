use Rattle.std.proofs.Common.{ℕ, ◌++◌, ap, codes}
use Rattle.std.specs.Fmt.{decimal}
use Rattle.std.specs.List.{flat_map}
use Rattle.mls_wire.specs.Replies.{violation_text, violations_text}
use Rattle.mls_wire.proofs.PushedTexts.{appends-same}
use Rattle.mls_wire.proofs.violation_lines.push_violations.Goals as goal

pub returns : goal.returns
unfolding violations_text
returns g c =
    let lines = flat_map (violation_text (g.N.Names.book c.args.names.now)) c.args.found.now in
    appends-same c.push_lines.result c.args.out.now c.push_lines.new.out (ap (λ (n : ℕ). codes "violations " ++ decimal n ++ lines) c.count_lines-lines.ensures) c.push_lines.ensures
