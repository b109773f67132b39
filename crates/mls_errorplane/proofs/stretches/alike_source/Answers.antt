use Rattle.mls_errorplane.proofs.stretches.alike_source.Goals as goal

pub returns-clause-right : goal.returns-clause-right
returns-clause-right c = λ layout marks right. c.in_ok-source.ensures.right c.args.context.now.rules.now layout marks right
