use Rattle.mls_server.specs.Servers.{world_of}
use Rattle.mls_live.proofs.Tied.{keeps-same, looked_by}
use Rattle.mls_live.proofs.desk.Desk.look.Goals as goal

pub invariant_of-self : goal.invariant_of-self
invariant_of-self g c = keeps-same c.args.self.now c.look.ensures.same

pub returns-clause-looks : goal.returns-clause-looks
returns-clause-looks g c =
    let old = c.args.self.now in
    let (text, at, is) = c.look.ensures.looks in
    (text, at, looked_by g.N.Naming.terms (world_of old.server) c.args.id c.args.look c.look.result text old.named old.legal at, is)
