use Rattle.mls_server.specs.Servers.{world_of}
use Rattle.mls_live.proofs.Tied.{settle_legal, settle_tied, keeps, tied}
use Rattle.mls_live.proofs.desk.Desk.settle.Goals as goal

pub invariant_of-self : goal.invariant_of-self
invariant_of-self g c =
    let old = c.args.self.now in
    let on = world_of c.settle.new.self in
    let legal = settle_legal g.N.Naming.terms (world_of old.server) on c.args.id c.settle.result old.named old.legal c.settle.ensures.settles in
    keeps (settle_tied on (tied old) c.args.id c.settle.result c.stays_sound.ensures.numbered c.settle.ensures.settles) legal old.counted old.parts old.amount
