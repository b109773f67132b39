use Rattle.std.proofs.Common.{refl}
use Rattle.mls_server.proofs.EventFrames.{Happens-keeps}
use Rattle.mls_server.specs.Servers.{world_of}
use Rattle.mls_wire.proofs.executing.ask.Goals as goal

pub returns : goal.returns
returns c =
    let happens = c.act.ensures.happens in
    record {
      asks = (c.act.result, refl, happens);
      setting = (Happens-keeps (world_of c.args.server.now) c.args.event c.act.result (world_of c.act.new.self) happens).setting;
    }
