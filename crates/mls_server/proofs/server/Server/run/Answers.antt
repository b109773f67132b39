use Rattle.std.proofs.Common.{ℕ, ◌+◌, List, [], ◌∷◌, length, length-append, take, take_all, sym, ap, subst, ◌∙◌, arith}
use Rattle.mls_server.specs.Events.{Happens, Runs}
use Rattle.mls_server.specs.Servers.{world_of}
use Rattle.mls_server.specs.declared.answer.Answer.{Answer}
use Rattle.mls_server.specs.declared.event.Event.{Event}
use Rattle.mls_server.proofs.RunLaws.{Runs-next}
use Rattle.mls_server.proofs.ToldAlone.{Runs-IsToldAlone}
use Rattle.mls_server.proofs.server.Server.run.Goals as goal

pub loop-event-preserved : goal.loop-event-preserved
loop-event-preserved c =
    let so_far = c.loop-event.invariant in
    let old = world_of c.args.self.now in
    let mid = world_of c.loop-event.self in
    let new = world_of c.act.new.self in
    let happens = subst (λ (event : Event). Happens mid event c.act.result new) c.event-item.is c.act.ensures.happens in
    let runs =
    Runs-next old mid new c.args.events.now c.loop-event.answers.items c.loop-event.event-index c.event-item.result c.act.result c.loop-event-test.true
    so_far.runs happens
    in
    record {
      runs = subst (λ (answers : List Answer). Runs old (take (c.loop-event.event-index + 1) c.args.events.now) answers new) (sym c.push_reserved.ensures.items) runs;
      count = ap length c.push_reserved.ensures.items ∙ length-append c.loop-event.answers.items (c.act.result ∷ []) ∙ ap (λ (count : ℕ). count + 1) so_far.count;
      room = omega (arith, so_far.room, c.push_reserved.ensures.capacity);
    }

pub returns-clause-alone : goal.returns-clause-alone
returns-clause-alone c id =
    let old = world_of c.args.self.now in
    let new = world_of c.loop-event.self in
    let all = take_all c.loop-event.event-index c.args.events.now c.loop-event-test.false in
    Runs-IsToldAlone old new c.args.events.now c.loop-event.answers.items c.stays_sound.ensures.numbered
    (subst (λ (events : List Event). Runs old events c.loop-event.answers.items new) all c.loop-event.invariant.runs) id
