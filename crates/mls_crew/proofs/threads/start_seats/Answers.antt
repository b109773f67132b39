use Rattle.std.proofs.Common.{rules, ◌≡◌, ◌+◌, ◌∙◌, ap, length, vec_len, arith}
use Rattle.mls_crew.specs.declared.serving.Part.{Part}
use Rattle.mls_crew.proofs.CountdownLemmas.{counts_push}
use Rattle.mls_crew.proofs.threads.start_seats.Goals as goal

pub loop-seat-init : goal.loop-seat-init
loop-seat-init g c =
    let none : vec_len c.args.handles.now ≡ 0 = c.args.handles.now.ok.0 ∙ ap length c.requires.none in
    record {
      count = omega (arith, none, c.requires.paired);
      room = omega (arith, c.requires.paired, c.requires.room);
      wanted = rw c.requires.none (record { counts = tt });
    }

pub loop-seat-preserved : goal.loop-seat-preserved
loop-seat-preserved g c =
    let was = c.loop-seat.invariant in
    let at : vec_len c.loop-seat.fresh ≡ vec_len c.pop.new.self + 1 = omega (arith, c.in-Some.ensures.len) in
    let mine : c.in-Ok.handle.promise ≡ record c.args.part { session = vec_len c.pop.new.self } =
    c.in-Ok.ensures.ok ∙ c.of-mine.ensures ∙ ap (λ n. let p : Part = record c.args.part { session = n } in p) c.len.ensures in
    record {
      count = omega (arith, was.count, at, c.push_reserved.ensures.len);
      room = search rules;
      wanted = rw c.push_reserved.ensures.items (counts_push c.in-Ok.handle at was.wanted mine);
    }

pub returns-clause-wanted : goal.returns-clause-wanted
returns-clause-wanted g c = λ all.
    let none : vec_len c.loop-seat.fresh ≡ 0 = omega (arith, all, c.loop-seat.invariant.count) in
    rw none at c.loop-seat.invariant.wanted
