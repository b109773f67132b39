use Rattle.std.proofs.Common.{rules, ◌≡◌, ◌+◌, ℕ, length, vec_len, refl, sym, subst, ◌∙◌, arith}
use Rattle.std.specs.Result.{IfOk}
use Rattle.mls_seat_lines.specs.SymbolTables.{book_in}
use Rattle.mls_crew.specs.Groups.{GroupText}
use Rattle.mls_crew.specs.Scripts.{GivesPart, no_text}
use Rattle.mls_crew.specs.declared.serving.Part.{Part}
use Rattle.mls_crew.proofs.CountdownLemmas.{counts_last, counts_rest, each_push}
use Rattle.mls_crew.proofs.threads.joined.Goals as goal

pub loop-handle-init : goal.loop-handle-init
loop-handle-init g c = record {
  part = refl;
  count = omega (arith, c.requires.seats.0);
  seats = c.requires.seats.1;
  room = c.requires.groups.1;
  fewer = omega (arith, c.requires.groups.0);
  wanted = λ all. rw (c.requires.seats.0) (c.requires.wanted all);
  groups = λ all ok. (c.requires.groups.0 ∙ sym c.requires.seats.0, λ session below. absurd (omega (arith, below, c.requires.groups.0)));
}

pub loop-handle-preserved-in-Ok : goal.loop-handle-preserved-in-Ok
loop-handle-preserved-in-Ok g c =
    let was = c.loop-handle.invariant in
    let part = c.args.served.part in
    let done = vec_len c.loop-handle.served.seats in
    let one : vec_len c.push_reserved.new.self ≡ done + 1 = c.push_reserved.ensures.len in
    let gives = λ (session : ℕ) (group : GroupText). GivesPart g.N.Naming.terms (book_in part.symbols.now) part.sorting.now session group in
    record {
      part = was.part;
      count = search rules;
      seats = search rules;
      room = search rules;
      fewer = search rules;
      wanted = λ all. counts_rest (vec_len c.push_reserved.new.self) c.pop.new.self.items c.in-Some.handle one c.in-Some.ensures.items (was.wanted all);
      groups = λ all ok.
          let mine : c.in-Some.handle.promise ≡ record part { session = done } =
          counts_last c.pop.new.self.items c.in-Some.handle c.in-Some.ensures.items (was.wanted all) in
          let kept : IfOk c.join-seat.result.group (gives done) =
          subst (λ (p : Part). IfOk c.join-seat.result.group (GivesPart g.N.Naming.terms (book_in p.symbols.now) p.sorting.now p.session)) mine c.join-seat.ensures in
          let here : gives done c.in-Ok.group = rw c.in-Ok.is at kept in
          let before = was.groups all ok in
          let same : length c.loop-handle.served.groups.items ≡ done = sym c.loop-handle.served.groups.ok.0 ∙ before.0 in
          let more : vec_len c.push_reserved-in-Ok.new.self ≡ done + 1 = omega (arith, c.push_reserved-in-Ok.ensures.len, before.0) in (
            more ∙ sym one,
            λ session below.
                rw c.push_reserved-in-Ok.ensures.items
                (each_push gives c.loop-handle.served.groups.items no_text c.in-Ok.group done (done + 1) same refl (λ k low. before.1 k (omega (arith, before.0, low))) here session
                (omega (arith, more, below))),
          );
    }

pub loop-handle-preserved : goal.loop-handle-preserved
loop-handle-preserved g c =
    let was = c.loop-handle.invariant in
    record {
      part = was.part;
      count = search rules;
      seats = search rules;
      room = was.room;
      fewer = search rules;
      wanted = λ all. counts_rest (vec_len c.push_reserved.new.self) c.pop.new.self.items c.in-Some.handle c.push_reserved.ensures.len c.in-Some.ensures.items (was.wanted all);
      groups = λ all failed. absurd (cc);
    }

pub returns : goal.returns
returns g c = λ all ok.
    let before = c.loop-handle.invariant.groups all ok in
    let whole : vec_len c.loop-handle.served.groups ≡ length c.args.served.part.sorting.now.opened =
    omega (arith, before.0, c.loop-handle.invariant.count, all, c.in_default.ensures.len, c.in_default.ensures.cases) in
    record {
      count = sym c.loop-handle.served.groups.ok.0 ∙ whole;
      each = λ session below. before.1 session (omega (arith, below, whole));
    }
