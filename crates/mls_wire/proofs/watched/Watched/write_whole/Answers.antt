use Rattle.std.proofs.Common.{◌++◌, ◌∙◌, length, take, sym, ap, arith}
use Rattle.std.proofs.KnownBytes.{Appends-trans}
use Rattle.std.proofs.lemmas.List.{length-append}
use Rattle.mls_wire.proofs.Chunks.{next_of_rest}
use Rattle.mls_wire.proofs.watched.Watched.write_whole.Goals as goal

pub chunks-preserved : goal.chunks-preserved
chunks-preserved g c =
    let before = c.chunks.invariant in
    let rest = c.chunks.rest.now in
    let count = c.in_ok-count.count in
    let part = c.in_ok-count.ensures in
    let held = g.W.Write.contents in
    record {
      front = before.front ++ take count rest;
      whole = next_of_rest _ before.front rest count before.whole;
      written = Appends-trans (held c.args.self.now.device) (held c.chunks.self.device) (held c.write_some.new.self.device) _ _ before.written part.bytes;
      empty = λ none. absurd (omega (arith, part.some, part.bound, simp length-append at (ap length (sym before.whole ∙ none))));
      failed = part.called.failed ∙ before.failed;
      calls = omega (arith, part.called.calls, before.calls);
    }
