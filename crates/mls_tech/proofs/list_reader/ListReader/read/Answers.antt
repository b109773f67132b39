use Rattle.std.proofs.Common.{Err, refl, ap, ◌∙◌, arith}
use Rattle.std.proofs.lemmas.Result.{err_from_is_err_and}
use Rattle.mls_tech.specs.Readings.{scope_of}
use Rattle.mls_tech.proofs.ListReading.{read_from-is_bits_in}
use Rattle.mls_tech.proofs.ReaderLemmas.{at_token, at_bad, at_end, opening_tokens-tokens_of, step_room}
use Rattle.mls_tech.proofs.list_reader.ListReader.read.Goals as goal

pub loop-token-init : goal.loop-token-init
loop-token-init c =
    let word = c.args.word.now in
    let scope = scope_of c.args.tech.now in
    rw (c.into_iter-token-iterator.ensures.into_iter_gives, c.new-token-items.ensures, c.restart.ensures)
    (record {
      reads = read_from-is_bits_in scope c.args.self.now.room word;
      fits = omega (arith, opening_tokens-tokens_of word, c.requires.fits);
      room = refl;
    })

pub loop-token-preserved : goal.loop-token-preserved
loop-token-preserved c =
    let fits = rw c.in-Some.ensures.steps at c.loop-token.invariant.fits in
    let room = step_room (scope_of c.args.tech.now) _ _ _ _ c.in_ok-take.ensures fits in
    record {
      reads = at_token _ _ c.loop-token.invariant.reads c.in-Some.ensures.steps c.in_ok-take.ensures;
      fits = room.1;
      room = room.0 ∙ c.loop-token.invariant.room;
    }

pub returns-in_err-take-clause-value : goal.returns-in_err-take-clause-value
returns-in_err-take-clause-value c =
    let fault = err_from_is_err_and c.from_residual.result c.from_residual.ensures.1 in
    at_bad _ _ c.loop-token.invariant.reads c.in-Some.ensures.steps c.in_err-take.ensures (fault.1 ∙ ap Err fault.2)

pub returns-clause-value : goal.returns-clause-value
returns-clause-value c = at_end _ _ c.loop-token.invariant.reads c.in-None.ensures.steps.0 c.finish.ensures
