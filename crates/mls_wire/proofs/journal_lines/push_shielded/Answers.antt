use Rattle.std.proofs.Common.{arith, vec_capacity, vec_len}
use Rattle.std.proofs.lemmas.Result.{IfOk-from_err}
use Rattle.mls_wire.specs.JournalLines.{command_words}
use Rattle.mls_server.specs.mls_library.SavedCells.{spaced}
use Rattle.mls_wire.proofs.Results.{on_err}
use Rattle.mls_wire.proofs.ShieldedLines.{lacks-shielded, on_err-shielded, on_ok-shielded}
use Rattle.mls_wire.proofs.journal_lines.push_shielded.Goals as goal

pub returns-in_err-push_said : goal.returns-in_err-push_said
returns-in_err-push_said g c =
    let words = spaced (command_words (g.N.Names.book c.args.names.now) c.args.command.now) in
    let said = c.in_err-push_said.ensures in
    record {
      text = IfOk-from_err c.from_residual.result _ c.from_residual.ensures.0;
      room = on_err c.from_residual.result _ (lacks-shielded (vec_capacity c.args.out.now) (vec_len c.args.out.now) 32 words said.room);
      capacity = said.capacity;
    }

pub returns : goal.returns
returns g c =
    let words = spaced (command_words (g.N.Names.book c.args.names.now) c.args.command.now) in
    let said = c.in_ok-push_said.ensures in
    let result = c.push_shield.result in
    let out = c.args.out.now in
    let middle = c.push_said.new.out in
    record {
      text = on_ok-shielded result out.items middle.items 32 words said.text c.push_shield.new.out.items c.push_shield.ensures.text;
      room = on_err-shielded result out.items middle.items 32 words said.text (vec_capacity out) (vec_capacity middle) (vec_len out) out.ok.0 said.capacity c.push_shield.ensures.room;
      capacity = omega (arith, said.capacity, c.push_shield.ensures.capacity);
    }
