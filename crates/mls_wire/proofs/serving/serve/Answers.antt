use Rattle.std.proofs.Common.{◌≤◌, ◌<◌, length, subst, arith, ◌∙◌}
use Rattle.std.specs.List.{All}
use Rattle.std.proofs.lemmas.List.Elements.{All-weaker}
use Rattle.std.proofs.lemmas.Result.{on_ok_weaker}
use Rattle.mls_server.specs.Servers.{world_of}
use Rattle.mls_tech.specs.Readings.{HasNames, Tech}
use Rattle.mls_wire.proofs.WorldNames.{journals-read-back}
use Rattle.mls_wire.proofs.ServingLemmas.{served_all, failed_within, line_done, last_done, line_cut, last_cut}
use Rattle.mls_wire.specs.ReadBack.{JournalsReadBack}
use Rattle.mls_wire.proofs.serving.serve.Given as given
use Rattle.mls_wire.proofs.serving.serve.Goals as goal
use Rattle.mls_wire.proofs.serving.serve.Goals.{After-types}

pub returns-in_err-next_line-clause-cut : goal.returns-in_err-next_line-clause-cut
returns-in_err-next_line-clause-cut g c =
    failed_within c.from_residual.result _ (world_of c.lines.server) c.lines.n _ _ _ _ _ c.from_residual.ensures c.lines.invariant.served c.in_err-next_line.ensures.begun

pub returns-in-End-clause-run : goal.returns-in-End-clause-run
returns-in-End-clause-run g c =
    served_all _ (world_of c.lines.server) c.lines.n _ _ _ _ _ _ c.lines.invariant.served (rw c.in-End.is at c.in_ok-next_line.ensures.taken)

pub returns-in-LastLine-clause-run : goal.returns-in-LastLine-clause-run
returns-in-LastLine-clause-run g c =
    last_done _ (world_of c.lines.server) (world_of c.serve_line.new.server) c.lines.n _ _ c.line.ensures
    _ _ _ _ _ c.lines.invariant.served c.serve_line.result _ (rw c.in-LastLine.is at c.in_ok-next_line.ensures.taken) c.serve_line.ensures.done

pub returns-in-End-clause-sound : goal.returns-in-End-clause-sound
returns-in-End-clause-sound g c = (c.in_ok-next_line.ensures.called.failed ∙ c.lines.invariant.input_sound, c.lines.invariant.output_sound)

pub returns-in-LastLine-clause-sound : goal.returns-in-LastLine-clause-sound
returns-in-LastLine-clause-sound g c =
    on_ok_weaker c.serve_line.result
    (λ same. (c.in_ok-next_line.ensures.called.failed ∙ c.lines.invariant.input_sound, same ∙ c.lines.invariant.output_sound))
    c.serve_line.ensures.failed

pub returns-in-LastLine-clause-cut : goal.returns-in-LastLine-clause-cut
returns-in-LastLine-clause-cut g c =
    last_cut _ (world_of c.lines.server) (world_of c.serve_line.new.server) c.lines.n _ _ c.line.ensures
    _ _ _ _ _ c.lines.invariant.served _ _ c.in_ok-next_line.ensures.within c.serve_line.result (rw c.in-LastLine.is at c.in_ok-next_line.ensures.taken) c.serve_line.ensures.kind c.serve_line.ensures.cut

pub returns-in_err-serve_line-in-Line-clause-cut : goal.returns-in_err-serve_line-in-Line-clause-cut
returns-in_err-serve_line-in-Line-clause-cut g c =
    let cut = c.in_err-serve_line-in-Line.ensures in
    line_cut _ (world_of c.lines.server) (world_of c.serve_line-in-Line.new.server) c.lines.n _ _ c.line-in-Line.ensures
    _ _ _ _ _ c.lines.invariant.served _ _ c.in_ok-next_line.ensures.within c.from_residual-in_err-serve_line-in-Line.result c.in_err-serve_line-in-Line.field-0.0
    c.from_residual-in_err-serve_line-in-Line.ensures cut.kind (rw c.in-Line.is at c.in_ok-next_line.ensures.taken) cut.cut

pub lines-preserved : goal.lines-preserved
lines-preserved g c = record {
  served = line_done _ (world_of c.lines.server) (world_of c.serve_line-in-Line.new.server) c.lines.n _ _ c.line-in-Line.ensures
      _ _ _ _ _ c.lines.invariant.served _ (rw c.in-Line.is at c.in_ok-next_line.ensures.taken) c.in_ok-serve_line-in-Line.ensures.done;
  marks_right = c.serve_line-in-Line.ensures.marks_right;
  marks_exact = c.serve_line-in-Line.ensures.marks_exact;
  setting = c.serve_line-in-Line.ensures.setting ∙ c.lines.invariant.setting;
  input_sound = c.in_ok-next_line.ensures.called.failed ∙ c.lines.invariant.input_sound;
  output_sound = c.in_ok-serve_line-in-Line.ensures.failed ∙ c.lines.invariant.output_sound;
  numbered = omega (arith, c.in_ok-next_line.ensures.fewer);
}

read_back : (g : given.Over) (c : After-types g) → JournalsReadBack (world_of c.args.server.now).setting
read_back g c =
    let setting = (world_of c.args.server.now).setting in
    let tech = c.tech.result.now in
    let few = All-weaker (λ entry. entry.1 ≤ length tech.type_planes) (λ entry. entry.1 < 64) (λ entry within. omega (arith, within, c.types.ensures.value, c.types.ensures.limit)) tech.types c.types.ensures.within in
    let has = subst (λ (t : Tech). HasNames t.types t.type_planes) c.tech.ensures.value c.types.ensures.named in
    let small = subst (λ (t : Tech). All (λ entry. entry.1 < 64) t.types) c.tech.ensures.value few in
    journals-read-back setting has small

pub returns-in_err-next_line-clause-reads_back : goal.returns-in_err-next_line-clause-reads_back
returns-in_err-next_line-clause-reads_back g c = read_back g (goal.at.returns-in_err-next_line-clause-reads_back g c).After-types

pub returns-in-End-clause-reads_back : goal.returns-in-End-clause-reads_back
returns-in-End-clause-reads_back g c = read_back g (goal.at.returns-in-End-clause-reads_back g c).After-types

pub returns-in-LastLine-clause-reads_back : goal.returns-in-LastLine-clause-reads_back
returns-in-LastLine-clause-reads_back g c = read_back g (goal.at.returns-in-LastLine-clause-reads_back g c).After-types

pub returns-in_err-serve_line-in-Line-clause-reads_back : goal.returns-in_err-serve_line-in-Line-clause-reads_back
returns-in_err-serve_line-in-Line-clause-reads_back g c = read_back g (goal.at.returns-in_err-serve_line-in-Line-clause-reads_back g c).After-types
