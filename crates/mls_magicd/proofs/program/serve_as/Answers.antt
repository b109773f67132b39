use Rattle.std.proofs.Common.{◌∙◌, sym}
use Rattle.mls_magicd.specs.Programs.{FailsAs, ServesAs}
use Rattle.mls_magicd.specs.declared.options.Mode.TheVariants.{Alone, Batch, Stream}
use Rattle.mls_magicd.proofs.Ends.{fails-begun, serves-begun}
use Rattle.mls_magicd.proofs.program.serve_as.Goals as goal

pub returns-in_ok-server-in-Alone-clause-ok : goal.returns-in_ok-server-in-Alone-clause-ok
returns-in_ok-server-in-Alone-clause-ok g c = rw (sym c.mode.ensures ∙ c.in-Alone.is)
    (serves-begun (g.F.Files.reads_as c.args.files.now) c.args.options.now g.E.Write.contents c.args.devices.now.faults c.start_alone.new.faults c.serve_script.new.devices.faults _
    c.in_ok-server-in-Alone.ensures.ok c.serve_script.ensures.faults
    (λ on. ServesAs Alone on (g.R.Read.remaining c.args.devices.now.input.device) (g.W.Write.contents c.args.devices.now.output.device) (g.W.Write.contents c.serve_script.new.devices.output.device))
    c.serve_script.result c.serve_script.ensures.ok)

pub returns-in_ok-server-in-Alone-clause-err : goal.returns-in_ok-server-in-Alone-clause-err
returns-in_ok-server-in-Alone-clause-err g c = rw (sym c.mode.ensures ∙ c.in-Alone.is)
    (fails-begun (g.F.Files.reads_as c.args.files.now) c.args.options.now g.E.Write.contents c.args.devices.now.faults c.start_alone.new.faults c.serve_script.new.devices.faults _
    c.in_ok-server-in-Alone.ensures.ok c.serve_script.ensures.faults _
    (λ on fault. FailsAs Alone on g.R.Read.remaining g.W.Write.contents c.args.devices.now.input c.serve_script.new.devices.input c.args.devices.now.output c.serve_script.new.devices.output fault)
    c.serve_script.result c.serve_script.ensures.err)

pub returns-in_ok-batch-in-Batch-clause-ok : goal.returns-in_ok-batch-in-Batch-clause-ok
returns-in_ok-batch-in-Batch-clause-ok g c = rw (sym c.mode.ensures ∙ c.in-Batch.is)
    (serves-begun (g.F.Files.reads_as c.args.files.now) c.args.options.now g.E.Write.contents c.args.devices.now.faults c.start_batch.new.faults c.serve_batch.new.devices.faults _
    c.in_ok-batch-in-Batch.ensures.ok c.serve_batch.ensures.faults
    (λ on. ServesAs Batch on (g.R.Read.remaining c.args.devices.now.input.device) (g.W.Write.contents c.args.devices.now.output.device) (g.W.Write.contents c.serve_batch.new.devices.output.device))
    c.serve_batch.result c.serve_batch.ensures.ok)

pub returns-in_ok-batch-in-Batch-clause-err : goal.returns-in_ok-batch-in-Batch-clause-err
returns-in_ok-batch-in-Batch-clause-err g c = rw (sym c.mode.ensures ∙ c.in-Batch.is)
    (fails-begun (g.F.Files.reads_as c.args.files.now) c.args.options.now g.E.Write.contents c.args.devices.now.faults c.start_batch.new.faults c.serve_batch.new.devices.faults _
    c.in_ok-batch-in-Batch.ensures.ok c.serve_batch.ensures.faults _
    (λ on fault. FailsAs Batch on g.R.Read.remaining g.W.Write.contents c.args.devices.now.input c.serve_batch.new.devices.input c.args.devices.now.output c.serve_batch.new.devices.output fault)
    c.serve_batch.result c.serve_batch.ensures.err)

pub returns-in_ok-stream-in-Stream-clause-ok : goal.returns-in_ok-stream-in-Stream-clause-ok
returns-in_ok-stream-in-Stream-clause-ok g c = rw (sym c.mode.ensures ∙ c.in-Stream.is)
    (serves-begun (g.F.Files.reads_as c.args.files.now) c.args.options.now g.E.Write.contents c.args.devices.now.faults c.start_stream.new.faults c.serve_stream.new.devices.faults _
    c.in_ok-stream-in-Stream.ensures.ok c.serve_stream.ensures.faults
    (λ on. ServesAs Stream on (g.R.Read.remaining c.args.devices.now.input.device) (g.W.Write.contents c.args.devices.now.output.device) (g.W.Write.contents c.serve_stream.new.devices.output.device))
    c.serve_stream.result c.serve_stream.ensures.ok)

pub returns-in_ok-stream-in-Stream-clause-err : goal.returns-in_ok-stream-in-Stream-clause-err
returns-in_ok-stream-in-Stream-clause-err g c = rw (sym c.mode.ensures ∙ c.in-Stream.is)
    (fails-begun (g.F.Files.reads_as c.args.files.now) c.args.options.now g.E.Write.contents c.args.devices.now.faults c.start_stream.new.faults c.serve_stream.new.devices.faults _
    c.in_ok-stream-in-Stream.ensures.ok c.serve_stream.ensures.faults _
    (λ on fault. FailsAs Stream on g.R.Read.remaining g.W.Write.contents c.args.devices.now.input c.serve_stream.new.devices.input c.args.devices.now.output c.serve_stream.new.devices.output fault)
    c.serve_stream.result c.serve_stream.ensures.err)
