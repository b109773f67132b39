use Rattle.mls_magicd.specs.Messages.{skipped_message}
use Rattle.mls_magicd.proofs.MessageLemmas.{ReportsAll-nil, ReportsAll-more, map-more}
use Rattle.mls_magicd.proofs.messages.report_skipped.Goals as goal

pub loop-line-init : goal.loop-line-init
loop-line-init g c = ReportsAll-nil g.E.Write.contents c.args.faults.now

pub loop-line-preserved : goal.loop-line-preserved
loop-line-preserved g c =
    rw (map-more skipped_message c.args.skipped.now c.loop-line.line-index c.line-item.result c.loop-line-test.true c.line-item.is)
    (ReportsAll-more g.E.Write.contents c.args.faults.now c.loop-line.faults c.report_skipped_line.new.faults _ (skipped_message c.line-item.result)
    c.loop-line.invariant c.report_skipped_line.ensures)
