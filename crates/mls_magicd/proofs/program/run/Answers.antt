use Rattle.std.proofs.Common.{◌∙◌, inl, map, refl, subst, sym}
use Rattle.mls_magicd.specs.Programs.{FailsAtStart}
use Rattle.mls_magicd.specs.declared.fault.Fault.{Fault}
use Rattle.mls_magicd.proofs.Refusals.{refused-words}
use Rattle.mls_magicd.proofs.Modes.{asked_alone, asked_batch, asked_stream}
use Rattle.mls_magicd.proofs.program.run.Goals as goal

pub returns-in-Err-clause-refused : goal.returns-in-Err-clause-refused
returns-in-Err-clause-refused g c is =
    let reads_as = g.F.Files.reads_as c.args.files.now in
    let may_fail = g.F.Files.may_fail c.args.files.now in
    let words = map g.S.AsStr.text c.args.words.now in
    let faults = c.args.devices.now.faults in
    let start = subst (λ (f : Fault). FailsAtStart reads_as may_fail words g.E.Write.contents faults faults f) (sym c.into.ensures) (c.in-Err.ensures, refl) in (
      refused-words reads_as may_fail words g.E.Write.contents faults faults c.fail.new.faults c.into.result (sym c.fail.ensures.status ∙ is) start c.fail.ensures.reported,
      refl,
      refl,
    )

pub returns-in-Err-clause-failed : goal.returns-in-Err-clause-failed
returns-in-Err-clause-failed g c no_live zero is =
    let faults = c.args.devices.now.faults in
    let start = subst (λ (f : Fault). FailsAtStart (g.F.Files.reads_as c.args.files.now) (g.F.Files.may_fail c.args.files.now) (map g.S.AsStr.text c.args.words.now)
    g.E.Write.contents faults faults f) (sym c.into.ensures) (c.in-Err.ensures, refl) in
    inl ((c.into.result, faults, sym c.fail.ensures.status ∙ is, start, c.fail.ensures.reported), refl, refl)

pub returns-in-Err-clause-failed_in_batch : goal.returns-in-Err-clause-failed_in_batch
returns-in-Err-clause-failed_in_batch g c no_live workers named some is =
    let faults = c.args.devices.now.faults in
    let start = subst (λ (f : Fault). FailsAtStart (g.F.Files.reads_as c.args.files.now) (g.F.Files.may_fail c.args.files.now) (map g.S.AsStr.text c.args.words.now)
    g.E.Write.contents faults faults f) (sym c.into.ensures) (c.in-Err.ensures, refl) in
    inl ((c.into.result, faults, sym c.fail.ensures.status ∙ is, start, c.fail.ensures.reported), refl, refl)

pub returns-in-Err-clause-failed_in_stream : goal.returns-in-Err-clause-failed_in_stream
returns-in-Err-clause-failed_in_stream g c asks is =
    let faults = c.args.devices.now.faults in
    let start = subst (λ (f : Fault). FailsAtStart (g.F.Files.reads_as c.args.files.now) (g.F.Files.may_fail c.args.files.now) (map g.S.AsStr.text c.args.words.now)
    g.E.Write.contents faults faults f) (sym c.into.ensures) (c.in-Err.ensures, refl) in
    inl ((c.into.result, faults, sym c.fail.ensures.status ∙ is, start, c.fail.ensures.reported), refl, refl)

pub returns-clause-served : goal.returns-clause-served
returns-clause-served g c no_live zero is =
    rw (asked_alone (map g.S.AsStr.text c.args.words.now) c.in-Ok.options c.in-Ok.ensures no_live zero) at (c.run_as.ensures.served (map g.S.AsStr.text c.args.words.now) c.in-Ok.ensures is)

pub returns-clause-failed : goal.returns-clause-failed
returns-clause-failed g c no_live zero is =
    rw (asked_alone (map g.S.AsStr.text c.args.words.now) c.in-Ok.options c.in-Ok.ensures no_live zero) at (c.run_as.ensures.failed (map g.S.AsStr.text c.args.words.now) c.in-Ok.ensures is)

pub returns-clause-served_in_batch : goal.returns-clause-served_in_batch
returns-clause-served_in_batch g c no_live workers named some is =
    rw (asked_batch (map g.S.AsStr.text c.args.words.now) c.in-Ok.options workers c.in-Ok.ensures no_live named some) at (c.run_as.ensures.served (map g.S.AsStr.text c.args.words.now) c.in-Ok.ensures is)

pub returns-clause-failed_in_batch : goal.returns-clause-failed_in_batch
returns-clause-failed_in_batch g c no_live workers named some is =
    rw (asked_batch (map g.S.AsStr.text c.args.words.now) c.in-Ok.options workers c.in-Ok.ensures no_live named some) at (c.run_as.ensures.failed (map g.S.AsStr.text c.args.words.now) c.in-Ok.ensures is)

pub returns-clause-served_in_stream : goal.returns-clause-served_in_stream
returns-clause-served_in_stream g c asks is =
    rw (asked_stream (map g.S.AsStr.text c.args.words.now) c.in-Ok.options c.in-Ok.ensures asks) at (c.run_as.ensures.served (map g.S.AsStr.text c.args.words.now) c.in-Ok.ensures is)

pub returns-clause-failed_in_stream : goal.returns-clause-failed_in_stream
returns-clause-failed_in_stream g c asks is =
    rw (asked_stream (map g.S.AsStr.text c.args.words.now) c.in-Ok.options c.in-Ok.ensures asks) at (c.run_as.ensures.failed (map g.S.AsStr.text c.args.words.now) c.in-Ok.ensures is)
