use Rattle.std.proofs.Common.{sym, ◌∙◌}
use Rattle.mls_seat_lines.specs.mls_live.Lists.{list_of}
use Rattle.mls_seat_lines.specs.mls_server.LegalLists.{IsLegalList}
use Rattle.mls_seat_lines.proofs.Results.{ok_holds}
use Rattle.mls_lines.proofs.AnswerLemmas.{appends_as}
use Rattle.mls_lines.proofs.answering.Clerk.leave.Goals as goal

pub returns : goal.returns
returns g c = (
  c.is_ok-audited.result,
  λ yes. ok_holds c.audit.result (IsLegalList g.N.Naming.terms (list_of c.args.sitting.seat)) (sym c.is_ok-audited.ensures.value ∙ yes) c.audit.ensures.legal,
  c.done.ensures.known,
  appends_as c.push_answer.result c.done.result _ _ _ c.done.ensures.same c.push_answer.ensures,
)
