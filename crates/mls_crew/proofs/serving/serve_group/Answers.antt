use Rattle.std.proofs.Common.{◌++◌, ℕ, List, sym, ap, subst, ◌∙◌}
use Rattle.mls_seat_lines.specs.mls_live.Lists.{list_of}
use Rattle.mls_seat_lines.specs.mls_server.LegalLists.{IsLegalList}
use Rattle.mls_seat_lines.specs.mls_session.declared.journal.Said.{Said}
use Rattle.mls_seat_lines.specs.mls_wire.Replies.{response_text}
use Rattle.mls_seat_lines.specs.SymbolTables.{book_in}
use Rattle.mls_crew.specs.Groups.{ServesRequests, requests_handed}
use Rattle.mls_crew.proofs.RequestLists.{none_yet}
use Rattle.mls_seat_lines.proofs.Results.{ok_holds}
use Rattle.mls_crew.proofs.serving.serve_group.Goals as goal

pub returns : goal.returns
unfolding response_text
returns g c =
    let (more, ran, added) = c.in_ok-serve_requests.ensures in
    let terms = g.N.Naming.terms in
    let book = book_in c.args.part.now.symbols.now in
    let lines = requests_handed c.args.part.now.session c.args.part.now.sorting.now.handed in
    let last = list_of c.serve_requests.new.seat in
    let said = subst (λ (said : List Said). ServesRequests terms book c.args.name.now said lines more last) (none_yet (list_of c.args.seat.now) c.requires) ran in
    let opened = rw c.new-text.ensures.items at c.in_ok-push_response.ensures.text in (
      c.id.result,
      last,
      more,
      said,
      added ∙ ap (λ (o : List ℕ). o ++ more) opened,
      λ yes. ok_holds c.audit.result (IsLegalList terms last) (sym c.is_ok-audited.ensures.value ∙ yes) c.audit.ensures.legal,
    )
