use Rattle.std.proofs.Common.{◌≡◌, ◌++◌, ◌∷◌, [], Err, None, inl, inr, refl, sym, ◌∙◌}
use Rattle.mls_seat_lines.specs.mls_server.declared.answer.Answer.TheVariants.{Opened}
use Rattle.mls_seat_lines.specs.mls_server.declared.fault.OpenFault.TheVariants.{OpenAlready}
use Rattle.mls_seat_lines.proofs.mls_wire.Results.{on_ok-map}
use Rattle.mls_seat_lines.specs.mls_wire.Replies.{response_text}
use Rattle.mls_seat_lines.specs.mls_wire.declared.response.Response.TheVariants.{Answered}
use Rattle.mls_seat_lines.specs.SymbolTables.{book_in}
use Rattle.mls_crew.specs.Sorting.{Sorted, at_once, number_of_session}
use Rattle.mls_crew.proofs.SortedLines.{none_named, opened_after}
use Rattle.mls_crew.proofs.sorting.Sorting.open.Goals as goal

pub returns-then-is_some-clause-opens : goal.returns-then-is_some-clause-opens
returns-then-is_some-clause-opens g c =
    let text = response_text (book_in c.args.opener.now.symbols.now) c.args.n (Answered c.args.name.now (Opened (Err OpenAlready))) in
    on_ok-map c.answer_opening.result _ _ (λ is. (at_once c.args.self.now.opened text, inr (OpenAlready, inr refl, refl), is)) c.answer_opening.ensures

pub returns-in-Err-clause-opens : goal.returns-in-Err-clause-opens
returns-in-Err-clause-opens g c =
    let text = response_text (book_in c.args.opener.now.symbols.now) c.args.n (Answered c.args.name.now (Opened (Err c.in-Err.fault))) in
    let free : number_of_session c.args.self.now.opened c.args.name.now ≡ None = sym c.session.ensures ∙ none_named c.session.result (sym c.is_some.ensures ∙ c.if-is_some.false) in
    on_ok-map c.answer_opening-in-Err.result _ _ (λ is. (at_once c.args.self.now.opened text, inr (c.in-Err.fault, inl free, refl), is)) c.answer_opening-in-Err.ensures

pub returns-in_ok-push-in-Ok-2-clause-opens : goal.returns-in_ok-push-in-Ok-2-clause-opens
returns-in_ok-push-in-Ok-2-clause-opens g c =
    let free : number_of_session c.args.self.now.opened c.args.name.now ≡ None = sym c.session.ensures ∙ none_named c.session.result (sym c.is_some.ensures ∙ c.if-is_some.false) in
    let named : Sorted = record { head = []; handed = []; opened = c.args.self.now.opened ++ c.args.name.now ∷ [] } in (
      named,
      inl (free, refl),
      opened_after c.args.self.now c.self.inside.head.items c.self.inside.handed.items c.self.inside.names.items c.push-in-Ok.new.self.items c.args.name.now
          c.self.view_is c.in_ok-push-in-Ok-2.ensures.items,
    )
