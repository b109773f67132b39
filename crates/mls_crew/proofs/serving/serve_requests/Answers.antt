use Rattle.std.proofs.Common.{◌++◌, ℕ, List, [], append_assoc, append-nil, refl, sym, ap, ◌∙◌}
use Rattle.mls_seat_lines.specs.mls_live.Lists.{list_of}
use Rattle.mls_seat_lines.specs.SymbolTables.{book_in}
use Rattle.mls_crew.proofs.RequestLists.{serves_mine, serves_other}
use Rattle.mls_crew.proofs.serving.serve_requests.Goals.{then-handed-part+in_ok-serve_request, else-handed-part}
use Rattle.mls_crew.proofs.serving.serve_requests.Goals as goal

pub loop-handed-init : goal.loop-handed-init
loop-handed-init g c = ([], (refl, refl), sym (append-nil _))

pub loop-handed-preserved : goal.loop-handed-preserved
loop-handed-preserved g c =
    let (out, ran, is) = c.loop-handed.invariant in
    let terms = g.N.Naming.terms in
    let book = book_in c.args.part.now.symbols.now in
    let name = c.args.name.now in
    let session = c.args.part.now.session in
    let lines = c.handed-lines.result.now in
    let index = c.loop-handed.handed-index in
    let handed = c.handed-item.result in
    let first = list_of c.args.seat.now in
    let mid = list_of c.loop-handed.seat in
    elim c.if-handed-part.branch [
      | then-handed-part+in_ok-serve_request w ↦
          let (text, serves, appended) = w.in_ok-serve_request.ensures in
          rw (w.seat-is, w.out-is) (
            out ++ text,
            serves_mine terms book name session lines index handed c.loop-handed-test.true c.handed-item.is first mid (list_of w.serve_request.new.seat) out text w.if-handed-part.true ran serves,
            appended.text ∙ ap (λ (o : List ℕ). o ++ text) is ∙ append_assoc c.args.out.now.items out text,
          )
      | else-handed-part w ↦
          rw (w.seat-is, w.out-is) (
            out,
            serves_other terms book name session lines index handed c.loop-handed-test.true c.handed-item.is first mid out w.if-handed-part.false ran,
            is,
          )
    ]
