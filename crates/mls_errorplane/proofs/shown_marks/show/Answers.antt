use Rattle.mls_checker.specs.Marking.{marks}
use Rattle.mls_errorplane.proofs.ShownMarks.{ShowsSet-settled}
use Rattle.mls_errorplane.proofs.shown_marks.show.Goals as goal

pub returns : goal.returns
returns c = λ room.
    ShowsSet-settled c.args.tiles.now c.args.found.now.rect (marks c.args.found.now) c.requires (c.are_settled.ensures c.if-not-are_settled.false) (c.have_room.ensures room)
