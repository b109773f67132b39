use Rattle.mls_layout.proofs.FoundTiles.{ShowMoved-found, moved-nowhere}
use Rattle.mls_layout.proofs.used_tiles.find_moved.Goals as goal

pub returns-in_default-clause-nowhere : goal.returns-in_default-clause-nowhere
returns-in_default-clause-nowhere c = λ no x y inside.
    moved-nowhere c.args.workspace.now.pool c.args.plane.now c.requires.frozen.strips.plane c.args.cell_use.now.dx c.args.cell_use.now.dy c.args.rect c.in_default.ensures x y inside

pub returns-clause-found : goal.returns-clause-found
returns-clause-found c = λ yes.
    ShowMoved-found c.args.workspace.now.pool c.args.plane.now c.requires.frozen.strips.plane c.args.cell_use.now.dx c.args.cell_use.now.dy c.args.rect c.in-Some.area
    c.find_meeting.new.scratch.tiles c.in-Some.ensures c.find_meeting.ensures.found
