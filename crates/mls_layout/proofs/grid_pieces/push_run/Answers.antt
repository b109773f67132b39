use Rattle.std.proofs.Common.{List, subst, sym}
use Rattle.mls_geom.specs.declared.piece.Piece.{Piece}
use Rattle.mls_layout.specs.Grids.{GainArea, Raises}
use Rattle.mls_layout.proofs.Covers.{gain-push, gain-raise, gain-when_ok}
use Rattle.mls_layout.proofs.grid_pieces.push_run.Goals as goal

pub returns-in-Some-raised_at : goal.returns-in-Some-raised_at
returns-in-Some-raised_at c =
    let taller = c.in-Some-raised_at.taller in
    let index = c.in-Some.index in
    let run = c.args.run.now in
    let raises = subst (λ (pieces : List Piece). Raises pieces c.args.first index run taller) c.deref-in-Some.ensures.value c.in-Some-raised_at.ensures in
    gain-when_ok c.push.result c.args.first run c.args.out.now.items _
    (λ block picture legal shown. gain-raise block picture c.args.first c.args.out.now.items run taller index raises legal shown)

pub returns : goal.returns
returns c block picture legal shown =
    subst (GainArea block picture c.args.first c.args.run.now.rect c.args.out.now.items) (sym c.in_ok-push-2.ensures.items)
    (gain-push block picture c.args.first c.args.out.now.items c.args.run.now c.requires legal shown)
