-- Each turn adds the types of one plane more.
use Rattle.std.proofs.Common.{◌≡◌, length, refl, sym, ap, ◌∙◌, arith}
use Rattle.mls_session.proofs.Common.{Picture, flat_layout, kinds_in, types_in, union}
use Rattle.mls_session.proofs.BoxTypes.{types_none, types_more}
use Rattle.mls_session.proofs.FlatDesigns.{HasFlatPlane-lent, flat_plane-lent}
use Rattle.mls_session.proofs.design.painting.types_in.Goals as goal

pub loop-number-init : goal.loop-number-init
loop-number-init c = record {
  pool = refl;
  found = c.empty-found.ensures ∙ sym (types_none (flat_layout c.args.workspace.now.pool c.args.uses.now c.args.planes.now) c.args.rect);
}

pub kinds-requires : goal.kinds-requires
kinds-requires c =
    record { flat = HasFlatPlane-lent c.args.workspace.now.pool c.loop-number.workspace.pool c.args.uses.now c.args.planes.now c.loop-number.number c.index-planes-number.result c.loop-number.invariant.pool (omega arith) c.index-planes-number.is c.requires.planes c.requires.planes_fit c.requires.cells }

pub loop-number-preserved : goal.loop-number-preserved
loop-number-preserved c =
    let layout = flat_layout c.args.workspace.now.pool c.args.uses.now c.args.planes.now in
    let shown = flat_plane-lent c.args.workspace.now.pool c.loop-number.workspace.pool c.args.uses.now c.args.planes.now c.loop-number.number c.index-planes-number.result c.loop-number.invariant.pool (omega arith) c.index-planes-number.is in
    record {
      pool = c.kinds.ensures.pool ∙ c.loop-number.invariant.pool;
      found =
          c.union-found.ensures
          ∙ ap (λ more. union c.loop-number.found more) (c.in_ok-more.ensures.kinds ∙ ap (λ (p : Picture). kinds_in p c.args.rect) shown)
          ∙ ap (λ found. union found (kinds_in (layout c.loop-number.number) c.args.rect)) c.loop-number.invariant.found
          ∙ sym (types_more layout c.args.rect c.loop-number.number);
    }

pub returns-clause-value : goal.returns-clause-value
returns-clause-value c =
    let owners = c.args.planes.now in
    let all : c.loop-number.number ≡ length owners = omega arith in
    c.loop-number.invariant.found ∙ ap (λ n. types_in n (flat_layout c.args.workspace.now.pool c.args.uses.now owners) c.args.rect) all
