-- Each turn lists one plane more.
use Rattle.std.proofs.Common.{◌<◌, length, ap, ◌∙◌, arith}
use Rattle.mls_session.specs.Common.{flat_layout, flat_plane, strips_of, tile_count, world}
use Rattle.mls_session.proofs.FlatDesigns.{HasFlatPlane-lent, flat_plane-lent}
use Rattle.mls_session.proofs.ListedLayers.{ListsPlanes-push, exceeds_tiles-at, exceeds_tiles-more, too_many-on}
use Rattle.mls_session.proofs.layers.list_layers.Goals as goal

pub flat_strips-requires : goal.flat_strips-requires
flat_strips-requires c =
    record { flat = HasFlatPlane-lent c.args.workspace.now.pool c.loop-number.workspace.pool c.args.uses.now c.args.planes.now c.loop-number.number c.index-planes-number.result c.loop-number.invariant.pool (omega arith) c.index-planes-number.is c.requires.planes c.requires.planes_fit c.requires.cells }

pub loop-number-preserved : goal.loop-number-preserved
loop-number-preserved c =
    let turn = c.loop-number in
    let layout = flat_layout c.args.workspace.now.pool c.args.uses.now c.args.planes.now in
    let picture = flat_plane turn.workspace.pool c.args.uses.now turn.number c.index-planes-number.result in
    let shown = flat_plane-lent c.args.workspace.now.pool c.loop-number.workspace.pool c.args.uses.now c.args.planes.now c.loop-number.number c.index-planes-number.result c.loop-number.invariant.pool (omega arith) c.index-planes-number.is in
    record {
      pool = c.flat_strips.ensures.pool ∙ turn.invariant.pool;
      listed = ListsPlanes-push layout turn.layers.items c.push_reserved.new.self.items turn.number c.in_ok-strips.strips turn.invariant.listed c.push_reserved.ensures.items
          (c.in_ok-strips.ensures.strips ∙ ap (strips_of world) shown);
      count = omega (arith, c.push_reserved.ensures.len, turn.invariant.count);
      few = exceeds_tiles-more c.args.limit turn.number layout picture shown c.in_ok-strips.ensures.within turn.invariant.few;
      reserved = c.push_reserved.ensures.capacity ∙ turn.invariant.reserved;
    }

pub returns-in_err-strips-clause-too_many : goal.returns-in_err-strips-clause-too_many
returns-in_err-strips-clause-too_many c =
    let turn = c.loop-number in
    let owners = c.args.planes.now in
    let layout = flat_layout c.args.workspace.now.pool c.args.uses.now owners in
    let picture = flat_plane turn.workspace.pool c.args.uses.now turn.number c.index-planes-number.result in
    let shown = flat_plane-lent c.args.workspace.now.pool c.loop-number.workspace.pool c.args.uses.now c.args.planes.now c.loop-number.number c.index-planes-number.result c.loop-number.invariant.pool (omega arith) c.index-planes-number.is in
    too_many-on c.from_residual-in_err-strips.result c.in_err-strips.field-0.0 (c.args.limit < tile_count world picture) _ c.from_residual-in_err-strips.ensures.1
    (exceeds_tiles-at c.args.limit (length owners) turn.number layout picture (omega arith) shown) c.in_err-strips.ensures.too_many
