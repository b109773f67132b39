-- Each piece is laid under the key beside it.
use Rattle.std.proofs.Common.{◌≡◌, ◌+◌, length, take, refl, sym, ◌∙◌, arith}
use Rattle.mls_stitch.proofs.Common.{length_push, take_all}
use Rattle.std.proofs.lemmas.Slice.Zip.{zip_end, zip_turn}
use Rattle.mls_stitch.proofs.Laying.{GiveWay-next, GiveWay-set, Lays-next, Lays-refl}
use Rattle.mls_stitch.proofs.PoolChanges.{ChangesOnly-one, ChangesOnly-refl, ChangesOnly-trans}
use Rattle.mls_stitch.proofs.place.place_again.Goals as goal

pub loop-id-init : goal.loop-id-init
loop-id-init c = record { laid = Lays-refl _ _; only = ChangesOnly-refl _ _; len = omega arith; room = refl }

pub unwrap-tile-requires : goal.unwrap-tile-requires
unwrap-tile-requires c =
    let turn = zip_turn c.args.ids.now c.args.pieces.now c.loop-id.yielded c.into_iter-id-iterator.result c.loop-id.id-iterator c.next.new.self c.next.result (cc) (cc) c.loop-id.yielded_by (c.in-Some.id, c.in-Some.piece) c.in-Some.is c.next.ensures.steps in
    rw c.get.ensures (GiveWay-next c.args.ids.now (length c.loop-id.yielded) c.in-Some.id.now turn.0 (turn.2 _) c.requires.once c.requires.there c.loop-id.invariant.laid.ways).2

pub loop-id-preserved : goal.loop-id-preserved
loop-id-preserved c =
    let turn = zip_turn c.args.ids.now c.args.pieces.now c.loop-id.yielded c.into_iter-id-iterator.result c.loop-id.id-iterator c.next.new.self c.next.result (cc) (cc) c.loop-id.yielded_by (c.in-Some.id, c.in-Some.piece) c.in-Some.is c.next.ensures.steps in
    let long : length _ ≡ length c.loop-id.yielded + 1 = length_push c.loop-id.yielded (c.in-Some.id, c.in-Some.piece) in
    let changes = rw (c.corner.ensures, c.inside_only.ensures, c.inside_only-in-loop-id.ensures, c.inside_only-in-loop-id-2.ensures, c.inside_only-in-loop-id-3.ensures) at c.set.ensures.changes in
    let ways = GiveWay-set c.loop-id.pool c.set.new.self c.args.owner.now c.in-Some.id.now c.in-Some.piece.now c.unwrap-tile.result (sym c.get.ensures ∙ c.unwrap-tile.ensures) changes c.set.ensures.count in
    record {
      laid = rw long (Lays-next c.args.ids.now c.args.pieces.now (length c.loop-id.yielded) (record { id = c.in-Some.id.now; piece = c.in-Some.piece.now }) turn.0 turn.1 (turn.2 _) (turn.3 _) c.requires.once c.requires.there
          c.loop-id.invariant.laid ways c.push_reserved.ensures.items);
      only = ChangesOnly-trans c.loop-id.invariant.only (ChangesOnly-one changes);
      len = omega (arith, long, c.loop-id.invariant.len, c.push_reserved.ensures.len);
      room = cc;
    }

pub returns-clause-laid : goal.returns-clause-laid
returns-clause-laid c =
    let ends = zip_end c.args.ids.now c.args.pieces.now c.loop-id.yielded c.into_iter-id-iterator.result c.loop-id.id-iterator c.next.new.self c.next.result (cc) (cc) c.loop-id.yielded_by c.in-None.is c.next.ensures.steps in
    let all : take (length c.loop-id.yielded) c.args.ids.now ≡ c.args.ids.now = take_all (length c.loop-id.yielded) c.args.ids.now (omega (arith, ends, c.requires.same)) in
    let all' : take (length c.loop-id.yielded) c.args.pieces.now ≡ c.args.pieces.now = take_all (length c.loop-id.yielded) c.args.pieces.now (omega (arith, ends, c.requires.same)) in
    rw (all, all') at c.loop-id.invariant.laid
