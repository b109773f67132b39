-- A tile that was looked at is listed, or is not in the area.
use Rattle.std.proofs.Common.{length, ap, ◌∙◌, subst, arith}
use Rattle.mls_stitch.proofs.Common.{All-push, tiles_of, IsFound, block_at}
use Rattle.mls_stitch.proofs.Gathered.{AreMetBefore, AreMet-scanned, scan_listed, scan_skipped}
use Rattle.mls_stitch.proofs.scan.scan_area.Goals as goal

pub loop-id-preserved-in-Some-laid_in : goal.loop-id-preserved-in-Some-laid_in
loop-id-preserved-in-Some-laid_in c =
    let blocks = block_at (tiles_of c.args.pool.now c.args.owner.now) in
    let before = subst (AreMetBefore blocks c.args.area c.loop-id.list.items) c.in-Some.ensures.steps c.loop-id.invariant.before in
    record {
      each = rw c.push_reserved.ensures.items (All-push (IsFound blocks c.args.area) c.loop-id.list.items c.in-Some-laid_in.tile c.loop-id.invariant.each c.in-Some-laid_in.ensures.1);
      before =
          rw c.push_reserved.ensures.items
          (scan_listed blocks c.args.area c.loop-id.list.items c.in-Some.id c.in-Some.field-0-1 c.next.new.self c.in-Some-laid_in.tile before c.in-Some-laid_in.ensures.0);
      few = omega (arith, c.loop-id.invariant.few, c.push_reserved.ensures.len, ap length c.in-Some.ensures.steps);
      room = c.push_reserved.ensures.capacity ∙ c.loop-id.invariant.room;
    }

pub loop-id-preserved : goal.loop-id-preserved
loop-id-preserved c =
    let blocks = block_at (tiles_of c.args.pool.now c.args.owner.now) in
    let before = subst (AreMetBefore blocks c.args.area c.loop-id.list.items) c.in-Some.ensures.steps c.loop-id.invariant.before in
    record {
      each = c.loop-id.invariant.each;
      before = scan_skipped blocks c.args.area c.loop-id.list.items c.in-Some.id c.in-Some.field-0-1 c.next.new.self before c.in_default.ensures;
      few = omega (arith, c.loop-id.invariant.few, ap length c.in-Some.ensures.steps);
      room = c.loop-id.invariant.room;
    }

pub returns-clause-found : goal.returns-clause-found
returns-clause-found c =
    let blocks = block_at (tiles_of c.args.pool.now c.args.owner.now) in
    AreMet-scanned blocks c.args.area c.loop-id.list.items c.loop-id.invariant.each (subst (AreMetBefore blocks c.args.area c.loop-id.list.items) c.in-None.ensures.steps.0 c.loop-id.invariant.before)
