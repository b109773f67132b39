-- Each iteration makes one more fresh tile lead back, until one isn't to; then the tile's own stitch is set, or leads to none of them.
use Rattle.std.proofs.Common.{◌≡◌, ◌-◌, ◌<◌, ℕ, List, get_or, length, sym, ◌∙◌, arith}
use Rattle.mls_stitch.proofs.Common.{get_or_default, LaidTile}
use Rattle.mls_stitch.proofs.PoolChanges.{ChangesOnly-trans}
use Rattle.mls_stitch.proofs.SettingStitches.{KeepStitches-refl, set_there}
use Rattle.mls_stitch.proofs.SewnTiles.{ArePartlyBack-set, IsSewn-side, onward_none, onward_set}
use Rattle.mls_stitch.proofs.stitching.stitch_side.Goals.{else-count-gt0-via-then-count-gt0+else-leads_into-2, else-count-gt0-via-else-count-gt0, then-loop-rest-test+else-leads_into, else-loop-rest-test}
use Rattle.mls_stitch.proofs.stitching.stitch_side.Goals as goal

-- the tile that is read once more is the same
same_read : (list : List LaidTile) (index : ℕ) (one other : LaidTile) → index < length list → one ≡ get_or list index one → other ≡ get_or list index other → other ≡ one
same_read list index one other within is is' = is' ∙ get_or_default list index other one within ∙ sym is

pub loop-rest-preserved : goal.loop-rest-preserved
loop-rest-preserved c =
    let fresh = c.args.fresh.now in
    let back = c.back-back.result in
    let rest = c.loop-rest.rest in
    let last = c.index-fresh-rest.result in
    let so_far = c.loop-rest.invariant in
    let within : rest - 1 < length fresh = omega (arith, so_far.bound, c.requires.parted.bound, c.loop-rest-test.true) in
    let changes = rw (same_read fresh (rest - 1) last c.index-fresh-rest-in-loop-rest.result within c.index-fresh-rest.is c.index-fresh-rest-in-loop-rest.is) at c.set_stitch.ensures.changes in
    record {
      bound = omega (arith, so_far.bound);
      led = λ blocks place laid listed.
          let part = so_far.led blocks place laid listed in
          let (was, change, only) = set_there back (get_or fresh (rest - 1) last).piece part.keeps.place (listed (rest - 1) last within) changes in
          ArePartlyBack-set c.args.stitch c.args.tile.now fresh c.args.count listed laid c.requires.sorted c.requires.parted back last c.back-back.ensures c.loop-rest-test.true so_far.bound part
          (sym c.leads_into.ensures ∙ c.if-leads_into.true) change;
      same = c.set_stitch.ensures.count ∙ so_far.same;
      only =
          let (blocks, place, laid, listed) = c.requires.place in
          let part = so_far.led blocks place laid listed in
          let (was, change, only) = set_there back (get_or fresh (rest - 1) last).piece part.keeps.place (listed (rest - 1) last within) changes in
          ChangesOnly-trans so_far.only only;
    }

pub returns-then-leads_into-2-clause-sewn : goal.returns-then-leads_into-2-clause-sewn
returns-then-leads_into-2-clause-sewn c = λ blocks place laid listed.
    let stitch = c.args.stitch in
    let tile = c.args.tile.now in
    let fresh = c.args.fresh.now in
    let last = c.index-fresh-count.result in
    let part = c.loop-rest.invariant.led blocks place laid listed in
    let within : c.args.count - 1 < length fresh = omega (arith, c.requires.parted.bound, c.if-count-gt0.true) in
    let changes = rw (same_read fresh (c.args.count - 1) last c.index-fresh-count-then-leads_into-2.result within c.index-fresh-count.is c.index-fresh-count-then-leads_into-2.is)
    at c.set_stitch-then-leads_into-2.ensures.changes in
    let (was, change, only) = set_there stitch tile.piece part.keeps.place laid changes in
    IsSewn-side stitch tile fresh c.args.count listed laid c.requires.sorted c.requires.parted c.loop-rest.invariant.bound part
    (λ some. elim c.loop-rest-test.branch [
      | then-loop-rest-test+else-leads_into w ↦ (w.index-fresh-rest.result, rw c.back-back.ensures at (sym w.leads_into.ensures ∙ w.if-leads_into.false))
      | else-loop-rest-test w ↦ absurd (omega (arith, some, w.loop-rest-test.false))
    ])
    (onward_set stitch tile fresh c.args.count listed laid c.requires.sorted c.requires.parted last part.keeps.place c.if-count-gt0.true
    (sym c.leads_into-then-count-gt0.ensures ∙ c.if-leads_into-2.true) change)

pub returns-else-count-gt0-clause-sewn : goal.returns-else-count-gt0-clause-sewn
returns-else-count-gt0-clause-sewn c = λ blocks place laid listed.
    let part = c.loop-rest.invariant.led blocks place laid listed in
    IsSewn-side c.args.stitch c.args.tile.now c.args.fresh.now c.args.count listed laid c.requires.sorted c.requires.parted c.loop-rest.invariant.bound part
    (λ some. elim c.loop-rest-test.branch [
      | then-loop-rest-test+else-leads_into w ↦ (w.index-fresh-rest.result, rw c.back-back.ensures at (sym w.leads_into.ensures ∙ w.if-leads_into.false))
      | else-loop-rest-test w ↦ absurd (omega (arith, some, w.loop-rest-test.false))
    ]) (
      KeepStitches-refl part.keeps.place,
      onward_none c.args.stitch c.args.tile.now c.args.fresh.now c.args.count listed laid c.requires.sorted c.requires.parted part.keeps.place
          (λ some. elim c.else-count-gt0.branch [
            | else-count-gt0-via-then-count-gt0+else-leads_into-2 w ↦
                (w.index-fresh-count.result, sym w.leads_into-then-count-gt0.ensures ∙ w.if-leads_into-2.false)
            | else-count-gt0-via-else-count-gt0 w ↦ absurd (omega (arith, some, w.if-count-gt0.false))
          ]),
    )
