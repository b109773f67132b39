-- Both lists are the same tiles in another order each, which are sewn to those around, then to each other, and then to those around over the other side.
use Rattle.std.proofs.Common.{rules}
use Rattle.mls_stitch.proofs.Common.{IsPermutation, All-permutation, IsPermutation-refl, IsPermutation-sym, IsPermutation-trans, IsLaid, LaidTile}
use Rattle.std.proofs.lemmas.Fn.{always_returns_same}
use Rattle.mls_stitch.specs.Lookups.{back_of, rank_of, start_of}
use Rattle.mls_stitch.proofs.SettingStitches.{AreLed-later, KeepStitches-refl, KeepStitches-trans}
use Rattle.mls_stitch.proofs.TilesBeyond.{AreSortedFor-from_sort}
use Rattle.mls_stitch.proofs.stitching.stitch_across.Goals as goal

-- each closure gives where a tile begins, so the sorts go by that
pub stitch_sides-requires-clause-sorted : goal.stitch_sides-requires-clause-sorted
stitch_sides-requires-clause-sorted c =
    AreSortedFor-from_sort c.args.stitch _
    (c.sort_unstable_by_key.ensures.sorted (λ (entry : LaidTile). rank_of (start_of c.args.stitch entry.piece.rect)) (always_returns_same _ _ _ (λ a r f called. search rules)))

pub stitch_sides-requires-2-clause-sorted : goal.stitch_sides-requires-2-clause-sorted
stitch_sides-requires-2-clause-sorted c =
    AreSortedFor-from_sort c.args.stitch _
    (c.sort_unstable_by_key.ensures.sorted (λ (entry : LaidTile). rank_of (start_of c.args.stitch entry.piece.rect)) (always_returns_same _ _ _ (λ a r f called. search rules)))

pub stitch_sides-requires-3-clause-sorted : goal.stitch_sides-requires-3-clause-sorted
stitch_sides-requires-3-clause-sorted c =
    AreSortedFor-from_sort c.back-back.result _
    (c.sort_unstable_by_key-2.ensures.sorted (λ (entry : LaidTile). rank_of (start_of c.back-back.result entry.piece.rect)) (always_returns_same _ _ _ (λ a r f called. search rules)))

pub stitch_sides-requires-clause-place : goal.stitch_sides-requires-clause-place
stitch_sides-requires-clause-place c =
    let (blocks, place, laid, listed) = c.requires.place in
    (blocks, place, laid, All-permutation (IsLaid blocks) _ _ c.sort_unstable_by_key.ensures.permutation listed)

pub stitch_sides-requires-2-clause-place : goal.stitch_sides-requires-2-clause-place
stitch_sides-requires-2-clause-place c =
    let (blocks, place, laid, listed) = c.requires.place in
    let moved = All-permutation (IsLaid blocks) _ _ c.sort_unstable_by_key.ensures.permutation listed in
    let again = All-permutation (IsLaid blocks) _ _ c.sort_unstable_by_key-2.ensures.permutation (All-permutation (IsLaid blocks) _ _ c.requires.same listed) in
    (blocks, (c.stitch_sides.ensures.sewn blocks place laid moved).keeps.place, again, moved)

pub stitch_sides-requires-3-clause-place : goal.stitch_sides-requires-3-clause-place
stitch_sides-requires-3-clause-place c =
    let (blocks, place, laid, listed) = c.requires.place in
    let moved = All-permutation (IsLaid blocks) _ _ c.sort_unstable_by_key.ensures.permutation listed in
    let again = All-permutation (IsLaid blocks) _ _ c.sort_unstable_by_key-2.ensures.permutation (All-permutation (IsLaid blocks) _ _ c.requires.same listed) in
    let first = c.stitch_sides.ensures.sewn blocks place laid moved in
    (blocks, (c.stitch_sides-2.ensures.sewn blocks first.keeps.place again moved).keeps.place, laid, again)

pub returns-clause-sewn : goal.returns-clause-sewn
returns-clause-sewn c = λ blocks place laid listed.
    let stitch = c.args.stitch in
    let back = back_of stitch in
    let moved = All-permutation (IsLaid blocks) _ _ c.sort_unstable_by_key.ensures.permutation listed in
    let again = All-permutation (IsLaid blocks) _ _ c.sort_unstable_by_key-2.ensures.permutation (All-permutation (IsLaid blocks) _ _ c.requires.same listed) in
    let first = c.stitch_sides.ensures.sewn blocks place laid moved in
    let second = c.stitch_sides-2.ensures.sewn blocks first.keeps.place again moved in
    let third = rw c.back-back.ensures at (c.stitch_sides-3.ensures.sewn blocks second.keeps.place laid again) in
    let around = IsPermutation-refl c.args.around.now in
    let fresh = IsPermutation-refl c.sort_unstable_by_key.new.self in
    let turned : IsPermutation c.sort_unstable_by_key-2.new.self c.sort_unstable_by_key.new.self =
    IsPermutation-trans _ _ _ (IsPermutation-sym _ _ (IsPermutation-trans _ _ _ c.requires.same c.sort_unstable_by_key-2.ensures.permutation)) c.sort_unstable_by_key.ensures.permutation in
    let later = KeepStitches-trans second.keeps third.keeps in
    let at_end = KeepStitches-refl third.keeps.place in
    let keeps = KeepStitches-trans first.keeps later in
    record {
      onward = record {
        keeps = keeps;
        onward = AreLed-later stitch later around fresh first.onward;
        back = AreLed-later back later fresh around first.back;
      };
      among = record {
        keeps = keeps;
        onward = AreLed-later stitch third.keeps turned fresh second.onward;
        back = AreLed-later back third.keeps fresh turned second.back;
      };
      back = record {
        keeps = keeps;
        onward = AreLed-later back at_end around turned third.onward;
        back = AreLed-later (back_of back) at_end turned around third.back;
      };
    }

pub returns-clause-same : goal.returns-clause-same
returns-clause-same c =
    IsPermutation-trans _ _ _ (IsPermutation-sym _ _ c.sort_unstable_by_key.ensures.permutation) (IsPermutation-trans _ _ _ c.requires.same c.sort_unstable_by_key-2.ensures.permutation)
