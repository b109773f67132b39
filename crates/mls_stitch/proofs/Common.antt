-- The names that most proofs of this crate cite, passed on from one place. Declares nothing.
pub use Rattle.std.proofs.lemmas.Bool.{both_ways, cases_Bool, cases_eq, cases_lt, cases_order, cond-false, cond-true, eq-eqb, eqb-false, eqb-true, false_from_ne_true, false≢true, ne_eqb, not-true, not_from_false, or_cases}
pub use Rattle.std.proofs.lemmas.Bool.Decides.{nat_tests}
pub use Rattle.std.proofs.lemmas.List.{get_or-drop, get_or-map, get_or-take, get_or_append_left, get_or_default, get_or_read, length-append, length-map, length-take, length-take-le, length_push, map-append, take-append-drop, take_all, take_more}
pub use Rattle.std.proofs.lemmas.List.Elements.{All-append, All-cons, All-contains, All-contains_itself, All-drop, All-filter, All-head, All-map, All-nil, All-push, All-tail, All-weaker, AllWithin-more, Contains-append_cases, Contains-append_left, Contains-append_right, Contains-get_or, Contains-push, Contains-push_cases, at_read, filter_more, filter_passes}
pub use Rattle.std.proofs.lemmas.List.Sorted.{All-permutation, Contains-permutation, IsNonDecreasingBy-from_sort, IsNonDecreasingBy-from_sort_by_key, IsPartitionPoint-from_clause, IsPermutation-map, IsPermutation-refl, IsPermutation-sym, IsPermutation-trans, ranks_by, searched, sorted_far}
pub use Rattle.std.proofs.lemmas.Option.{get_or_from_slice_get, none-some, same_Some, slice_get-get_or, slice_get-map, slice_get_read, slice_get_within}
pub use Rattle.std.specs.List.{All, AllPairs, AllWithin, AllZip, Any, Contains, IsDistinct, dedup, dedup_from, list_any, slice_get, slice_index_or}
pub use Rattle.std.specs.List.Sorted.{IsBinarySearchResult, IsNonDecreasing, IsNonDecreasingBy, IsPartitionedBy, IsPermutation, IsSortedByKey}
pub use Rattle.std.specs.Option.{IfSome, IsSome, IsSomeAnd, option_map, option_or}
pub use Rattle.mls_geom.proofs.Ascending.{AllPairs-append, AllPairs-first, AllPairs-map, AllPairs-rest, Contains-filter, Contains-first, Contains-map, Contains-rest}
pub use Rattle.mls_geom.proofs.Holds.{between_holds, holds_between}
pub use Rattle.mls_geom.proofs.Overlays.{Agrees, overlaid_agreed, overlaid_outside, overlaid_stays}
pub use Rattle.mls_geom.proofs.PiecePictures.{holds_outer, space_outside}
pub use Rattle.mls_geom.specs.Locality.{AreCoveredStrips, AreUnorderedStrips, AreUntouched, HaveKinds, covered_count, is_touched, laid, touches, uncovered}
pub use Rattle.mls_geom.specs.Pictures.{Picture, empty_picture, overlaid, picture_of}
pub use Rattle.mls_geom.specs.Rects.{IsRectangleIn, IsWithin, Point, Rect, common, grown, has_squares, holds, joined, meets}
pub use Rattle.mls_geom.specs.Strips.{AreStrips, IsStrip, comes_before}
pub use Rattle.mls_geom.specs.World.{AreLegal, world}
pub use Rattle.mls_geom.specs.declared.piece.Piece.{Piece}
pub use Rattle.mls_tilepool.specs.Pools.{Changes, IsOwner, Pool, Reserves, count_of, room_of, tile_at, tile_in, tiles_of}
pub use Rattle.mls_tilepool.specs.declared.tile.Tile.{Tile}
pub use Rattle.mls_stitch.specs.Areas.{AreInArea, AreSearched, IsFound, ListTouched, MeetArea, comes_first}
pub use Rattle.mls_stitch.specs.Enumerations.{IsListedTo, IsParent, IsReached, IsSideListedTo, first_row}
pub use Rattle.mls_stitch.specs.Fresh.{MayReplace, fresh_at, replaced, untouched}
pub use Rattle.mls_stitch.specs.Gathering.{AreMet, EncloseBlocks, EnclosePieces, HasTouched, IsInPart}
pub use Rattle.mls_stitch.specs.Pending.{AreInPlace, AreLed, AreListed, AreSewn, AreSewnAcross, AwaitStitches, IsLed, IsRightOrListed, IsSewn, IsStitchedAt, KeepStitches, keys_of}
pub use Rattle.mls_stitch.specs.Placing.{AreClose, GiveWay, IsLost, KeepsKeys, Lays, Surround, inside_only, moved_tile, placed_at, unlisted_of, unstitched}
pub use Rattle.mls_stitch.specs.Replacements.{AreDisjoint, IsHeld, IsKept, IsKeptUnless, Replaces, TakePlace}
pub use Rattle.mls_stitch.specs.Stitches.{HoldsAt, LeadsTo, beyond, stitch_of, with_stitch}
pub use Rattle.mls_stitch.specs.Tilings.{AreBlocks, ArePlaced, AreTiledAs, ChangesOnly, HasPlane, IsMaximal, IsPlaced, IsPlane, block_at, block_of, blocks_of, bottom_beyond, left_beyond, shown}
pub use Rattle.mls_stitch.specs.Walks.{IsLaid, IsLaidAt, laid_at}
pub use Rattle.mls_stitch.specs.declared.laid_tile.LaidTile.{LaidTile}
pub use Rattle.mls_stitch.specs.declared.stitch.Stitch.{Stitch}
pub use Rattle.mls_stitch.specs.declared.stitch.Stitch.TheVariants.{Bl, Lb, Rt, Tr}
