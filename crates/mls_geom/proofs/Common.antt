-- The names of std that most proofs cite, passed on from one place. Declares nothing.
pub use Rattle.std.proofs.Common.{All, AllPairs, Any, Bool, Contains, Decides, Err, Global, IfNone, IfSome, IsSomeAnd, IsTrue, List, None, Ok, Option, Result, Some, Vec, [], add-one, add-suc, add-zero, add_assoc, ap, append-nil, append_assoc, arith, cond, count_by, drop, eq-eqb, eqb-true, false, filter, flat_map, get_or, get_or-set_other, if◌then◌else◌, inl, inr, le_of_suc-le-suc, le_refl, leb, leb-false, leb-true, length, length-append, length-set, lt-ltb, lt_of_lt_of_le, ltb-true, map, max, min, nat_eq, nat_le, nat_lt, ne_eqb, not, one-add, refl, replicate, reverse, rules, set, slice_get, slice_index, slice_index_or, slice_range, subst, subst₂, suc, suc-le-suc, sum_by, sym, take, true, true≢false, vec_capacity, vec_len, zero, zero-add, ℕ, ⊎_elim, ◌&&◌, ◌*◌, ◌++◌, ◌+◌, ◌-◌, ◌/◌, ◌<◌, ◌==◌, ◌^◌, ◌||◌, ◌↔◌, ◌∙◌, ◌∷◌, ◌≡◌, ◌≢◌, ◌≤◌, ◌⊎◌}
pub use Rattle.std.proofs.Math.ListN.{get_or-append}
pub use Rattle.std.proofs.Math.Nat.{pow-suc}
pub use Rattle.std.proofs.Math.Path.{fun_ext}
pub use Rattle.std.proofs.Math.Seq.{get_or-append_seam}
pub use Rattle.std.proofs.lemmas.Bool.{and_from, and_left, and_parts, and_right, both_ways, cases_Bool, cases_eq, cases_lt, cases_order, cond-false, cond-true, cond_both, eqb-false, false_from_ne_true, false≢true, le-ltb, ltb-false, not-false, not-true, not_from_false, not_from_true, or_cases, or_from, or_left, or_parts, or_right}
pub use Rattle.std.proofs.lemmas.Bool.Decides.{Decides-eqb, nat_tests}
pub use Rattle.std.proofs.lemmas.Fn.{always_returns_same, filter_same}
pub use Rattle.std.proofs.lemmas.Grind.{get_or-set_at}
pub use Rattle.std.proofs.lemmas.List.{drop_all, drop_at, drop_more, ext_get_or, get_or-drop, get_or-map, get_or-replicate, get_or-set_same, get_or-take, get_or_append_left, get_or_default, get_or_past, get_or_push, get_or_read, length-drop, length-map, length-replicate, length-take, length-take-le, length_push, map-append, map-id, map-set, map_push, places, reverse-append, same_lists, set-get_or, set-set, take-append-drop, take_all, take_at, take_more, take_more_set, with_items_is}
pub use Rattle.std.proofs.lemmas.List.Concat.{length-flat_map}
pub use Rattle.std.proofs.lemmas.List.Elements.{All-append, All-cons, All-contains, All-contains_itself, All-drop, All-filter, All-from_get_or, All-head, All-map, All-more, All-nil, All-push, All-set, All-tail, All-take, All-weaker, AllWithin-none, Contains-append_cases, Contains-append_left, Contains-append_right, Contains-get_or, Contains-push, filter_map-append, filter_passes}
pub use Rattle.std.proofs.lemmas.List.Filters.{dedup_is}
pub use Rattle.std.proofs.lemmas.List.Folds.{Any-from_list_any, list_any-from_Any, list_any_at}
pub use Rattle.std.proofs.lemmas.List.FromFn.{get_or-range_with_len, length-range_with_len, map-range_with_len_more}
pub use Rattle.std.proofs.lemmas.List.Kept.{AllPairs-cons, AllPairs-filter, AllPairs-from_increasing, Contains-dedup_nat, Contains-from_dedup}
pub use Rattle.std.proofs.lemmas.List.Quantifiers.{Any-push, all_pairs_push, any-set}
pub use Rattle.std.proofs.lemmas.List.Sorted.{All-permutation, Contains-permutation, IsNonDecreasingBy-drop, IsNonDecreasingBy-from_sort, IsNonDecreasingBy-from_sort_by_key, IsPartitionPoint-from_clause, IsPartitionedBy-leb, IsPermutation-append_left, IsPermutation-map, IsPermutation-refl, IsPermutation-sym, length_permutation, searched}
pub use Rattle.std.proofs.lemmas.List.Sums.{length-filter, prefix_len-drop_yes, prefix_len-le-length, prefix_len_is, prefix_len_passes, prefix_len_stops, sum_by-append, sum_by-cons, sum_by-le}
pub use Rattle.std.proofs.lemmas.Map.Keys.{IsDistinct-IsPermutation, IsDistinct-cons, IsDistinct-from_apart, IsDistinct-head, IsDistinct-tail, IsStrictlyIncreasing-dedup, IsStrictlyIncreasing-from_distinct, apart_from_distinct, non_decreasing_from_sorted, sorted_from_strictly_increasing}
pub use Rattle.std.proofs.lemmas.Map.Made.{IsDistinct-from_AllPairs, is_member-Decides, length-le_from_is_member}
pub use Rattle.std.proofs.lemmas.Nat.{pow_pos}
pub use Rattle.std.proofs.lemmas.Option.{get_or_from_slice_get, slice_get-get_or, slice_get-map, slice_get_cases, slice_get_read}
pub use Rattle.std.proofs.lemmas.Result.{err_from_is_err_and, on_ok_weaker}
pub use Rattle.std.proofs.lemmas.Simd.{map-map}
pub use Rattle.std.proofs.lemmas.Slice.Eq.{ends_is}
pub use Rattle.std.specs.Cmp.{IsEquivalence}
pub use Rattle.std.specs.List.{AllByRecursion, AllWithin, HoldsAt, IsAllAdjacentAnswer, IsDistinct, cons_option, filter_map, list_any, prefix_len, range_with_len}
pub use Rattle.std.specs.List.Sorted.{IsBinarySearchResult, IsNonDecreasing, IsNonDecreasingBy, IsPartitionPoint, IsPartitionedBy, IsPermutation, IsStrictlyIncreasing}
pub use Rattle.std.specs.Option.{IsSome, option_eq, option_map_or, unwrap_or}
pub use Rattle.std.specs.Ordering.{nat_cmp}
pub use Rattle.std.specs.Result.{result_ok}
