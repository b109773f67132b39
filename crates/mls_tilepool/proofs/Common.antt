-- The names that most proofs of this crate cite, passed on from one place. Declares nothing.
pub use Rattle.std.proofs.lemmas.Bool.{cases_Bool, cases_eq, cond-false, cond-true, eq-eqb, eqb-true, false_from_ne_true, false≢true, ne_eqb}
pub use Rattle.std.specs.List.{AllPairs, Contains, sum_by}
pub use Rattle.std.specs.Option.{option_map, option_map_or}
pub use Rattle.slab.proofs.SlabLemmas.{Contains-cons, Contains-cons_cases, Updates-with_value, length-entries_from}
pub use Rattle.slab.specs.Slab.{ContainsKey, HasRoomFor, Slab, Updates, entries_from, get, slab_len, with_value}
pub use Rattle.mls_tilepool.specs.Chains.{IsChain, IsPool, IsRow, Links, held_of, links_to, owned_slots, pool_of, room_in, rooms_sum, tiles_from}
pub use Rattle.mls_tilepool.specs.Pools.{Changes, ChangesOnly, Held, IsOwner, ListsTiles, Pool, Reserves, count_of, owned, room_of, tile_at, tile_in, unreserved}
unfoldable pub use Rattle.mls_tilepool.specs.Pools.{reserved, tiles_of}
pub use Rattle.mls_tilepool.specs.declared.chain.Place.{Place}
pub use Rattle.mls_tilepool.specs.declared.chain.Row.{Row}
pub use Rattle.mls_tilepool.specs.declared.tile.Tile.{Tile}
