use Rattle.std.proofs.Common.{◌≡◌, ◌<◌, ◌&&◌, ℕ, not, take}
use Rattle.std.specs.List.{list_any}
use Rattle.mls_checker.specs.Maps.{Reads, corners_begin, has_place, is_level, row_begins}
use Rattle.mls_checker.proofs.reach_maps.Edges.find_beginnings.Given as goal

-- the maps have what begins in the directions before this one
abbrev pub invariant-loop-direction : goal.invariant-loop-direction
invariant-loop-direction l = record {
  level : (n : ℕ) → Reads l.fn.self.types.now.frame l.fn.self.home l.fn.level n → has_place l.level n
      ≡ list_any (λ direction. is_level direction && row_begins l.fn.self.types.now.before l.fn.self.types.now.behind l.fn.self.types.now.frame l.rule.distance l.fn.self.home n direction) (take l.direction-index l.direction-items);
  upright : (n : ℕ) → Reads l.fn.self.types.now.frame l.fn.self.home l.fn.upright n → has_place l.upright n
      ≡ list_any (λ direction. not (is_level direction) && row_begins l.fn.self.types.now.before l.fn.self.types.now.behind l.fn.self.types.now.frame l.rule.distance l.fn.self.home n direction) (take l.direction-index l.direction-items);
  blocks : (n : ℕ) → Reads l.fn.self.types.now.frame l.fn.self.home l.fn.blocks n → 0 < l.rule.corner_distance → has_place l.blocks n
      ≡ list_any (corners_begin l.fn.self.types.now.before l.fn.self.types.now.behind l.fn.self.types.now.beside l.fn.self.types.now.frame l.fn.self.same l.rule.corner_distance l.fn.self.home n) (take l.direction-index l.direction-items);
}
