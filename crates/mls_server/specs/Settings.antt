-- What no event on a session changes: the technology, its rules, the limits of planes, journals and cells, and the library's cells. This project's own.
use Rattle.std.specs.Prelude.{ℕ, ◌+◌, ◌*◌, List, map}
use Rattle.mls_edgerule.specs.declared.edge_rule.EdgeRule.{EdgeRule}
use Rattle.mls_geom.specs.Layouts.{Layout}
use Rattle.mls_session.specs.mls_library.Libraries.{Library, NamedCell, cell_layout}
use Rattle.mls_tech.specs.Readings.{Tech}
use Rattle.mls_tilepool.specs.Pools.{Pool}
use Rattle.mls_session.specs.Quotas.{plane_reserve}
use Rattle.mls_session.specs.Own.{Config}
use Rattle.mls_session.specs.OwnSteps.{Terms}

-- a cell's name and its layout
pub record NamedLayout : Type 0 where
  pub name : List ℕ
  pub layout : Layout

-- the technology, its compiled rules, how many tiles a plane may have, how many entries a journal, how many tiles a plane of a cell, and the cells in the
-- order in which they were loaded
pub record Setting : Type 0 where
  pub tech : Tech
  pub rules : List EdgeRule
  pub quota : ℕ
  pub journal : ℕ
  pub cell_tiles : ℕ
  pub cells : List NamedLayout

-- what no command of a session changes
abbrev pub config_for : Setting → Config
config_for setting = record {
  tech = setting.tech;
  rules = setting.rules;
  cells = map (λ cell. cell.layout) setting.cells;
  quota = setting.quota;
  cell_tiles = setting.cell_tiles;
}

-- the terms of each session
abbrev pub terms_for : Setting → Terms
terms_for setting = record { config = config_for setting; journal = setting.journal }

-- how many tiles the planes of a session reserve, its error plane among them
abbrev pub session_reserve : Setting → ℕ
session_reserve setting = (setting.tech.plane_count + 1) * plane_reserve setting.quota

abbrev pub cell_names : Setting → List (List ℕ)
cell_names setting = map (λ cell. cell.name) setting.cells

-- a cell's name, and what its planes show
abbrev pub named_layout : Pool → NamedCell → NamedLayout
named_layout pool cell = record { name = cell.name; layout = cell_layout pool cell }

abbrev pub named_layouts : Pool → Library → List NamedLayout
named_layouts pool cells = map (named_layout pool) cells
