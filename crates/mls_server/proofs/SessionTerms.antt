-- The terms of a session: what no call changes.
use Rattle.std.proofs.Common.{◌≡◌, List, sym, ap}
use Rattle.std.proofs.lemmas.Simd.{map-map}
use Rattle.mls_geom.specs.Layouts.{Layout}
use Rattle.mls_session.specs.OwnSteps.{Terms}
use Rattle.mls_session.specs.Setups.{terms_of}
use Rattle.mls_session.specs.declared.setup.Setup.{Setup}
use Rattle.mls_server.specs.Servers.{Server, setting_of}
use Rattle.mls_server.specs.Settings.{named_layout, terms_for}

-- they are the same by the cells' layouts
module _ (setup : Setup) where
  abbrev pub terms_with : List Layout → Terms
  terms_with cells = record { config = record { tech = setup.tech; rules = setup.rules; cells = cells; quota = setup.quota; cell_tiles = setup.cell_tiles }; journal = setup.limit }

  pub terms-same : {cells others : List Layout} → cells ≡ others → terms_with cells ≡ terms_with others
  terms-same {cells} {others} layouts = ap terms_with layouts

-- those of a server's setup are those of its setting
pub terms_of-setting : (server : Server) → terms_of server.setup server.pool ≡ terms_for (setting_of server)
terms_of-setting server = terms-same server.setup (sym (map-map (λ cell. cell.layout) (named_layout server.pool) server.setup.library))
