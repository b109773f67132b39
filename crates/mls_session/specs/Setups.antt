-- What no command of a session changes. This project's own.
use Rattle.mls_session.specs.Common.{Pool, cell_layouts}
use Rattle.mls_session.specs.Own.{Config}
use Rattle.mls_session.specs.OwnSteps.{Terms}
use Rattle.mls_session.specs.declared.setup.Setup.{Setup}

-- what no command of a design changes, with the cells that lie in this pool
abbrev pub config_of : Setup → Pool → Config
config_of setup pool = record { tech = setup.tech; rules = setup.rules; cells = cell_layouts pool setup.library; quota = setup.quota; cell_tiles = setup.cell_tiles }

-- and of a session
abbrev pub terms_of : Setup → Pool → Terms
terms_of setup pool = record { config = config_of setup pool; journal = setup.limit }
