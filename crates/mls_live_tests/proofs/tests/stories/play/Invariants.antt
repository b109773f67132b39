use Rattle.mls_server.specs.Servers.{world_of}
use Rattle.mls_server.specs.Settings.{terms_for}
use Rattle.mls_live_tests.proofs.tests.stories.play.Given as goal

abbrev pub ghosts-play_at-N-Ledger : goal.ghosts-play_at-N-Ledger
ghosts-play_at-N-Ledger g a = record { name = a.blank.name; parts = a.blank.parts }

abbrev pub ghosts-play_at-N-Naming : goal.ghosts-play_at-N-Naming
ghosts-play_at-N-Naming g a = record { terms = terms_for (world_of a.server).setting }
