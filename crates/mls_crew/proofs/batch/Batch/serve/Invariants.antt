use Rattle.mls_seat_lines.specs.mls_server.Servers.{world_of}
use Rattle.mls_seat_lines.specs.mls_server.Settings.{terms_for}
use Rattle.mls_crew.proofs.batch.Batch.serve.Given as goal

abbrev pub ghosts-serve_as-N-Ledger : goal.ghosts-serve_as-N-Ledger
ghosts-serve_as-N-Ledger g a = record { name = a.blank.name; parts = a.blank.parts }

abbrev pub ghosts-serve_as-N-Naming : goal.ghosts-serve_as-N-Naming
ghosts-serve_as-N-Naming g a = record { terms = terms_for (world_of a.batch.server).setting }
