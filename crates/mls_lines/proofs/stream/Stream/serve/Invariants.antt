use Rattle.mls_seat_lines.specs.mls_server.Servers.{world_of}
use Rattle.mls_seat_lines.specs.mls_server.Settings.{terms_for}
use Rattle.mls_lines.proofs.stream.Stream.serve.Given as goal

abbrev pub ghosts-serve_as-N-Ledger : goal.ghosts-serve_as-N-Ledger
ghosts-serve_as-N-Ledger g a = record { name = a.made.1.name; parts = a.made.1.parts }

abbrev pub ghosts-serve_as-N-Naming : goal.ghosts-serve_as-N-Naming
ghosts-serve_as-N-Naming g a = record { terms = terms_for (world_of a.stream.server).setting }

abbrev pub ghosts-serve_as-N-Scripted : goal.ghosts-serve_as-N-Scripted
ghosts-serve_as-N-Scripted g a = record { symbols = a.stream.symbols; script = g.I.Read.remaining a.input.now.device }
