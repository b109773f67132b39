use Rattle.std.proofs.Common.{◌≡◌, map, take}
use Rattle.mls_session.specs.mls_library.Libraries.{names_of}
use Rattle.mls_server.proofs.server.copy_names.Given as goal

-- the names so far are copied
abbrev pub invariant-loop-place : goal.invariant-loop-place
invariant-loop-place l = map (λ name. name.items) l.names.items ≡ take l.place (names_of l.library)
