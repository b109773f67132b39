use Rattle.std.proofs.Common.{◌≡◌, ◌^◌, ◌<◌}
use Rattle.mls_text.specs.Fields.{fields_of}
use Rattle.mls_wire.specs.Says.{types_named}
use Rattle.mls_wire.proofs.TypeLists.{types_from}
use Rattle.mls_wire.proofs.parse.types_of.Given as goal

abbrev pub invariant-loop-name : goal.invariant-loop-name
invariant-loop-name g l = record {
  so_far : types_named (g.N.Names.book l.names) (fields_of l.list) ≡ types_from (g.N.Names.book l.names) l.types l.name-iterator;
  fits : l.types < 2 ^ 64;
}
