-- How the names of planes and of types are spelled. This project's own.
use Rattle.std.specs.Prelude.{ℕ, Bool, List}
use Rattle.mls_tech.specs.Names.{is_name, is_type_name}
use Rattle.mls_tech.specs.declared.name_kind.NameKind.{NameKind}
use Rattle.mls_tech.specs.declared.name_kind.NameKind.TheVariants.{PlaneName, TypeName}

abbrev pub spelling_of : NameKind → List ℕ → Bool
spelling_of PlaneName = is_name
spelling_of TypeName = is_type_name
