-- The directions in which edge rules look (Taylor and Ousterhout 1984).
use Rattle.std.specs.Prelude.{List, [], ◌∷◌}
use Rattle.mls_geom.specs.declared.direction.Direction.{Direction}
use Rattle.mls_geom.specs.declared.direction.Direction.TheVariants.{Right, Up, Left, Down}
use Rattle.mls_edgerule.specs.declared.directions.Directions.{Directions}
use Rattle.mls_edgerule.specs.declared.directions.Directions.TheVariants.{RightAndUp, Four}

abbrev pub directions_in : Directions → List Direction
directions_in RightAndUp = Right ∷ Up ∷ []
directions_in Four = Right ∷ Up ∷ Left ∷ Down ∷ []
