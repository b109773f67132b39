-- The types of each plane, and the planes on which sets of types lie. Space is a type of every plane.
use Rattle.std.specs.Prelude.{ℕ, ◌==◌, Bool, not, ◌&&◌, Option, Some, None, List, [], ◌∷◌, find}
use Rattle.std.specs.List.{filter, range_with_len}
use Rattle.mls_tech.specs.Readings.{Tech, lies_on_plane}
use Rattle.mls_kinds.specs.KindSets.{has_bit, set_of, intersection, difference}

-- the types of the plane, space among them
unfoldable pub types_on : Tech → ℕ → ℕ
types_on tech plane = set_of (lies_on_plane tech.type_planes plane)

abbrev pub planes_of : Tech → List ℕ
planes_of tech = range_with_len 0 tech.plane_count

-- the set isn't empty, is without space, and has only types of the plane
abbrev pub is_on_plane : Tech → ℕ → ℕ → Bool
is_on_plane tech set plane = not (set == 0) && not (has_bit set 0) && difference set (types_on tech plane) == 0

-- the plane that has all types of the set, if the set isn't empty and is without space
unfoldable pub plane_of_set : Tech → ℕ → Option ℕ
plane_of_set tech set = find (is_on_plane tech set) (planes_of tech)

-- the set has a type of the plane
abbrev pub has_member : Tech → ℕ → ℕ → Bool
has_member tech set plane = not (intersection set (types_on tech plane) == 0)

abbrev pub only_one : List ℕ → Option ℕ
only_one (plane ∷ []) = Some plane
only_one planes = None

-- the plane can have an edge between the sets: each has a type of it
abbrev pub has_edges : Tech → ℕ → ℕ → ℕ → Bool
has_edges tech set other plane = has_member tech set plane && has_member tech other plane

-- the only plane that can have an edge between the sets
unfoldable pub trigger_plane : Tech → ℕ → ℕ → Option ℕ
trigger_plane tech set other = only_one (filter (has_edges tech set other) (planes_of tech))
