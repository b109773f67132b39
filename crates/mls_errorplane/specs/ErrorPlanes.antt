-- A layout's error plane, and its areas that await checking.
use Rattle.std.specs.Prelude.{◌≡◌, ◌≢◌, ℕ, ◌≤◌, Bool, nat_lt, true, false, if◌then◌else◌, List, [], ◌∷◌, IfSome, Result, Ok, Err, ⊤, All, Contains}
use Rattle.mls_errorplane.specs.Common.{EdgeRule, FitsWorkspace, HasStrips, Layout, Library, Picture, Pool, Rect, SquareSet, picture_in, room_of, tile_count, world}
use Rattle.mls_errorplane.specs.Checkings.{Checking, check_step}
use Rattle.mls_errorplane.specs.MarkPlanes.{is_marked, marked_count}
use Rattle.mls_errorplane.specs.declared.error_plane.Stepped.{Stepped}
use Rattle.mls_errorplane.specs.declared.error_plane.Stepped.TheVariants.{Idle, Done, Full, Memory}

-- the owner of the plane's tiles, how many squares are marked, and the areas
pub record ErrorPlane : Type 0 where
  pub owner : ℕ
  pub marked : ℕ
  pub dirty : List Rect

-- kind 1 where the set has the square, and kind 0 elsewhere
abbrev pub marks_picture : SquareSet → Picture
marks_picture set x y = if set x y then 1 else 0

-- what the plane marks, and the areas
abbrev pub checking_of : Pool → ErrorPlane → Checking
checking_of pool errors = record { marks = is_marked (picture_in pool errors.owner); dirty = errors.dirty }

-- the plane is in maximal strips, and shows marks and nothing else, as many as were counted
pub record ShowsMarks (pool : Pool) (errors : ErrorPlane) : Type 0 where
  pub strips : HasStrips pool errors.owner
  pub marks : picture_in pool errors.owner ≡ marks_picture (is_marked (picture_in pool errors.owner))
  pub counted : errors.marked ≡ marked_count world (picture_in pool errors.owner)

-- an error plane whose marks a call may change, with room for as many tiles as the limit has
pub record HasMarks (pool : Pool) (limit : ℕ) (errors : ErrorPlane) : Type 0 where
  pub marks : ShowsMarks pool errors
  pub fits : FitsWorkspace pool errors.owner
  pub room : IfSome (room_of pool errors.owner) (λ room. limit ≤ room)

-- an owner that has none of these planes, and none of the cells' planes
pub record StandsApart (owner : ℕ) (owners : List ℕ) (library : Library) : Type 0 where
  pub planes : All (λ other. other ≢ owner) owners
  pub cells : All (λ cell. All (λ other. ¬ (Contains (owner ∷ []) other)) cell.planes) library

-- an error plane with these marks would have more tiles than the limit
abbrev pub exceeds : ℕ → SquareSet → Bool
exceeds limit marks = nat_lt limit (tile_count world (marks_picture marks))

-- how a check step ended, and what is known after it
abbrev pub HasStepped : List EdgeRule → Layout → ℕ → Checking → Stepped → Checking → Type 0
HasStepped rules layout limit old Idle new = (old.dirty ≡ []) × (new ≡ old)
HasStepped rules layout limit old Done new = (old.dirty ≢ []) × (exceeds limit (check_step rules layout old).marks ≡ false) × (new ≡ check_step rules layout old)
HasStepped rules layout limit old Full new = (old.dirty ≢ []) × (exceeds limit (check_step rules layout old).marks ≡ true) × (new ≡ old)
HasStepped rules layout limit old Memory new = (old.dirty ≢ []) × (new ≡ old)

-- how a check step ends that marks the first piece: it is done, or the error plane would have too many tiles
abbrev pub stepped_of : {T E : Type 0} → Result T E → Stepped
stepped_of (Ok marked) = Done
stepped_of (Err fault) = Full

-- the fact, unless the step was done
abbrev pub UnlessDone : Stepped → Type 0 → Type 0
UnlessDone Idle P = P
UnlessDone Done P = ⊤
UnlessDone Full P = P
UnlessDone Memory P = P
