-- The directions across a direction.
use Rattle.mls_geom.proofs.Common.{◌≡◌, Bool, true, false, true≢false, ◌||◌, inl, inr, refl, sym, list_any, or_left, or_right, or_cases}
use Rattle.mls_geom.proofs.Definitions.{across, Direction, Right, Up, Left, Down}

-- the second direction is one of the two across the first
abbrev pub crosses : Direction → Direction → Bool
crosses Right Up = true
crosses Right Down = true
crosses Left Up = true
crosses Left Down = true
crosses Up Right = true
crosses Up Left = true
crosses Down Right = true
crosses Down Left = true
crosses direction flank = false

-- where one of two crossing directions passes a test, a crossing direction passes it
one_of_two :
    (direction s t : Direction) (test : Direction → Bool) → crosses direction s ≡ true → crosses direction t ≡ true → (test s || (test t || false)) ≡ true
    → (flank : Direction) × (crosses direction flank ≡ true) × (test flank ≡ true)
one_of_two direction s t test cross cross' some = elim (or_cases (test s) (test t || false) some) [
  | inl first ↦ (s, cross, first)
  | inr later ↦ elim (or_cases (test t) false later) [
    | inl second ↦ (t, cross', second)
    | inr none ↦ absurd (true≢false (sym none))
  ]
]

pub found_across : (direction : Direction) (test : Direction → Bool) → list_any test (across direction) ≡ true → (flank : Direction) × (crosses direction flank ≡ true) × (test flank ≡ true)
found_across Right test some = one_of_two Right Up Down test refl refl some
found_across Left test some = one_of_two Left Up Down test refl refl some
found_across Up test some = one_of_two Up Right Left test refl refl some
found_across Down test some = one_of_two Down Right Left test refl refl some

-- a crossing direction that passes is found among the two
pub across_finds : (direction flank : Direction) (test : Direction → Bool) → crosses direction flank ≡ true → test flank ≡ true → list_any test (across direction) ≡ true
across_finds Right Up test cross passes = or_left (test Up) (test Down || false) passes
across_finds Right Down test cross passes = or_right (test Up) (test Down || false) (or_left (test Down) false passes)
across_finds Left Up test cross passes = or_left (test Up) (test Down || false) passes
across_finds Left Down test cross passes = or_right (test Up) (test Down || false) (or_left (test Down) false passes)
across_finds Up Right test cross passes = or_left (test Right) (test Left || false) passes
across_finds Up Left test cross passes = or_right (test Right) (test Left || false) (or_left (test Left) false passes)
across_finds Down Right test cross passes = or_left (test Right) (test Left || false) passes
across_finds Down Left test cross passes = or_right (test Right) (test Left || false) (or_left (test Left) false passes)
across_finds direction flank test cross passes = absurd (true≢false (sym cross))

-- tests that agree at the two directions across agree on whether one of these passes
pub list_any_same_across :
    (direction : Direction) (test other : Direction → Bool) → ((flank : Direction) → crosses direction flank ≡ true → test flank ≡ other flank)
    → list_any test (across direction) ≡ list_any other (across direction)
list_any_same_across Right test other same = rw (same Up refl, same Down refl) refl
list_any_same_across Left test other same = rw (same Up refl, same Down refl) refl
list_any_same_across Up test other same = rw (same Right refl, same Left refl) refl
list_any_same_across Down test other same = rw (same Right refl, same Left refl) refl
