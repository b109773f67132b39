-- What keeps a pool sound: one owner's row and places change, an owner comes, an owner goes.
use Rattle.std.proofs.Common.{◌≡◌, ◌≢◌, ℕ, ◌+◌, ◌-◌, ◌<◌, ◌≤◌, eqb, cond, [], length, Option, Some, None, is_some, refl, sym, ap, ◌∙◌, inl, inr, arith}
use Rattle.mls_tilepool.proofs.Common.{sum_by, option_map, option_map_or, cases_eq, cond-true, cond-false, eq-eqb, ne_eqb, Slab, ContainsKey, HasRoomFor, Updates, entries_from, get, slab_len, with_value, Updates-with_value, owned, IsPool, IsRow, held_of, owned_slots, Place, Row, Tile}
use Rattle.mls_tilepool.proofs.Chains.{IsChain-same, links_of}
use Rattle.mls_tilepool.proofs.Slots.{entries_from-same, sum_by-change, sum_by-gap, sum_by-le}
use Rattle.mls_tilepool.proofs.PoolChanges.{owned_at, owned_count-change, owned-own, tile_count}
use Rattle.mls_tilepool.proofs.Rows.{IsRow-others, OthersStay}

-- the reserve of a row, and how many tiles it has
abbrev pub room_or : Option Row → ℕ
room_or row = option_map_or (λ (r : Row). r.room) row 0

abbrev pub count_or : Option Row → ℕ
count_or row = option_map_or (λ (r : Row). r.count) row 0

-- 1 for a value, and 0 for none
abbrev pub one_if : {X : Type 0} → Option X → ℕ
one_if slot = cond (is_some slot) 1 0

-- an owner with fewer tiles than it reserved has a place left for one
count_within : (row : Option Row) → ((r : Row) → row ≡ Some r → r.count ≤ r.room) → count_or row ≤ room_or row
count_within None within = omega arith
count_within (Some row) within = within row refl

pub room_for_tile :
    (capacity reserved : ℕ) (places : Slab Place) (rows : Slab Row) (owner : ℕ) (row : Row)
    → IsPool capacity reserved places rows → get rows owner ≡ Some row → row.count < row.room → HasRoomFor places 1
room_for_tile capacity reserved places rows owner row is found fits =
    let gap = sum_by-gap count_or room_or rows.slots owner refl refl
    (λ other. count_within (get rows other) (λ r there. (is.owners other r there).within)) in
    omega (arith, gap, ap count_or found, ap room_or found, is.sum, is.within, is.place_room, is.tiles, fits)

-- a pool with something unreserved has a row left
one_within : (row : Option Row) → ((r : Row) → row ≡ Some r → 1 ≤ r.room) → one_if row ≤ room_or row
one_within None within = omega arith
one_within (Some row) within = within row refl

pub room_for_row : (capacity reserved : ℕ) (places : Slab Place) (rows : Slab Row) → IsPool capacity reserved places rows → reserved < capacity → HasRoomFor rows 1
room_for_row capacity reserved places rows is some =
    let fits : sum_by one_if rows.slots ≤ sum_by room_or rows.slots =
    sum_by-le one_if room_or rows.slots (λ other. one_within (get rows other) (λ r there. (is.owners other r there).some)) in
    let len : slab_len rows ≡ sum_by one_if rows.slots = refl in
    omega (arith, fits, len, is.sum, is.row_room, some)

-- an owner has reserved at most what all have
pub room_reserved :
    (capacity reserved : ℕ) (places : Slab Place) (rows : Slab Row) (owner : ℕ) (row : Row)
    → IsPool capacity reserved places rows → get rows owner ≡ Some row → row.room ≤ reserved
room_reserved capacity reserved places rows owner row is found =
    let gap = sum_by-gap (λ (r : Option Row). 0) room_or rows.slots owner refl refl (λ other. omega arith) in
    omega (arith, gap, ap room_or found, is.sum)

-- a value written under a key, and the others
pub get-with_value : {X : Type 0} (slab : Slab X) (key : ℕ) (old value : X) → get slab key ≡ Some old → get (with_value slab key value) key ≡ Some value
get-with_value slab key old value found = (Updates-with_value slab key value (ap is_some found)).changed

pub get-with_value_other :
    {X : Type 0} (slab : Slab X) (key other : ℕ) (old value : X) → get slab key ≡ Some old → other ≢ key → get (with_value slab key value) other ≡ get slab other
get-with_value_other slab key other old value found differs = (Updates-with_value slab key value (ap is_some found)).others other differs

-- one owner's row and places change, and its reserve stays
pub IsPool-written :
    (capacity reserved : ℕ) (old new : Slab Place) (rows : Slab Row) (owner : ℕ) (row row' : Row)
    → IsPool capacity reserved old rows → get rows owner ≡ Some row → row'.room ≡ row.room → new.capacity ≡ old.capacity
    → slab_len new + row.count ≡ slab_len old + row'.count → OthersStay owner old.slots new.slots → IsRow new.slots owner row'
    → IsPool capacity reserved new (with_value rows owner row')
IsPool-written capacity reserved old new rows owner row row' is found room space len stay is_row =
    let here = get-with_value rows owner row row' found in
    let there : (other : ℕ) → other ≢ owner → get (with_value rows owner row') other ≡ get rows other =
    λ other differs. get-with_value_other rows owner other row row' found differs in
    let keeps : (other : ℕ) → ContainsKey rows other → ContainsKey (with_value rows owner row') other = λ other live.
    elim (cases_eq other owner) [
      | inl same ↦ ap (λ k. is_some (get (with_value rows owner row') k)) same ∙ ap is_some here
      | inr differs ↦ ap is_some (there other differs) ∙ live
    ] in
    let rooms = sum_by-change room_or rows.slots (with_value rows owner row').slots owner refl (λ other differs. ap room_or (there other differs)) in
    let counts = sum_by-change count_or rows.slots (with_value rows owner row').slots owner refl (λ other differs. ap count_or (there other differs)) in
    record {
      sum = omega (arith, is.sum, rooms, ap room_or found, ap room_or here, room);
      within = is.within;
      place_room = omega (arith, is.place_room, space);
      row_room = is.row_room;
      place_keys = omega (arith, is.place_keys, space);
      row_keys = is.row_keys;
      tiles = omega (arith, is.tiles, counts, ap count_or found, ap count_or here, len);
      owners = λ other r at.
          elim (cases_eq other owner) [
            | inl same ↦
                let both : Some row' ≡ Some r = sym here ∙ ap (get (with_value rows owner row')) (sym same) ∙ at in
                let rows_same : row' ≡ r = cc in
                rw (same, ← rows_same) is_row
            | inr differs ↦ IsRow-others old.slots new.slots owner other r stay differs (is.owners other r (sym (there other differs) ∙ at))
          ];
      each = λ key place at.
          keeps place.owner (elim (stay key) [
            | inl same ↦ is.each key place (sym same ∙ at)
            | inr own ↦ ap (λ k. is_some (get rows k)) (own.1 place at) ∙ ap is_some found
          ]);
    }

-- an owner's place has another tile
pub slab_len-with_value : {X : Type 0} (slab : Slab X) (key : ℕ) (old value : X) → get slab key ≡ Some old → slab_len (with_value slab key value) ≡ slab_len slab
slab_len-with_value slab key old value found =
    let change = sum_by-change one_if slab.slots (with_value slab key value).slots key refl
    (λ other differs. ap one_if (get-with_value_other slab key other old value found differs)) in
    let len : slab_len slab ≡ sum_by one_if slab.slots = refl in
    let len' : slab_len (with_value slab key value) ≡ sum_by one_if (with_value slab key value).slots = refl in
    omega (arith, len, len', change, ap one_if found, ap one_if (get-with_value slab key old value found))

module _ (places : Slab Place) (owner : ℕ) (row : Row) (key : ℕ) (place : Place) (tile : Tile) where
  abbrev pub retiled : Slab Place
  retiled = with_value places key (record place { tile = tile })

  -- another tile in a place of the owner's leaves its row right
  pub retiled_row : IsRow places.slots owner row → get places key ≡ Some place → place.owner ≡ owner → IsRow retiled.slots owner row
  retiled_row is found owns =
      let here : get retiled key ≡ Some (record place { tile = tile }) = get-with_value places key place (record place { tile = tile }) found in
      let there : (k : ℕ) → k ≢ key → get retiled k ≡ get places k = λ k differs. get-with_value_other places key k place (record place { tile = tile }) found differs in
      let change = owned_count-change places.slots retiled.slots owner key (λ k differs. ap held_of (there k differs)) in
      let was : held_of (get places key) ≡ Some (record { owner = owner; tile = place.tile }) = ap held_of found ∙ ap (λ o. Some (record { owner = o; tile = place.tile })) owns in
      let now : held_of (get retiled key) ≡ Some (record { owner = owner; tile = tile }) = ap held_of here ∙ ap (λ o. Some (record { owner = o; tile = tile })) owns in
      record {
        some = is.some;
        within = is.within;
        count = omega (
          arith,
          is.count,
          change,
          ap (λ slot. tile_count (owned owner slot)) was,
          ap (λ slot. tile_count (owned owner slot)) now,
          ap tile_count (owned-own owner place.tile),
          ap tile_count (owned-own owner tile),
        );
        keys = is.keys;
        chain = IsChain-same places.slots retiled.slots owner None row.first is.keys (λ k inside.
            elim (cases_eq k key) [
              | inl same ↦ rw same (ap (option_map links_of) here ∙ sym (ap (option_map links_of) found))
              | inr differs ↦ ap (option_map links_of) (there k differs)
            ]) is.chain;
        each = is.each;
        all = λ k p at owned_by.
            elim (cases_eq k key) [
              | inl same ↦ rw same (is.all key place found owns)
              | inr differs ↦ is.all k p (sym (there k differs) ∙ at) owned_by
            ];
      }

  pub retiled_stay : get places key ≡ Some place → place.owner ≡ owner → OthersStay owner places.slots retiled.slots
  retiled_stay found owns k =
      let here : get retiled key ≡ Some (record place { tile = tile }) = get-with_value places key place (record place { tile = tile }) found in
      elim (cases_eq k key) [
        | inl same ↦
            let before : get places k ≡ Some place = ap (get places) same ∙ found in
            let after : get retiled k ≡ Some (record place { tile = tile }) = ap (get retiled) same ∙ here in
            inr (
              λ p at. let both : Some place ≡ Some p = sym before ∙ at in let same_place : place ≡ p = cc in ap (λ q. q.owner) (sym same_place) ∙ owns,
              λ p at.
                  let both : Some (record place { tile = tile }) ≡ Some p = sym after ∙ at in
                  let same_place : record place { tile = tile } ≡ p = cc in
                  ap (λ q. q.owner) (sym same_place) ∙ owns,
            )
        | inr differs ↦ inl (get-with_value_other places key k place (record place { tile = tile }) found differs)
      ]

-- a slot that is no place of the owner's has none of its tiles, and the other way round
pub none_owned : (owner : ℕ) (slot : Option Place) → ((place : Place) → slot ≡ Some place → place.owner ≢ owner) → owned owner (held_of slot) ≡ None
none_owned owner None apart = refl
none_owned owner (Some place) apart = cond-false (eqb place.owner owner) (Some place.tile) None (ne_eqb place.owner owner (apart place refl))

owned_apart : (owner : ℕ) (slot : Option Place) (place : Place) → slot ≡ Some place → place.owner ≡ owner → owned owner (held_of slot) ≡ None → ⊥
owned_apart owner slot place found owns none =
    let here : owned owner (held_of slot) ≡ Some place.tile =
    ap (λ s. owned owner (held_of s)) found ∙ cond-true (eqb place.owner owner) (Some place.tile) None (eq-eqb place.owner owner owns) in
    cc

-- a new owner, with no tile
pub IsPool-reserved :
    (capacity reserved tiles : ℕ) (places : Slab Place) (rows new : Slab Row) (owner : ℕ)
    → IsPool capacity reserved places rows → get rows owner ≡ None
    → Updates rows new owner (Some (record { room = tiles; count = 0; first = None })) → new.capacity ≡ rows.capacity
    → 1 ≤ tiles → reserved + tiles ≤ capacity → IsPool capacity (reserved + tiles) places new
IsPool-reserved capacity reserved tiles places rows new owner is vacant updates space some fits =
    let row : Row = record { room = tiles; count = 0; first = None } in
    let rooms = sum_by-change room_or rows.slots new.slots owner refl (λ other differs. ap room_or (updates.others other differs)) in
    let counts = sum_by-change count_or rows.slots new.slots owner refl (λ other differs. ap count_or (updates.others other differs)) in
    let apart : (key : ℕ) (place : Place) → get places key ≡ Some place → place.owner ≢ owner = λ key place found same.
    let live = ap (λ k. is_some (get rows k)) (sym same) ∙ is.each key place found in
    let none = ap is_some vacant in
    cc in
    let none : (key : ℕ) → owned owner (held_of (get places key)) ≡ None = λ key. none_owned owner (get places key) (apart key) in
    record {
      sum = omega (arith, is.sum, rooms, ap room_or vacant, ap room_or updates.changed);
      within = fits;
      place_room = is.place_room;
      row_room = omega (arith, is.row_room, space);
      place_keys = is.place_keys;
      row_keys = omega (arith, is.row_keys, space);
      tiles = omega (arith, is.tiles, counts, ap count_or vacant, ap count_or updates.changed);
      owners = λ other r at.
          elim (cases_eq other owner) [
            | inl same ↦
                let both : Some row ≡ Some r = sym updates.changed ∙ ap (get new) (sym same) ∙ at in
                let rows_same : row ≡ r = cc in
                rw (same, ← rows_same) (record {
                  some = some;
                  within = omega arith;
                  count = sym (ap length (entries_from-same 0 [] (owned_slots owner places.slots) (λ key. owned_at places.slots owner key ∙ none key)));
                  keys = [];
                  chain = refl;
                  each = refl;
                  all = λ key place found owns. absurd (apart key place found owns);
                })
            | inr differs ↦ is.owners other r (sym (updates.others other differs) ∙ at)
          ];
      each = λ key place at. ap is_some (updates.others place.owner (apart key place at)) ∙ is.each key place at;
    }

-- an owner with no tile goes, and its reserve with it
pub IsPool-released :
    (capacity reserved : ℕ) (places : Slab Place) (rows new : Slab Row) (owner : ℕ) (row : Row)
    → IsPool capacity reserved places rows → get rows owner ≡ Some row
    → Updates rows new owner None → new.capacity ≡ rows.capacity
    → ((key : ℕ) → owned owner (held_of (get places key)) ≡ None) → IsPool capacity (reserved - row.room) places new
IsPool-released capacity reserved places rows new owner row is found updates space none =
    let rooms = sum_by-change room_or rows.slots new.slots owner refl (λ other differs. ap room_or (updates.others other differs)) in
    let counts = sum_by-change count_or rows.slots new.slots owner refl (λ other differs. ap count_or (updates.others other differs)) in
    let empty : length (entries_from 0 (owned_slots owner places.slots)) ≡ 0 =
    ap length (entries_from-same 0 [] (owned_slots owner places.slots) (λ key. owned_at places.slots owner key ∙ none key)) in
    record {
      sum = omega (arith, is.sum, rooms, ap room_or found, ap room_or updates.changed);
      within = omega (arith, is.within);
      place_room = is.place_room;
      row_room = omega (arith, is.row_room, space);
      place_keys = is.place_keys;
      row_keys = omega (arith, is.row_keys, space);
      tiles = omega (arith, is.tiles, counts, ap count_or found, ap count_or updates.changed, (is.owners owner row found).count, empty);
      owners = λ other r at.
          elim (cases_eq other owner) [
            | inl same ↦ let gone : get new other ≡ None = ap (get new) same ∙ updates.changed in absurd (cc)
            | inr differs ↦ is.owners other r (sym (updates.others other differs) ∙ at)
          ];
      each = λ key place at.
          ap is_some (updates.others place.owner (λ same. owned_apart owner (get places key) place at same (none key))) ∙ is.each key place at;
    }
