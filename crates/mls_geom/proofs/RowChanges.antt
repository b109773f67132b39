-- A kept row while it is changed from left to right.
use Rattle.mls_geom.proofs.Common.{◌≡◌, ◌≢◌, ℕ, ◌+◌, ◌-◌, ◌<◌, ◌≤◌, List, [], ◌∷◌, ◌++◌, length, get_or, set, map, All, ◌⊎◌, IsSomeAnd, slice_get, le_refl, inl, inr, sym, ap, refl, ◌∙◌, arith, length-set, AllWithin, Contains, cases_eq, cases_lt, cases_order, get_or-map, get_or_push, get_or-set_same, length-map, length_push, map-append, set-get_or, set-set, AllWithin-none, All-contains, All-map, All-push, Contains-append_left, Contains-get_or, Contains-push, slice_get-get_or, slice_get-map}
use Rattle.mls_geom.proofs.Definitions.{covered_count, uncovered, Picture, IsRun, IsStrip, IsChanging, IsPartlyStacked, staged, strip_of, IsKept, lowered, run_of, strip_at, AreAlike, ReachesUp, extended, new_strip, up_to, world, Piece, Run}
use Rattle.mls_geom.proofs.Joining.{AreRunsBefore-none, AreRunsBefore-push, AreRunsBefore-uncovered}
use Rattle.mls_geom.proofs.MappedLists.{All-from_map, map_alike, map_alike_but_one, map_none}
use Rattle.mls_geom.proofs.RowRuns.{AreRuns-alike, run_listed}
use Rattle.mls_geom.proofs.StagedStrips.{apart_left, between_ended, in_order, lowered_to, next_left, one_place, run_of-extended, runs_of-push, staged_alike, staged_ended, staged_left, staged_right, strip_at-push, strip_at-set}
use Rattle.mls_geom.proofs.Stacking.{BeginsAt, IsPartlyStacked-end, IsPartlyStacked-extended, IsPartlyStacked-new_strip, IsPartlyStacked-start, IsPartlyStacked-uncovered, length-lt-covered_count, sides}

-- before the first run
pub IsChanging-start :
    {picture : Picture} {bottom top : ℕ} {strips : List Piece} {row : List ℕ} → IsKept picture bottom strips row → world.bottom ≤ bottom → bottom < top → top ≤ world.top
    → AreAlike world picture bottom top → IsChanging picture bottom top world.left strips row [] 0 0
IsChanging-start {picture} {bottom} {top} {strips} {row} kept from tall to alike =
    let stacked = kept.stacked in
    let left : All (λ strip. world.left ≤ strip.rect.left) strips = λ k d within.
    (sides (All-from_map (λ strip. IsStrip (up_to bottom world) picture strip × (strip.kind ≢ uncovered)) (lowered bottom) strips stacked.laid.each k d within).0).0 in
    let lists : map (staged bottom top world.left) strips ≡ map (lowered bottom) strips = map_alike (staged bottom top world.left) (lowered bottom) strips (strip_at [] 0) (λ k within.
    elim (cases_eq (strip_at strips k).rect.top world.top) [
      | inl reaches ↦ staged_right bottom top world.left (strip_at strips k) reaches (left k (strip_at [] 0) within) ∙ sym (lowered_to bottom bottom (strip_at strips k) (omega arith))
      | inr ends ↦
          let low = kept.ended k within (λ listed. ends (All-contains (λ k. (k < length strips) × ((strip_at strips k).rect.top ≡ world.top)) row k kept.reaching listed).1) in
          staged_ended bottom top world.left (strip_at strips k) ends ∙ sym (lowered_to bottom (strip_at strips k).rect.top (strip_at strips k) (omega arith))
    ]) in
    record {
      band = record { from = from; tall = tall; alike = alike };
      to = to;
      from = le_refl world.left;
      onward = le_refl 0;
      within = omega arith;
      partly = rw lists (IsPartlyStacked-start bottom top stacked.laid stacked.count);
      runs_below = stacked.runs;
      none_below = λ low. map_none (run_of strips) row (stacked.first low);
      runs = AreRunsBefore-none world picture bottom world.left (le_refl world.left);
      known = λ m d inside. (kept.reaching m d inside).0;
      reaching = λ m d inside. absurd (omega arith);
      passed_by = AllWithin-none (λ k. (strip_at strips k).rect.left < world.left) row 0;
      ended_here = AllWithin-none (λ k. Contains [] k ⊎ ((strip_at strips k).rect.top ≡ bottom)) row 0;
      open_right = λ m d above before.
          (let (known, reaches) = kept.reaching m d before in
          (reaches, left (get_or row m d) (strip_at [] 0) known));
      ended = λ k within _ apart. kept.ended k within (λ (m, inside, is). apart m k (omega arith) inside is);
    }

-- past columns in which no square is covered
pub IsChanging-uncovered :
    {picture : Picture} {bottom top column passed open_from : ℕ} {strips : List Piece} {row next : List ℕ} (line : ℕ) → column ≤ line
    → ((x : ℕ) → column ≤ x → x < line → picture x bottom ≡ uncovered) → AllWithin (λ k. line ≤ (strip_at strips k).rect.left) row open_from (length row)
    → IsChanging picture bottom top column strips row next passed open_from → IsChanging picture bottom top line strips row next passed open_from
IsChanging-uncovered {picture} {bottom} {top} {column} {open_from} {strips} {row} {next} line on none right state =
    let same : map (staged bottom top line) strips ≡ map (staged bottom top column) strips = map_alike (staged bottom top line) (staged bottom top column) strips (strip_at [] 0)
    (λ k within. staged_alike line k state within on (apart_left strips row line open_from (length row) k right)) in
    record {
      band = state.band;
      to = state.to;
      from = omega (arith, state.from);
      onward = state.onward;
      within = state.within;
      partly = rw same (IsPartlyStacked-uncovered line (omega (arith, state.band.tall)) state.from on none state.partly);
      runs_below = state.runs_below;
      none_below = state.none_below;
      runs = AreRunsBefore-uncovered world picture bottom column line (map (run_of strips) next) state.runs on none;
      known = state.known;
      reaching = state.reaching;
      passed_by = λ m d above below. omega (arith, state.passed_by m d above below);
      ended_here = state.ended_here;
      open_right = λ m d above below. ((state.open_right m d above below).0, right m d above below);
      ended = state.ended;
    }

-- runs that begin left of the column are passed
pub IsChanging-passed :
    {picture : Picture} {bottom top column passed open_from : ℕ} {strips : List Piece} {row next : List ℕ} (n : ℕ) → passed ≤ n → n ≤ open_from
    → AllWithin (λ k. (strip_at strips k).rect.left < column) row passed n
    → IsChanging picture bottom top column strips row next passed open_from → IsChanging picture bottom top column strips row next n open_from
IsChanging-passed {passed} n onward below passed_here state = record {
  band = state.band;
  to = state.to;
  from = state.from;
  onward = below;
  within = state.within;
  partly = state.partly;
  runs_below = state.runs_below;
  none_below = state.none_below;
  runs = state.runs;
  known = state.known;
  reaching = state.reaching;
  passed_by = λ m d above before. elim (cases_lt m passed) [
    | inl sooner ↦ state.passed_by m d above sooner
    | inr later ↦ passed_here m d later before
  ];
  ended_here = λ m d above before. state.ended_here m d (omega arith) before;
  open_right = state.open_right;
  ended = state.ended;
}

-- the strip of the first run that reaches on is ended
pub IsChanging-ended :
    {picture : Picture} {bottom top column passed open_from : ℕ} {strips : List Piece} {row next : List ℕ} → open_from < length row
    → IsChanging picture bottom top column strips row next passed open_from
    → IsChanging picture bottom top column (set strips (get_or row open_from 0) (extended bottom (strip_of strips row open_from))) row next passed (open_from + 1)
IsChanging-ended {bottom} {top} {column} {passed} {open_from} {strips} {row} {next} within state =
    let k = get_or row open_from 0 in
    let strip = strip_at strips k in
    let ended = extended bottom strip in
    let k_within = state.known open_from 0 within in
    let (reaches, from) = state.open_right open_from 0 (le_refl open_from) within in
    let runs = run_of-extended strips k bottom k_within in
    let same : map (staged bottom top column) (set strips k ended) ≡ map (staged bottom top column) strips =
    map_alike_but_one (staged bottom top column) (staged bottom top column) strips k ended (strip_at [] 0) (λ j inside other. refl)
    ∙ ap (λ new. set (map (staged bottom top column) strips) k new) (staged_ended bottom top column ended (λ on. omega (arith, on, state.band.tall, state.to))
    ∙ sym (staged_right bottom top column strip reaches from) ∙ sym (get_or-map (staged bottom top column) strips k (strip_at [] 0) (strip_at [] 0) k_within))
    ∙ set-get_or (map (staged bottom top column) strips) k (strip_at [] 0) in
    let left = λ (j : ℕ). ap (λ runs. (runs j).left) runs in
    record {
      band = state.band;
      to = state.to;
      from = state.from;
      onward = omega (arith, state.onward);
      within = omega arith;
      partly = rw same state.partly;
      runs_below = rw runs state.runs_below;
      none_below = state.none_below;
      runs = rw runs state.runs;
      known = rw length-set state.known;
      reaching = λ m d inside. (
        rw length-set (state.reaching m d inside).0,
        strip_at-set (λ strip. strip.rect.top ≡ world.top) strips k (get_or next m d) ended k_within
            (λ is. absurd (omega (arith, rw is at (next_left (get_or next m d) state (Contains-get_or next m d inside)), from)))
            (λ _. (state.reaching m d inside).1),
      );
      passed_by = λ m d above before. rw (left (get_or row m d)) (state.passed_by m d above before);
      ended_here = λ m d above before. elim (cases_lt m open_from) [
        | inl sooner ↦ elim (state.ended_here m d above sooner) [
          | inl listed ↦ inl listed
          | inr low ↦ inr (strip_at-set (λ strip. strip.rect.top ≡ bottom) strips k (get_or row m d) ended k_within (λ _. refl) (λ _. low))
        ]
        | inr last ↦ inr (strip_at-set (λ strip. strip.rect.top ≡ bottom) strips k (get_or row m d) ended k_within (λ _. refl)
            (λ other. absurd (other (one_place row m open_from d (omega arith) within))))
      ];
      open_right = λ m d above before. (
        strip_at-set (λ strip. strip.rect.top ≡ world.top) strips k (get_or row m d) ended k_within
            (λ is. absurd (omega (arith, rw (is, one_place row open_from open_from d refl within) at (in_order open_from m d state (omega arith) before))))
            (λ _. (state.open_right m d (omega arith) before).0),
        rw (left (get_or row m d)) (state.open_right m d (omega arith) before).1,
      );
      ended = λ j inside unlisted apart. strip_at-set (λ strip. strip.rect.top ≤ bottom) strips k j ended k_within (λ _. le_refl bottom)
          (λ other. state.ended j (rw length-set at inside) unlisted (λ m d above before. elim (cases_lt open_from m) [
            | inl later ↦ apart m d (omega arith) before
            | inr first ↦ (λ is. other (sym is ∙ one_place row m open_from d (omega arith) within))
          ]));
    }

-- a run stands on one whose strip was ended, at the column
reaches_again :
    {picture : Picture} {bottom top column passed open_from : ℕ} {strips : List Piece} {row next : List ℕ} (u : ℕ) → passed ≤ u → u < open_from
    → (strip_of strips row u).rect.left ≡ column
    → IsRun world picture (strip_of strips row u).rect.left (strip_of strips row u).rect.right bottom (strip_of strips row u).kind
    → AllWithin (λ k. (strip_at strips k).rect.left < column) row passed u
    → AllWithin (λ k. (strip_of strips row u).rect.right ≤ (strip_at strips k).rect.left) row open_from (length row)
    → IsChanging picture bottom top column strips row next passed open_from
    → IsChanging picture bottom top (strip_of strips row u).rect.right (set strips (get_or row u 0) (extended world.top (strip_of strips row u))) row
    (next ++ get_or row u 0 ∷ []) u open_from
reaches_again {picture} {bottom} {top} {column} {passed} {open_from} {strips} {row} {next} u onward below at_column here passed_here right state =
    let k = get_or row u 0 in
    let strip = strip_at strips k in
    let new = extended world.top strip in
    let k_within = state.known u 0 (omega (arith, state.within)) in
    let low : strip.rect.top ≡ bottom = elim (state.ended_here u 0 onward below) [
      | inl listed ↦ absurd (omega (arith, next_left k state listed, at_column))
      | inr low ↦ low
    ] in
    let was : get_or (map (staged bottom top column) strips) k (strip_at [] 0) ≡ strip =
    get_or-map (staged bottom top column) strips k (strip_at [] 0) (strip_at [] 0) k_within
    ∙ staged_ended bottom top column strip (λ on. omega (arith, on, low, state.band.tall, state.to)) in
    let lists : map (staged bottom top strip.rect.right) (set strips k new)
    ≡ set (map (staged bottom top column) strips) k (extended top (get_or (map (staged bottom top column) strips) k (strip_at [] 0))) =
    map_alike_but_one (staged bottom top strip.rect.right) (staged bottom top column) strips k new (strip_at [] 0)
    (λ j inside _. staged_alike strip.rect.right j state inside (omega (arith, here.wide, at_column)) (apart_left strips row strip.rect.right open_from (length row) j right))
    ∙ ap (λ strip. set (map (staged bottom top column) strips) k strip) (staged_left bottom top strip.rect.right new refl here.wide ∙ sym (ap (extended top) was)) in
    let run = run_of strips k in
    let some = rw was at (state.partly.covered k (strip_at [] 0) (rw (length-map strips (staged bottom top column)) k_within)) in
    let runs = run_of-extended strips k world.top k_within in
    let left = λ (j : ℕ). ap (λ runs. (runs j).left) runs in
    record {
      band = state.band;
      to = state.to;
      from = omega (arith, state.from, here.wide, at_column);
      onward = omega arith;
      within = state.within;
      partly = rw lists (IsPartlyStacked-extended run k (strip_at [] 0) state.band here some (rw at_column state.partly) (rw (length-map strips (staged bottom top column)) k_within)
          (rw was low) (rw was (record { left = refl; right = refl; kind = refl })));
      runs_below = rw runs state.runs_below;
      none_below = state.none_below;
      runs = rw (runs, map-append (run_of strips) next (k ∷ []))
          (AreRunsBefore-push world picture bottom (map (run_of strips) next) run (rw at_column state.runs) here some);
      known = rw length-set state.known;
      reaching = rw length-set (All-push (λ j. (j < length strips) × ((strip_at (set strips k new) j).rect.top ≡ world.top)) next k
          (λ m d inside. (
            (state.reaching m d inside).0,
            strip_at-set (λ strip. strip.rect.top ≡ world.top) strips k (get_or next m d) new k_within (λ _. refl) (λ _. (state.reaching m d inside).1),
          ))
          (k_within, strip_at-set (λ strip. strip.rect.top ≡ world.top) strips k k new k_within (λ _. refl) (λ other. absurd (other refl))));
      passed_by = λ m d above before. rw (left (get_or row m d)) (elim (cases_lt m passed) [
        | inl sooner ↦ omega (arith, state.passed_by m d above sooner, here.wide, at_column)
        | inr later ↦ omega (arith, passed_here m d later before, here.wide, at_column)
      ]);
      ended_here = λ m d above before. elim (cases_eq (get_or row m d) k) [
        | inl is ↦ inl (rw is (Contains-push next k))
        | inr other ↦ elim (state.ended_here m d (omega arith) before) [
          | inl listed ↦ inl (Contains-append_left next (k ∷ []) (get_or row m d) listed)
          | inr ended ↦ inr (strip_at-set (λ strip. strip.rect.top ≡ bottom) strips k (get_or row m d) new k_within (λ is. absurd (other is)) (λ _. ended))
        ]
      ];
      open_right = λ m d above before. (
        strip_at-set (λ strip. strip.rect.top ≡ world.top) strips k (get_or row m d) new k_within (λ _. refl) (λ _. (state.open_right m d above before).0),
        rw (left (get_or row m d)) (right m d above before),
      );
      ended = λ j inside unlisted apart. strip_at-set (λ strip. strip.rect.top ≤ bottom) strips k j new k_within
          (λ is. absurd (unlisted (rw is (Contains-push next k))))
          (λ _. state.ended j (rw length-set at inside) (λ listed. unlisted (Contains-append_left next (k ∷ []) j listed)) apart);
    }

-- a run stands on one whose strip was ended, and which reaches on again
pub IsChanging-on :
    {picture : Picture} {bottom top column passed open_from : ℕ} {strips : List Piece} {row next : List ℕ} (l r kind u : ℕ) → passed ≤ u → u < open_from
    → IsRun world picture l r bottom kind → l ≡ column
    → (strip_of strips row u).rect.left ≡ l → (strip_of strips row u).rect.right ≡ r → (strip_of strips row u).kind ≡ kind
    → AllWithin (λ k. (strip_at strips k).rect.left < l) row passed u → AllWithin (λ k. r ≤ (strip_at strips k).rect.left) row open_from (length row)
    → IsChanging picture bottom top column strips row next passed open_from
    → IsChanging picture bottom top r (set strips (get_or row u 0) (extended world.top (strip_of strips row u))) row (next ++ get_or row u 0 ∷ []) u open_from
IsChanging-on {picture} {bottom} {top} {column} {strips} {row} {next} l r kind u onward below here line left right same passed_here open_right state =
    rw (← right) (reaches_again u onward below (left ∙ line) (rw (left, right, same) here) (rw (← line) passed_here) (rw right open_right) state)

-- a run goes on at the column: its strip is ended, and reaches on again
goes_on :
    {picture : Picture} {bottom top : ℕ} {strips : List Piece} {row next : List ℕ} (n : ℕ) → n < length row
    → IsRun world picture (strip_of strips row n).rect.left (strip_of strips row n).rect.right bottom (strip_of strips row n).kind
    → IsChanging picture bottom top (strip_of strips row n).rect.left strips row next n n
    → IsChanging picture bottom top (strip_of strips row n).rect.right strips row (next ++ get_or row n 0 ∷ []) (n + 1) (n + 1)
goes_on {picture} {bottom} {top} {strips} {row} {next} n within here state =
    let k = get_or row n 0 in
    let strip = strip_at strips k in
    let ended = set strips k (extended bottom strip) in
    let k_within = state.known n 0 within in
    let (reaches, _) = state.open_right n 0 (le_refl n) within in
    let runs = run_of-extended strips k bottom k_within in
    let left = λ (j : ℕ). ap (λ runs. (runs j).left) runs in
    let up : extended world.top (strip_at ended k) ≡ strip =
    ap (extended world.top) (get_or-set_same strips k (extended bottom strip) (strip_at [] 0) k_within) ∙ ap (λ line. extended line strip) (sym reaches) in
    let back : set ended k (extended world.top (strip_at ended k)) ≡ strips =
    ap (set ended k) up ∙ set-set strips k (extended bottom strip) strip ∙ set-get_or strips k (strip_at [] 0) in
    let again = IsChanging-on strip.rect.left strip.rect.right strip.kind n (le_refl n) (omega arith) here refl
    (left k) (ap (λ runs. (runs k).right) runs) (ap (λ runs. (runs k).kind) runs) (AllWithin-none (λ k. (strip_at ended k).rect.left < strip.rect.left) row n)
    (λ m d above before. rw (left (get_or row m d), ← one_place row n n d refl within) (in_order n m d state (omega arith) before).1)
    (IsChanging-ended within state) in
    IsChanging-passed (n + 1) (omega arith) (le_refl (n + 1)) (λ m d above before. rw (one_place row m n d (omega arith) within) here.wide) (rw back at again)

-- a run goes on that no square of the row below changes
pub IsChanging-kept :
    {picture : Picture} {bottom top column : ℕ} {strips : List Piece} {row next : List ℕ} (n : ℕ) → n < length row
    → IsRun world picture (strip_of strips row n).rect.left (strip_of strips row n).rect.right bottom (strip_of strips row n).kind
    → ((x : ℕ) → column ≤ x → x < (strip_of strips row n).rect.left → picture x bottom ≡ uncovered)
    → IsChanging picture bottom top column strips row next n n
    → IsChanging picture bottom top (strip_of strips row n).rect.right strips row (next ++ get_or row n 0 ∷ []) (n + 1) (n + 1)
IsChanging-kept {strips} {row} n within here none state =
    let line = (strip_of strips row n).rect.left in
    let right : AllWithin (λ k. line ≤ (strip_at strips k).rect.left) row n (length row) = λ m d above before. elim (cases_lt n m) [
      | inl later ↦ omega (arith, rw (one_place row n n d refl within) at (in_order n m d state later before))
      | inr first ↦ rw (one_place row m n d (omega arith) within) (le_refl line)
    ] in
    goes_on n within here (IsChanging-uncovered line (state.open_right n 0 (le_refl n) within).1 none right state)

-- a run of the column that stands on none of those below
module _
    {picture : Picture} {bottom top column passed open_from : ℕ} {strips : List Piece} {row next : List ℕ} (l r kind u : ℕ) (onward : passed ≤ u) (below : u ≤ open_from)
    (here : IsRun world picture l r bottom kind) (some : kind ≢ uncovered) (line : l ≡ column) (passed_here : AllWithin (λ k. (strip_at strips k).rect.left < l) row passed u)
    (stands_on_none : u < open_from → (l ≤ (strip_of strips row u).rect.left)
    × ((strip_of strips row u).rect.left ≡ l → (strip_of strips row u).rect.right ≡ r → (strip_of strips row u).kind ≢ kind))
    (right : AllWithin (λ k. r ≤ (strip_at strips k).rect.left) row open_from (length row)) (state : IsChanging picture bottom top column strips row next passed open_from) where
  -- it begins a strip
  begins_here : BeginsAt world picture bottom (record { left = l; right = r; kind = kind; strip = length strips })
  begins_here above run_below =
      let (m, under, inside, is, same) = run_listed (map (run_of strips) row) (state.runs_below above) run_below some in
      let m_within : m < length row = rw (length-map row (run_of strips)) at inside in
      let names : run_of strips (get_or row m 0) ≡ under = sym (get_or-map (run_of strips) row m 0 under m_within) ∙ is in
      let left : (strip_of strips row m).rect.left ≡ l = ap (λ run. run.left) names ∙ same.left in
      elim (cases_lt m open_from) [
        | inr on ↦ omega (arith, right m 0 on m_within, left, here.wide)
        | inl closed ↦ elim (cases_order m u) [
          | inl here_too ↦ (stands_on_none (omega arith)).1 (rw here_too at left) (rw here_too at (ap (λ run. run.right) names ∙ same.right))
              (rw here_too at (ap (λ run. run.kind) names ∙ same.kind))
          | inr (inl before) ↦ elim (cases_lt m passed) [
            | inl sooner ↦ omega (arith, state.passed_by m 0 (omega arith) sooner, left, line)
            | inr later ↦ omega (arith, passed_here m 0 later before, left)
          ]
          | inr (inr after) ↦ omega (arith, (stands_on_none (omega arith)).0, in_order u m 0 state after m_within, left)
        ]
      ]

  -- the row with that strip
  pub IsChanging-new :
      IsChanging picture bottom top r (strips ++ record { rect = record { left = l; bottom = bottom; right = r; top = world.top }; kind = kind } ∷ []) row
      (next ++ length strips ∷ []) u open_from
  IsChanging-new =
      let new : Piece = record { rect = record { left = l; bottom = bottom; right = r; top = world.top }; kind = kind } in
      let run : Run = record { left = l; right = r; kind = kind; strip = length strips } in
      let alike : map (staged bottom top r) strips ≡ map (staged bottom top column) strips = map_alike (staged bottom top r) (staged bottom top column) strips (strip_at [] 0)
      (λ k within. staged_alike r k state within (omega (arith, here.wide)) (apart_left strips row r open_from (length row) k right)) in
      let lists : map (staged bottom top r) (strips ++ new ∷ []) ≡ map (staged bottom top column) strips ++ new_strip bottom top run ∷ [] =
      map-append (staged bottom top r) strips (new ∷ []) ∙ ap (λ strips. strips ++ staged bottom top r new ∷ []) alike
      ∙ ap (λ strip. map (staged bottom top column) strips ++ strip ∷ []) (staged_left bottom top r new refl here.wide) in
      let last : run_of (strips ++ new ∷ []) (length strips) ≡ run = rw (get_or_push strips new (strip_at [] 0) (length strips) refl) refl in
      let was = λ (m d : ℕ) (before : m < length row). strip_at-push strips new (get_or row m d) (state.known m d before) in
      record {
        band = state.band;
        to = state.to;
        from = omega (arith, state.from, here.wide);
        onward = below;
        within = state.within;
        partly = rw lists (IsPartlyStacked-new_strip run state.band here some (rw line state.partly) begins_here);
        runs_below = rw (runs_of-push strips new row state.known) state.runs_below;
        none_below = state.none_below;
        runs = rw (map-append (run_of (strips ++ new ∷ [])) next (length strips ∷ []), runs_of-push strips new next (λ m d inside. (state.reaching m d inside).0), last)
            (AreRunsBefore-push world picture bottom (map (run_of strips) next) run (rw line state.runs) here some);
        known = λ m d inside. rw length_push (omega (arith, state.known m d inside));
        reaching = All-push (λ k. (k < length (strips ++ new ∷ [])) × ((strip_at (strips ++ new ∷ []) k).rect.top ≡ world.top)) next (length strips)
            (λ m d inside.
            (let (known, reaches) = state.reaching m d inside in
            (rw length_push (omega (arith, known)), rw (strip_at-push strips new (get_or next m d) known) reaches)))
            (rw length_push (omega arith), rw (get_or_push strips new (strip_at [] 0) (length strips) refl) refl);
        passed_by = λ m d above before. rw (was m d (omega (arith, state.within))) (elim (cases_lt m passed) [
          | inl sooner ↦ omega (arith, state.passed_by m d above sooner, here.wide, line)
          | inr later ↦ omega (arith, passed_here m d later before, here.wide)
        ]);
        ended_here = λ m d above before. elim (state.ended_here m d (omega arith) before) [
          | inl listed ↦ inl (Contains-append_left next (length strips ∷ []) (get_or row m d) listed)
          | inr low ↦ inr (rw (was m d (omega (arith, state.within))) low)
        ];
        open_right = λ m d above before. rw (was m d before) ((state.open_right m d above before).0, right m d above before);
        ended = λ k inside unlisted apart. elim (cases_lt k (length strips)) [
          | inl old ↦ rw (strip_at-push strips new k old) (state.ended k old (λ listed. unlisted (Contains-append_left next (length strips ∷ []) k listed)) apart)
          | inr past ↦
              let is : k ≡ length strips = omega (arith, rw length_push at inside) in
              absurd (unlisted (rw is (Contains-push next (length strips))))
        ];
      }

  -- there are more strips than so far
  pub IsChanging-too_many : length strips < covered_count (up_to top world) picture
  IsChanging-too_many =
      let run : Run = record { left = l; right = r; kind = kind; strip = length strips } in
      let partly : IsPartlyStacked world picture bottom top l (map (staged bottom top column) strips) = rw line state.partly in
      rw (length-map strips (staged bottom top column)) at
      (length-lt-covered_count run state.band here some partly begins_here)

-- after the last run
pub IsChanging-finish :
    {picture : Picture} {bottom top : ℕ} {strips : List Piece} {row next : List ℕ}
    → IsChanging picture bottom top world.right strips row next (length row) (length row) → IsKept picture top strips next
IsChanging-finish {picture} {bottom} {top} {strips} {row} {next} state =
    let band = state.band in
    let apart = λ (k : ℕ). AllWithin-none (λ other. other ≢ k) row (length row) in
    let ended = λ (k : ℕ) (within : k < length strips) (unlisted : ¬ (Contains next k)). state.ended k within unlisted (apart k) in
    let lists : map (staged bottom top world.right) strips ≡ map (lowered top) strips = map_alike (staged bottom top world.right) (lowered top) strips (strip_at [] 0) (λ k within.
    let strip = strip_at strips k in
    elim (cases_eq strip.rect.top world.top) [
      | inl reaches ↦ elim (cases_lt strip.rect.left world.right) [
        | inl left ↦ staged_left bottom top world.right strip reaches left ∙ sym (lowered_to top top strip (omega (arith, reaches, state.to)))
        | inr past ↦ absurd (omega (arith, between_ended k state within past (apart k), reaches, band.tall, state.to))
      ]
      | inr ends ↦
          let low = ended k within (λ listed. ends (All-contains (λ k. (k < length strips) × ((strip_at strips k).rect.top ≡ world.top)) next k state.reaching listed).1) in
          staged_ended bottom top world.right strip ends ∙ sym (lowered_to top strip.rect.top strip (omega (arith, low, band.tall)))
    ]) in
    let (laid, count) = IsPartlyStacked-end band (rw lists at state.partly) in
    record {
      stacked = record {
        laid = laid;
        count = count;
        first = λ low. absurd (omega (arith, band.from, band.tall));
        runs = λ _. AreRuns-alike (top - 1) (λ x left right. band.alike x (top - 1) left right (omega (arith, band.tall)) (omega (arith, band.tall)))
            (record { each = state.runs.each; covered = state.runs.covered; whole = state.runs.whole; ordered = state.runs.ordered });
        named = All-map (λ run. IsSomeAnd (slice_get (map (lowered top) strips) run.strip) (ReachesUp top run)) (run_of strips) next (λ m d inside.
            (let (known, reaches) = state.reaching m d inside in
            rw (slice_get-map (lowered top) strips (get_or next m d), slice_get-get_or strips (get_or next m d) (strip_at [] 0) known)
            (record { left = refl; right = refl; top = omega (arith, reaches, state.to); kind = refl })));
      };
      reaching = state.reaching;
      ended = λ k within unlisted. omega (arith, ended k within unlisted, band.tall);
    }
