-- The sections of the types of a layout, a type more at a time, and the strips of its planes, a plane more at a time.
use Rattle.std.proofs.Common.{◌≡◌, ℕ, ◌+◌, ◌-◌, ◌≤◌, ◌<◌, ◌||◌, nat_lt, true, false, List, [], ◌∷◌, ◌++◌, length, map, get_or, Option, Some, None, refl, sym, ap, ◌∙◌, append_assoc, arith, length-append, flat_map, Result, Ok, Err, IfErr, map-id, append-nil}
use Rattle.std.specs.List.{range_with_len}
use Rattle.std.specs.Result.{IsErrAnd}
use Rattle.std.specs.Option.{option_map_or}
use Rattle.std.proofs.lemmas.List.Concat.{flat_map-append}
use Rattle.std.proofs.lemmas.List.FromFn.{get_or-map-range_with_len, map-range_with_len_more}
use Rattle.std.proofs.lemmas.Bool.Decides.{nat_tests}
use Rattle.mls_session.proofs.Common.{IfTooMany, Layout, ListsPlanes, Picture, Piece, Tech, Unlisted, exceeds_tiles, layer_lines, layers_lines, plane_of_type, strips_on, text_of, tile_count, world}
use Rattle.mls_library.proofs.SavedTexts.{text_of-append, text_of-none}
use Rattle.mls_layout.specs.declared.strips.Unlisted.TheVariants.{Memory, TooMany}
use Rattle.mls_library.proofs.FirstPlanes.{any_at, any_more}
use Rattle.mls_session.proofs.SavedCounts.{layer_lines-few, strips_few}

module _ (tech : Tech) (layout : Layout) where
  -- the strips of a type's plane
  abbrev pub strips_at : ℕ → List Piece
  strips_at kind = option_map_or (strips_on layout) (plane_of_type tech.type_planes kind) []

  -- the sections of the types before one
  abbrev pub lines_before : ℕ → List (List ℕ)
  lines_before kind = layers_lines tech (strips_on layout) (range_with_len 1 (kind - 1))

  pub lines_before-first : lines_before 1 ≡ []
  unfolding layers_lines
  lines_before-first = refl

  pub lines_before-next : (kind : ℕ) → 1 ≤ kind → lines_before (kind + 1) ≡ lines_before kind ++ layer_lines tech kind (strips_at kind)
  unfolding layers_lines
  lines_before-next kind from =
      let section : ℕ → List (List ℕ) = λ k. layer_lines tech k (strips_at k) in
      let kinds = range_with_len 1 (kind - 1) in
      let next : kind + 1 - 1 ≡ kind - 1 + 1 = omega (arith, from) in
      let more = simp map-id at (map-range_with_len_more (λ k. k) 1 (kind - 1) kind (omega (arith, from))) in
      ap (λ n. flat_map section (range_with_len 1 n)) next ∙ ap (flat_map section) more ∙ flat_map-append section kinds (kind ∷ [])
      ∙ ap (λ lines. flat_map section kinds ++ lines) (append-nil (section kind))

  -- the text of one section more
  pub text_before-next :
      (kind : ℕ) (strips : List Piece) (base old new : List ℕ) → 1 ≤ kind → strips ≡ strips_at kind → old ≡ base ++ text_of (lines_before kind)
      → new ≡ old ++ text_of (layer_lines tech kind strips) → new ≡ base ++ text_of (lines_before (kind + 1))
  text_before-next kind strips base old new from is before appended =
      appended ∙ ap (λ list. old ++ text_of (layer_lines tech kind list)) is ∙ ap (λ text. text ++ text_of (layer_lines tech kind (strips_at kind))) before
      ∙ append_assoc base (text_of (lines_before kind)) (text_of (layer_lines tech kind (strips_at kind)))
      ∙ ap (λ text. base ++ text) (sym (text_of-append (lines_before kind) (layer_lines tech kind (strips_at kind))) ∙ ap text_of (sym (lines_before-next kind from)))

  pub text_before-first : (base : List ℕ) → base ≡ base ++ text_of (lines_before 1)
  text_before-first base = sym (append-nil base) ∙ ap (λ text. base ++ text) (sym text_of-none ∙ ap text_of (sym lines_before-first))

  -- and its lines
  pub count_before-next : (kind : ℕ) → 1 ≤ kind → length (lines_before (kind + 1)) ≡ length (lines_before kind) + length (layer_lines tech kind (strips_at kind))
  count_before-next kind from = ap length (lines_before-next kind from) ∙ length-append (lines_before kind) (layer_lines tech kind (strips_at kind))

  strips_at-few : (found : Option ℕ) → length (option_map_or (strips_on layout) found []) ≤ 4398046511104
  strips_at-few None = omega arith
  strips_at-few (Some plane) = strips_few (layout plane)

  -- which are no more than the world has squares, and one
  pub section-few : (kind : ℕ) → length (layer_lines tech kind (strips_at kind)) ≤ 4398046511105
  section-few kind = omega (arith, layer_lines-few tech kind (strips_at kind), strips_at-few (plane_of_type tech.type_planes kind))

-- ---- the strips of the first planes
-- the list of a plane's strips among those of all planes
pub ListsPlanes-at : (layout : Layout) (lists : List (List Piece)) (plane : ℕ) (list : List Piece) → ListsPlanes layout lists → plane < length lists → list ≡ get_or lists plane list → list ≡ strips_on layout plane
ListsPlanes-at layout lists plane list all within is =
    is ∙ ap (λ (l : List (List Piece)). get_or l plane list) all ∙ get_or-map-range_with_len (strips_on layout) 0 (length lists) plane plane list within (omega arith)

pub ListsPlanes-all :
    (layout : Layout) (lists : List (List Piece)) (planes : ℕ) → lists ≡ map (strips_on layout) (range_with_len 0 planes) → length lists ≡ planes → ListsPlanes layout lists
ListsPlanes-all layout lists planes are count = are ∙ ap (λ n. map (strips_on layout) (range_with_len 0 n)) (sym count)

-- one plane more
pub ListsPlanes-push :
    (layout : Layout) (old new : List (List Piece)) (plane : ℕ) (list : List Piece) → old ≡ map (strips_on layout) (range_with_len 0 plane) → new ≡ old ++ list ∷ []
    → list ≡ strips_on layout plane → new ≡ map (strips_on layout) (range_with_len 0 (plane + 1))
ListsPlanes-push layout old new plane list before pushed is =
    pushed ∙ ap (λ (l : List (List Piece)). l ++ list ∷ []) before ∙ ap (λ (l : List Piece). map (strips_on layout) (range_with_len 0 plane) ++ l ∷ []) is
    ∙ sym (map-range_with_len_more (strips_on layout) 0 plane plane (omega arith))

-- ---- planes with too many tiles
pub exceeds_tiles-at : (most planes plane : ℕ) (layout : Layout) (picture : Picture) → plane < planes → picture ≡ layout plane → most < tile_count world picture → exceeds_tiles most planes layout ≡ true
exceeds_tiles-at most planes plane layout picture within is many =
    let test : nat_lt most (tile_count world picture) ≡ true = grind (arith, nat_tests, many) in
    any_at (λ p. nat_lt most (tile_count world (layout p))) planes plane within (ap (λ (p : Picture). nat_lt most (tile_count world p)) (sym is) ∙ test)

pub exceeds_tiles-more :
    (most plane : ℕ) (layout : Layout) (picture : Picture) → picture ≡ layout plane → tile_count world picture ≤ most → exceeds_tiles most plane layout ≡ false
    → exceeds_tiles most (plane + 1) layout ≡ false
exceeds_tiles-more most plane layout picture is few before =
    let test : nat_lt most (tile_count world picture) ≡ false = grind (arith, nat_tests, few) in
    any_more (λ p. nat_lt most (tile_count world (layout p))) plane
    ∙ ap (λ b. b || nat_lt most (tile_count world (layout plane))) before ∙ ap (λ (p : Picture). nat_lt most (tile_count world p)) (sym is) ∙ test

IfTooMany-map : (fault : Unlisted) (P Q : Type 0) → (P → Q) → IfTooMany fault P → IfTooMany fault Q
IfTooMany-map TooMany P Q f p = f p
IfTooMany-map Memory P Q f p = tt

-- a fault that is handed on
pub too_many-on :
    {T : Type 0} (result : Result T Unlisted) (fault : Unlisted) (P Q : Type 0) → IsErrAnd result (λ handed. handed ≡ fault) → (P → Q) → IfTooMany fault P
    → IfErr result (λ handed. IfTooMany handed Q)
too_many-on (Ok x) fault P Q is f many = tt
too_many-on (Err handed) fault P Q is f many = rw is (IfTooMany-map fault P Q f many)
