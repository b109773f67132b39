-- What edges reach, square by square, in maps.
use Rattle.std.proofs.Common.{◌≡◌, ℕ, ◌+◌, ◌-◌, ◌*◌, ◌<◌, ◌≤◌, max, Bool, true, false, true≢false, not, ◌||◌, ◌&&◌, List, [], ◌∷◌, length, refl, sym, ap, subst, ◌∙◌, arith}
use Rattle.std.specs.Cmp.{both_ways}
use Rattle.std.specs.List.{list_any, range_with_len}
use Rattle.std.proofs.Math.Bool.{or-false, or_comm}
use Rattle.std.proofs.lemmas.List.Folds.{list_any_none}
use Rattle.std.proofs.lemmas.Nat.{mul-le}
use Rattle.mls_edgerule.specs.Directions.{directions_in}
use Rattle.mls_edgerule.specs.declared.directions.Directions.{Directions}
use Rattle.mls_edgerule.specs.declared.directions.Directions.TheVariants.{Four, RightAndUp}
use Rattle.mls_edgerule.specs.declared.edge_rule.EdgeRule.{EdgeRule}
use Rattle.mls_geom.specs.Directions.{across, back, moved}
use Rattle.mls_geom.specs.Layouts.{Layout}
use Rattle.mls_geom.specs.Rects.{Point}
use Rattle.mls_geom.specs.declared.direction.Direction.{Direction}
use Rattle.mls_geom.specs.declared.direction.Direction.TheVariants.{Right, Up, Left, Down}
use Rattle.mls_geom.proofs.Across.{crosses}
use Rattle.mls_geom.proofs.Holds.{between_holds, holds_between}
use Rattle.mls_geom.proofs.ShiftedSquares.{at, same_square}
use Rattle.mls_kinds.specs.KindSets.{has_bit as has_type}
use Rattle.mls_checker.specs.Forbids.{in_block, in_row, is_cornered, is_edge, reaches}
use Rattle.mls_checker.specs.Maps.{Frame, IsDeep, IsFrame, IsIn, Reads, ShowTypes, Shows, TypeMaps, comes_first, corner_begins, corners_begin, frame_area, has_ahead, has_place, is_level, leads_on, of_types, place_before, place_of, places_of, row_begins, square, start_of}
use Rattle.mls_checker.proofs.BandLists.{any-or}
use Rattle.mls_checker.proofs.ListTests.{below_finds, found_below, list_any_same, list_any_same_in_range}
use Rattle.mls_checker.proofs.MapFrames.{place-moved}
use Rattle.mls_checker.proofs.Near.{IsWithin, before_block_within, before_row_within, block_within, here_within, row_within}

-- ---- one step
place-next : (frame : Frame) (direction : Direction) (q : Point) → IsFrame frame → IsIn frame q → IsIn frame (moved (back direction) 1 q)
    → place_before (leads_on direction) (places_of frame direction) (place_of frame q.x q.y) ≡ place_of frame (moved (back direction) 1 q).x (moved (back direction) 1 q).y
place-next frame direction q is here there =
    let one : places_of frame direction ≡ 1 * places_of frame direction = omega arith in
    ap (λ p. place_before (leads_on direction) p (place_of frame q.x q.y)) one ∙ place-moved frame direction 1 q.x q.y is here there

-- steps back from the flank, one by one
pub one-step-more : (flank : Direction) (j : ℕ) (q : Point) → moved (back flank) 1 (moved (back flank) j q) ≡ moved (back flank) (1 + j) q
one-step-more Right j q = same_square (q.x - j - 1) q.y (q.x - (1 + j)) q.y (omega arith) refl
one-step-more Up j q = same_square q.x (q.y - j - 1) q.x (q.y - (1 + j)) refl (omega arith)
one-step-more Left j q = same_square (q.x + j + 1) q.y (q.x + (1 + j)) q.y (omega arith) refl
one-step-more Down j q = same_square q.x (q.y + j + 1) q.x (q.y + (1 + j)) refl (omega arith)

-- the square beside the one before p is the one before the square beside p
corner-square : (direction flank : Direction) (r : Point) → crosses direction flank ≡ true → 1 ≤ r.x → 1 ≤ r.y
    → moved flank 1 (moved (back direction) 1 (moved (back flank) 1 r)) ≡ moved (back direction) 1 r
corner-square Right Up r cross left below = same_square (r.x - 1) (r.y - 1 + 1) (r.x - 1) r.y refl (omega arith)
corner-square Right Down r cross left below = same_square (r.x - 1) (r.y + 1 - 1) (r.x - 1) r.y refl (omega arith)
corner-square Left Up r cross left below = same_square (r.x + 1) (r.y - 1 + 1) (r.x + 1) r.y refl (omega arith)
corner-square Left Down r cross left below = same_square (r.x + 1) (r.y + 1 - 1) (r.x + 1) r.y refl (omega arith)
corner-square Up Right r cross left below = same_square (r.x - 1 + 1) (r.y - 1) r.x (r.y - 1) (omega arith) refl
corner-square Up Left r cross left below = same_square (r.x + 1 - 1) (r.y - 1) r.x (r.y - 1) (omega arith) refl
corner-square Down Right r cross left below = same_square (r.x - 1 + 1) (r.y + 1) r.x (r.y + 1) (omega arith) refl
corner-square Down Left r cross left below = same_square (r.x + 1 - 1) (r.y + 1) r.x (r.y + 1) (omega arith) refl
corner-square direction flank r cross left below = absurd (true≢false (sym cross))

-- ---- steps from where they begin, and steps back from where they end
abbrev turned : Bool → ℕ → ℕ → ℕ
turned true count i = count - 1 - i
turned false count i = i

turned-below : (is_on : Bool) (count i : ℕ) → i < count → turned is_on count i < count
turned-below true count i below = omega arith
turned-below false count i below = below

any-turned : (is_on : Bool) (count : ℕ) (f : ℕ → Bool) → list_any (λ i. f (turned is_on count i)) (range_with_len 0 count) ≡ list_any f (range_with_len 0 count)
any-turned true count f =
    both_ways (list_any (λ i. f (count - 1 - i)) (range_with_len 0 count)) (list_any f (range_with_len 0 count))
    (λ some. let i = found_below (λ i. f (count - 1 - i)) count some in below_finds f count (count - 1 - i.0) (omega (arith, i.1)) i.2)
    (λ some. let i = found_below f count some in
    let there : count - 1 - (count - 1 - i.0) ≡ i.0 = omega (arith, i.1) in
    below_finds (λ i. f (count - 1 - i)) count (count - 1 - i.0) (omega (arith, i.1)) (ap f there ∙ i.2))
any-turned false count f = refl

start-turned : (is_on : Bool) (s count home n i : ℕ) → i < count → (count - 1) * s ≤ home
    → n + i * s + start_of is_on s count home ≡ place_before is_on (turned is_on count i * s) (n + home)
start-turned true s count home n i below room =
    let two : count - 1 ≡ i + (count - 1 - i) = omega arith in
    let split : (count - 1) * s ≡ i * s + (count - 1 - i) * s = ap (λ m. m * s) two ∙ omega arith in
    omega (arith, split, room)
start-turned false s count home n i below room = omega arith

start-least : (is_on : Bool) (s count home : ℕ) → home - (count - 1) * s ≤ start_of is_on s count home
start-least true s count home = omega arith
start-least false s count home = omega arith

before-least : (is_on : Bool) (s m : ℕ) → m - s ≤ place_before is_on s m
before-least true s m = omega arith
before-least false s m = omega arith

step-before : (is_on : Bool) (s n m : ℕ) → s ≤ m → n + place_before is_on s m ≡ place_before is_on s (n + m)
step-before true s n m room = omega arith
step-before false s n m room = omega arith

one-less : (count s : ℕ) → 1 ≤ count → (count - 1) * s + s ≡ count * s
one-less count s some =
    let more : count - 1 + 1 ≡ count = omega arith in
    omega arith ∙ ap (λ m. m * s) more

-- ---- two flanks
-- a step in a direction and one across it
pub across-places : (frame : Frame) (direction flank other : Direction) → across direction ≡ flank ∷ other ∷ []
    → (places_of frame direction + places_of frame flank ≡ 1 + 64 * frame.words) × (places_of frame direction + places_of frame other ≡ 1 + 64 * frame.words)
across-places frame Right flank other is = (let same : flank ≡ Up = cc in ap (λ d. 1 + places_of frame d) same, let same : other ≡ Down = cc in ap (λ d. 1 + places_of frame d) same)
across-places frame Up flank other is =
    (let same : flank ≡ Right = cc in ap (λ d. 64 * frame.words + places_of frame d) same ∙ omega arith, let same : other ≡ Left = cc in ap (λ d. 64 * frame.words + places_of frame d) same ∙ omega arith)
across-places frame Left flank other is = (let same : flank ≡ Up = cc in ap (λ d. 1 + places_of frame d) same, let same : other ≡ Down = cc in ap (λ d. 1 + places_of frame d) same)
across-places frame Down flank other is =
    (let same : flank ≡ Right = cc in ap (λ d. 64 * frame.words + places_of frame d) same ∙ omega arith, let same : other ≡ Left = cc in ap (λ d. 64 * frame.words + places_of frame d) same ∙ omega arith)

pub two-more : (old one two : Bool) → ((old || one) || two) ≡ (old || (one || (two || false)))
two-more true one two = refl
two-more false true two = refl
two-more false false true = refl
two-more false false false = refl

-- ---- rows
row-shown : (rule : EdgeRule) (layout : Layout) (maps : TypeMaps) (frame : Frame) (direction : Direction) (home count i n x y : ℕ)
    → IsFrame frame → maps.frame ≡ frame → ShowTypes rule layout maps → i < count → count * places_of frame direction ≤ home → n + home ≡ place_of frame x y → IsIn frame (square x y)
    → IsIn frame (moved (back direction) (turned (leads_on direction) count i) (square x y)) → IsIn frame (moved (back direction) 1 (moved (back direction) (turned (leads_on direction) count i) (square x y)))
    → row_begins maps.before maps.behind frame count home (n + i * places_of frame direction) direction ≡ is_edge rule layout direction (moved (back direction) (turned (leads_on direction) count i) (square x y))
row-shown rule layout maps frame direction home count i n x y is same types below room ends here there before =
    let shown1 = subst (λ (f : Frame). Shows f (of_types rule.types1 (layout rule.trigger_plane)) maps.before) same types.types1 in
    let shown2 = subst (λ (f : Frame). Shows f (of_types rule.types2 (layout rule.trigger_plane)) maps.behind) same types.types2 in
    let s = places_of frame direction in
    let on = leads_on direction in
    let k = turned on count i in
    let p = moved (back direction) k (square x y) in
    let b = moved (back direction) 1 p in
    let start = start_of on s count home in
    let m = n + i * s in
    let less = one-less count s (omega arith) in
    let at_p : m + start ≡ place_of frame p.x p.y = start-turned on s count home n i below (omega (arith, less, room)) ∙ ap (place_before on (k * s)) ends ∙ place-moved frame direction k x y is here there in
    let at_b : m + place_before on s start ≡ place_of frame b.x b.y =
    step-before on s m start (omega (arith, less, room, start-least on s count home)) ∙ ap (place_before on s) at_p ∙ place-next frame direction p is there before in
    ap (λ q. has_place maps.behind q && has_place maps.before (m + place_before on s start)) at_p
    ∙ ap (λ q. has_place maps.behind (place_of frame p.x p.y) && has_place maps.before q) at_b
    ∙ ap (λ t. t && has_place maps.before (place_of frame b.x b.y)) (shown2 p.x p.y there)
    ∙ ap (λ t. has_type rule.types2 (layout rule.trigger_plane p.x p.y) && t) (shown1 b.x b.y before)

-- ---- corner blocks
corner-shown : (rule : EdgeRule) (layout : Layout) (maps : TypeMaps) (frame : Frame) (direction flank : Direction) (home count i j n : ℕ) (q : Point)
    → IsFrame frame → maps.frame ≡ frame → crosses direction flank ≡ true → ShowTypes rule layout maps → i < count → j < count
    → count * places_of frame direction + count * places_of frame flank ≤ home → n + home ≡ place_of frame q.x q.y → IsIn frame q
    → ((k l : ℕ) → k < count → l ≤ count → IsIn frame (moved (back flank) l (moved (back direction) k q)) × IsIn frame (moved (back direction) 1 (moved (back flank) l (moved (back direction) k q))))
    → IsIn frame (moved (back direction) (turned (leads_on direction) count i) q)
    → corner_begins maps.before maps.behind maps.beside frame count home (n + i * places_of frame direction + j * places_of frame flank) direction flank
    ≡ is_cornered rule layout direction flank (moved (back flank) (1 + turned (leads_on flank) count j) (moved (back direction) (turned (leads_on direction) count i) q))
corner-shown rule layout maps frame direction flank home count i j n q is same cross types below below' room ends here near first =
    let shown1 = subst (λ (f : Frame). Shows f (of_types rule.types1 (layout rule.trigger_plane)) maps.before) same types.types1 in
    let shown2 = subst (λ (f : Frame). Shows f (of_types rule.types2 (layout rule.trigger_plane)) maps.behind) same types.types2 in
    let shown3 = subst (λ (f : Frame). Shows f (of_types rule.corner_types (layout rule.trigger_plane)) maps.beside) same types.corners in
    let s = places_of frame direction in
    let s' = places_of frame flank in
    let on = leads_on direction in
    let on' = leads_on flank in
    let k = turned on count i in
    let l = turned on' count j in
    let few = turned-below on count i below in
    let few' = turned-below on' count j below' in
    let d = moved (back direction) k q in
    let r = moved (back flank) l d in
    let p = moved (back flank) 1 r in
    let e = moved (back direction) 1 p in
    let b = moved (back direction) 1 r in
    let step = one-step-more flank l d in
    let in_r = (near k l few (omega (arith, few'))).0 in
    let in_b = (near k l few (omega (arith, few'))).1 in
    let in_p : IsIn frame p = subst (λ (t : Point). IsIn frame t) (sym step) (near k (1 + l) few (omega (arith, few'))).0 in
    let in_e : IsIn frame e = subst (λ (t : Point). IsIn frame (moved (back direction) 1 t)) (sym step) (near k (1 + l) few (omega (arith, few'))).1 in
    let home' = start_of on s count home in
    let start = start_of on' s' count home' in
    let m = n + i * s + j * s' in
    let less = one-less count s (omega arith) in
    let less' = one-less count s' (omega arith) in
    let least = start-least on s count home in
    let least' = start-least on' s' count home' in
    let least'' = before-least on' s' start in
    let lines = holds_between (frame_area frame) r.x r.y in_r in
    let at_d : n + i * s + home' ≡ place_of frame d.x d.y = start-turned on s count home n i below (omega (arith, less, room)) ∙ ap (place_before on (k * s)) ends ∙ place-moved frame direction k q.x q.y is here first in
    let at_r : m + start ≡ place_of frame r.x r.y =
    start-turned on' s' count home' (n + i * s) j below' (omega (arith, less, less', least, room)) ∙ ap (place_before on' (l * s')) at_d ∙ place-moved frame flank l d.x d.y is first in_r in
    let at_p : m + place_before on' s' start ≡ place_of frame p.x p.y =
    step-before on' s' m start (omega (arith, less, less', least, least', room)) ∙ ap (place_before on' s') at_r ∙ place-next frame flank r is in_r in_p in
    let at_e : m + place_before on s (place_before on' s' start) ≡ place_of frame e.x e.y =
    step-before on s m (place_before on' s' start) (omega (arith, less, less', least, least', least'', room)) ∙ ap (place_before on s) at_p ∙ place-next frame direction p is in_p in_e in
    let at_b : m + place_before on s start ≡ place_of frame b.x b.y =
    step-before on s m start (omega (arith, less, less', least, least', room)) ∙ ap (place_before on s) at_r ∙ place-next frame direction r is in_r in_b in
    ap (λ t. (has_place maps.behind t && has_place maps.before (m + place_before on s (place_before on' s' start))) && has_place maps.beside (m + place_before on s start)) at_p
    ∙ ap (λ t. (has_place maps.behind (place_of frame p.x p.y) && has_place maps.before t) && has_place maps.beside (m + place_before on s start)) at_e
    ∙ ap (λ t. (has_place maps.behind (place_of frame p.x p.y) && has_place maps.before (place_of frame e.x e.y)) && has_place maps.beside t) at_b
    ∙ ap (λ t. (t && has_place maps.before (place_of frame e.x e.y)) && has_place maps.beside (place_of frame b.x b.y)) (shown2 p.x p.y in_p)
    ∙ ap (λ t. (has_type rule.types2 (layout rule.trigger_plane p.x p.y) && t) && has_place maps.beside (place_of frame b.x b.y)) (shown1 e.x e.y in_e)
    ∙ ap (λ t. is_edge rule layout direction p && t) (shown3 b.x b.y in_b
    ∙ ap (λ (t : Point). has_type rule.corner_types (layout rule.trigger_plane t.x t.y)) (sym (corner-square direction flank r cross (omega (arith, lines.0, is.left)) (omega (arith, lines.2, is.below)))))
    ∙ ap (is_cornered rule layout direction flank) step

-- ---- a deep square
deep-in : (frame : Frame) (h x y : ℕ) (p : Point) → IsDeep frame h x y → IsWithin h x y p → IsIn frame p
deep-in frame h x y p deep near =
    between_holds (frame_area frame) p.x p.y (omega (arith, deep.left, near.left)) (omega (arith, deep.right, near.right)) (omega (arith, deep.below, near.below)) (omega (arith, deep.above, near.above))

pub here-in : (frame : Frame) (h x y : ℕ) → IsDeep frame h x y → IsIn frame (square x y)
here-in frame h x y deep = deep-in frame h x y (at x y) deep (here_within h x y)

-- what is read for a deep square lies in the map
deep-low : (frame : Frame) (h x y : ℕ) → 1 ≤ h → IsDeep frame h x y → place_of frame x y + (h - 1) * (64 * frame.words + 1) + 64 < 64 * (frame.words * frame.rows)
deep-low frame h x y some deep =
    let high = mul-le (y - frame.bottom + h + 1) (64 * frame.words) frame.rows (64 * frame.words) (omega (arith, deep.above, deep.below)) (omega arith) in
    let less = one-less h (64 * frame.words) some in
    omega (arith, high, less, deep.left, deep.right)

pub deep-home : (frame : Frame) (h x y : ℕ) → IsDeep frame h x y → h * (64 * frame.words) ≤ place_of frame x y
deep-home frame h x y deep = omega (arith, mul-le h (64 * frame.words) (y - frame.bottom) (64 * frame.words) (omega (arith, deep.below)) (omega arith))

few-places : (frame : Frame) (direction : Direction) → 1 ≤ frame.words → places_of frame direction ≤ 64 * frame.words
few-places frame Right some = omega arith
few-places frame Up some = omega arith
few-places frame Left some = omega arith
few-places frame Down some = omega arith

some-words : (frame : Frame) (h x y : ℕ) → IsDeep frame h x y → 1 ≤ frame.words
some-words frame h x y deep = omega (arith, deep.left, deep.right)

-- ---- rows and blocks from where they begin
rows-found : (rule : EdgeRule) (layout : Layout) (maps : TypeMaps) (frame : Frame) (direction : Direction) (h n x y : ℕ)
    → IsFrame frame → maps.frame ≡ frame → ShowTypes rule layout maps → rule.distance < h → IsDeep frame h x y → n + h * (64 * frame.words) ≡ place_of frame x y
    → list_any (λ i. row_begins maps.before maps.behind frame rule.distance (h * (64 * frame.words)) (n + i * places_of frame direction) direction) (range_with_len 0 rule.distance)
    ≡ in_row rule layout direction (square x y)
rows-found rule layout maps frame direction h n x y is same types far deep ends =
    let d = rule.distance in
    let on = leads_on direction in
    let room = mul-le d (places_of frame direction) h (64 * frame.words) (omega arith) (few-places frame direction (some-words frame h x y deep)) in
    list_any_same_in_range (λ i. row_begins maps.before maps.behind frame d (h * (64 * frame.words)) (n + i * places_of frame direction) direction)
    (λ i. is_edge rule layout direction (moved (back direction) (turned on d i) (square x y))) 0 d
    (λ i above below.
    let few = turned-below on d i (omega arith) in
    row-shown rule layout maps frame direction (h * (64 * frame.words)) d i n x y is same types (omega arith) room ends (here-in frame h x y deep)
    (deep-in frame h x y _ deep (row_within direction (turned on d i) h x y (omega (arith, few)))) (deep-in frame h x y _ deep (before_row_within direction (turned on d i) h x y (omega (arith, few)))))
    ∙ any-turned on d (λ k. is_edge rule layout direction (moved (back direction) k (square x y)))

blocks-found : (rule : EdgeRule) (layout : Layout) (maps : TypeMaps) (frame : Frame) (direction flank : Direction) (h n x y : ℕ)
    → IsFrame frame → maps.frame ≡ frame → crosses direction flank ≡ true → ShowTypes rule layout maps → rule.corner_distance < h → IsDeep frame h x y → n + h * (64 * frame.words) ≡ place_of frame x y
    → places_of frame direction + places_of frame flank ≡ 1 + 64 * frame.words
    → list_any (λ i. list_any (λ j. corner_begins maps.before maps.behind maps.beside frame rule.corner_distance (h * (64 * frame.words)) (n + i * places_of frame direction + j * places_of frame flank) direction flank)
    (range_with_len 0 rule.corner_distance)) (range_with_len 0 rule.corner_distance)
    ≡ in_block rule layout direction (square x y) flank
blocks-found rule layout maps frame direction flank h n x y is same cross types far deep ends both =
    let c = rule.corner_distance in
    let on = leads_on direction in
    let on' = leads_on flank in
    let q = square x y in
    let home = h * (64 * frame.words) in
    let least = mul-le c (1 + 64 * frame.words) (h - 1) (1 + 64 * frame.words) (omega arith) (omega arith) in
    let less = one-less h (64 * frame.words) (omega arith) in
    let parts : c * places_of frame direction + c * places_of frame flank ≡ c * (1 + 64 * frame.words) = omega arith ∙ ap (λ m. c * m) both in
    let room : c * places_of frame direction + c * places_of frame flank ≤ home = omega (arith, parts, least, less, deep.left, deep.right) in
    let test : ℕ → ℕ → Bool = λ k l. is_cornered rule layout direction flank (moved (back flank) (1 + l) (moved (back direction) k q)) in
    list_any_same_in_range
    (λ i. list_any (λ j. corner_begins maps.before maps.behind maps.beside frame c home (n + i * places_of frame direction + j * places_of frame flank) direction flank) (range_with_len 0 c))
    (λ i. list_any (λ l. test (turned on c i) l) (range_with_len 0 c)) 0 c
    (λ i above below.
    list_any_same_in_range
    (λ j. corner_begins maps.before maps.behind maps.beside frame c home (n + i * places_of frame direction + j * places_of frame flank) direction flank)
    (λ j. test (turned on c i) (turned on' c j)) 0 c
    (λ j above' below'.
    let few = turned-below on c i (omega arith) in
    corner-shown rule layout maps frame direction flank home c i j n q is same cross types (omega arith) (omega arith) room ends (here-in frame h x y deep)
    (λ k l k_few l_few. (deep-in frame h x y _ deep (block_within direction flank k l h x y cross (omega arith) (omega arith)), deep-in frame h x y _ deep (before_block_within direction flank k l h x y cross (omega arith) (omega arith))))
    (deep-in frame h x y _ deep (row_within direction (turned on c i) h x y (omega (arith, few)))))
    ∙ any-turned on' c (test (turned on c i)))
    ∙ any-turned on c (λ k. list_any (test k) (range_with_len 0 c))

-- ---- tests in turn
any-swap : {X : Type 0} {Y : Type 0} (f : X → Y → Bool) (xs : List X) (ys : List Y) → list_any (λ x. list_any (λ y. f x y) ys) xs ≡ list_any (λ y. list_any (λ x. f x y) xs) ys
any-swap f [] ys = sym (list_any_none (λ y. false) ys (λ k d within. refl))
any-swap f (x ∷ xs) ys = ap (λ b. list_any (λ y. f x y) ys || b) (any-swap f xs ys) ∙ sym (any-or (λ y. f x y) (λ y. list_any (λ z. f z y) xs) ys)

any-four : {D : Type 0} {E : Type 0} (f : ℕ → ℕ → D → E → Bool) (xs ys : List ℕ) (ds : List D) (es : D → List E)
    → list_any (λ a. list_any (λ b. list_any (λ d. list_any (λ e. f a b d e) (es d)) ds) ys) xs ≡ list_any (λ d. list_any (λ e. list_any (λ a. list_any (λ b. f a b d e) ys) xs) (es d)) ds
any-four f xs ys ds es =
    list_any_same (λ a. list_any (λ b. list_any (λ d. list_any (λ e. f a b d e) (es d)) ds) ys) (λ a. list_any (λ d. list_any (λ b. list_any (λ e. f a b d e) (es d)) ys) ds) xs
    (λ a. any-swap (λ b d. list_any (λ e. f a b d e) (es d)) ys ds)
    ∙ any-swap (λ a d. list_any (λ b. list_any (λ e. f a b d e) (es d)) ys) xs ds
    ∙ list_any_same (λ d. list_any (λ a. list_any (λ b. list_any (λ e. f a b d e) (es d)) ys) xs) (λ d. list_any (λ e. list_any (λ a. list_any (λ b. f a b d e) ys) xs) (es d)) ds
    (λ d. list_any_same (λ a. list_any (λ b. list_any (λ e. f a b d e) (es d)) ys) (λ a. list_any (λ e. list_any (λ b. f a b d e) ys) (es d)) xs (λ a. any-swap (λ b e. f a b d e) ys (es d))
    ∙ any-swap (λ a e. list_any (λ b. f a b d e) ys) xs (es d))

never : (n : ℕ) → list_any (λ (i : ℕ). false) (range_with_len 0 n) ≡ false
never n = list_any_none (λ (i : ℕ). false) (range_with_len 0 n) (λ k d within. refl)

level-case : (row none blocks row' blocks' : Bool) → none ≡ false → row ≡ row' → blocks ≡ blocks' → ((row || blocks) || none) ≡ (row' || blocks')
level-case row none blocks row' blocks' off same same' = rw (off, same, same') (or-false (row' || blocks'))

upright-case : (row none blocks row' blocks' : Bool) → none ≡ false → row ≡ row' → blocks ≡ blocks' → ((none || blocks) || row) ≡ (row' || blocks')
upright-case row none blocks row' blocks' off same same' = rw (off, same, same') (or_comm blocks' row')

-- what begins in a direction, level or upright
abbrev level_at : TypeMaps → Frame → ℕ → ℕ → ℕ → Direction → Bool
level_at maps frame count home n direction = is_level direction && row_begins maps.before maps.behind frame count home n direction

abbrev upright_at : TypeMaps → Frame → ℕ → ℕ → ℕ → Direction → Bool
upright_at maps frame count home n direction = not (is_level direction) && row_begins maps.before maps.behind frame count home n direction

-- the blocks of edges in the direction are laid on this flank; where corner types are types2, one of two directions lays those that both have
abbrev is_kept : Bool → Direction → Direction → Bool
is_kept same direction flank = not (same && comes_first flank direction)

-- a corner block of an edge in the direction, on the flank, has the square of place n: it begins at a place so many columns and rows on
abbrev corner_block_at : TypeMaps → Frame → ℕ → ℕ → ℕ → Direction → Direction → Bool
corner_block_at maps frame count home n direction flank =
    list_any (λ a. list_any (λ b. corner_begins maps.before maps.behind maps.beside frame count home (n + a * 1 + b * (64 * frame.words)) direction flank) (range_with_len 0 count)) (range_with_len 0 count)

-- the same, where the blocks are laid on this flank
abbrev kept_block_at : TypeMaps → Frame → Bool → ℕ → ℕ → ℕ → Direction → Direction → Bool
kept_block_at maps frame same count home n direction flank =
    list_any (λ a. list_any (λ b. is_kept same direction flank && corner_begins maps.before maps.behind maps.beside frame count home (n + a * 1 + b * (64 * frame.words)) direction flank)
    (range_with_len 0 count)) (range_with_len 0 count)

-- the same, on either flank of the direction
abbrev kept_blocks_at : TypeMaps → Frame → Bool → ℕ → ℕ → ℕ → Direction → Bool
kept_blocks_at maps frame same count home n direction = list_any (kept_block_at maps frame same count home n direction) (across direction)

when-block : (t : Bool) (f : ℕ → ℕ → Bool) (count : ℕ) (b : Bool) → list_any (λ i. list_any (λ j. f i j) (range_with_len 0 count)) (range_with_len 0 count) ≡ b
    → list_any (λ i. list_any (λ j. t && f i j) (range_with_len 0 count)) (range_with_len 0 count) ≡ (t && b)
when-block true f count b is = is
when-block false f count b is = list_any_same (λ i. list_any (λ j. false) (range_with_len 0 count)) (λ i. false) (range_with_len 0 count) (λ i. never count) ∙ never count

-- the blocks of an upright direction, whose steps and flanks change places
crossed : (maps : TypeMaps) (frame : Frame) (count home n : ℕ) (direction flank : Direction)
    → corner_block_at maps frame count home n direction flank
    ≡ list_any (λ b. list_any (λ a. corner_begins maps.before maps.behind maps.beside frame count home (n + b * (64 * frame.words) + a * 1) direction flank) (range_with_len 0 count)) (range_with_len 0 count)
crossed maps frame count home n direction flank =
    any-swap (λ a b. corner_begins maps.before maps.behind maps.beside frame count home (n + a * 1 + b * (64 * frame.words)) direction flank) (range_with_len 0 count) (range_with_len 0 count)
    ∙ list_any_same (λ b. list_any (λ a. corner_begins maps.before maps.behind maps.beside frame count home (n + a * 1 + b * (64 * frame.words)) direction flank) (range_with_len 0 count))
    (λ b. list_any (λ a. corner_begins maps.before maps.behind maps.beside frame count home (n + b * (64 * frame.words) + a * 1) direction flank) (range_with_len 0 count)) (range_with_len 0 count)
    (λ b. list_any_same (λ a. corner_begins maps.before maps.behind maps.beside frame count home (n + a * 1 + b * (64 * frame.words)) direction flank)
    (λ a. corner_begins maps.before maps.behind maps.beside frame count home (n + b * (64 * frame.words) + a * 1) direction flank) (range_with_len 0 count)
    (λ a. let turn : n + a * 1 + b * (64 * frame.words) ≡ n + b * (64 * frame.words) + a * 1 = omega arith in
    ap (λ m. corner_begins maps.before maps.behind maps.beside frame count home m direction flank) turn))

-- the blocks of a direction, to its two flanks
kept-pair : (rule : EdgeRule) (layout : Layout) (maps : TypeMaps) (frame : Frame) (same : Bool) (home n x y : ℕ) (direction flank flank' : Direction)
    → corner_block_at maps frame rule.corner_distance home n direction flank ≡ in_block rule layout direction (square x y) flank
    → corner_block_at maps frame rule.corner_distance home n direction flank' ≡ in_block rule layout direction (square x y) flank'
    → list_any (kept_block_at maps frame same rule.corner_distance home n direction) (flank ∷ flank' ∷ [])
    ≡ list_any (λ side. is_kept same direction side && in_block rule layout direction (square x y) side) (flank ∷ flank' ∷ [])
kept-pair rule layout maps frame same home n x y direction flank flank' one other =
    let begins = λ (side : Direction) (a b : ℕ). corner_begins maps.before maps.behind maps.beside frame rule.corner_distance home (n + a * 1 + b * (64 * frame.words)) direction side in
    rw (when-block (is_kept same direction flank) (begins flank) _ _ one, when-block (is_kept same direction flank') (begins flank') _ _ other) refl

direction-found : (rule : EdgeRule) (layout : Layout) (maps : TypeMaps) (frame : Frame) (same : Bool) (h n x y : ℕ) (direction : Direction)
    → IsFrame frame → maps.frame ≡ frame → ShowTypes rule layout maps → rule.distance < h → rule.corner_distance < h → IsDeep frame h x y → n + h * (64 * frame.words) ≡ place_of frame x y
    → ((list_any (λ i. level_at maps frame rule.distance (h * (64 * frame.words)) (n + i * 1) direction) (range_with_len 0 rule.distance)
    || kept_blocks_at maps frame same rule.corner_distance (h * (64 * frame.words)) n direction)
    || list_any (λ i. upright_at maps frame rule.distance (h * (64 * frame.words)) (n + i * (64 * frame.words)) direction) (range_with_len 0 rule.distance))
    ≡ (in_row rule layout direction (square x y) || list_any (λ flank. is_kept same direction flank && in_block rule layout direction (square x y) flank) (across direction))
direction-found rule layout maps frame same h n x y Right is same_frame types far far' deep ends =
    level-case _ _ _ _ _ (never rule.distance) (rows-found rule layout maps frame Right h n x y is same_frame types far deep ends)
    (kept-pair rule layout maps frame same (h * (64 * frame.words)) n x y Right Up Down
    (blocks-found rule layout maps frame Right Up h n x y is same_frame refl types far' deep ends refl)
    (blocks-found rule layout maps frame Right Down h n x y is same_frame refl types far' deep ends refl))
direction-found rule layout maps frame same h n x y Left is same_frame types far far' deep ends =
    level-case _ _ _ _ _ (never rule.distance) (rows-found rule layout maps frame Left h n x y is same_frame types far deep ends)
    (kept-pair rule layout maps frame same (h * (64 * frame.words)) n x y Left Up Down
    (blocks-found rule layout maps frame Left Up h n x y is same_frame refl types far' deep ends refl)
    (blocks-found rule layout maps frame Left Down h n x y is same_frame refl types far' deep ends refl))
direction-found rule layout maps frame same h n x y Up is same_frame types far far' deep ends =
    upright-case _ _ _ _ _ (never rule.distance) (rows-found rule layout maps frame Up h n x y is same_frame types far deep ends)
    (kept-pair rule layout maps frame same (h * (64 * frame.words)) n x y Up Right Left
    (crossed maps frame rule.corner_distance (h * (64 * frame.words)) n Up Right ∙ blocks-found rule layout maps frame Up Right h n x y is same_frame refl types far' deep ends (omega arith))
    (crossed maps frame rule.corner_distance (h * (64 * frame.words)) n Up Left ∙ blocks-found rule layout maps frame Up Left h n x y is same_frame refl types far' deep ends (omega arith)))
direction-found rule layout maps frame same h n x y Down is same_frame types far far' deep ends =
    upright-case _ _ _ _ _ (never rule.distance) (rows-found rule layout maps frame Down h n x y is same_frame types far deep ends)
    (kept-pair rule layout maps frame same (h * (64 * frame.words)) n x y Down Right Left
    (crossed maps frame rule.corner_distance (h * (64 * frame.words)) n Down Right ∙ blocks-found rule layout maps frame Down Right h n x y is same_frame refl types far' deep ends (omega arith))
    (crossed maps frame rule.corner_distance (h * (64 * frame.words)) n Down Left ∙ blocks-found rule layout maps frame Down Left h n x y is same_frame refl types far' deep ends (omega arith)))

-- ---- blocks that two directions have
-- the squares of a corner, seen from the direction and from its flank
turned-squares : (flank direction : Direction) (i j : ℕ) (q : Point) → comes_first flank direction ≡ true → 1 + i ≤ q.x → 1 + j ≤ q.x → 1 + i ≤ q.y → 1 + j ≤ q.y
    → (moved (back direction) 1 (moved (back flank) (1 + j) (moved (back direction) i q)) ≡ moved (back flank) 1 (moved (back direction) (1 + i) (moved (back flank) j q)))
    × (moved flank 1 (moved (back direction) 1 (moved (back flank) (1 + j) (moved (back direction) i q))) ≡ moved (back direction) (1 + i) (moved (back flank) j q))
    × (moved direction 1 (moved (back flank) 1 (moved (back direction) (1 + i) (moved (back flank) j q))) ≡ moved (back flank) (1 + j) (moved (back direction) i q))
turned-squares Right Up i j q first a b c d = (same_square _ _ _ _ (omega arith) (omega arith), same_square _ _ _ _ (omega arith) (omega arith), same_square _ _ _ _ (omega arith) (omega arith))
turned-squares Right Down i j q first a b c d = (same_square _ _ _ _ (omega arith) (omega arith), same_square _ _ _ _ (omega arith) (omega arith), same_square _ _ _ _ (omega arith) (omega arith))
turned-squares Up Left i j q first a b c d = (same_square _ _ _ _ (omega arith) (omega arith), same_square _ _ _ _ (omega arith) (omega arith), same_square _ _ _ _ (omega arith) (omega arith))
turned-squares Left Down i j q first a b c d = (same_square _ _ _ _ (omega arith) (omega arith), same_square _ _ _ _ (omega arith) (omega arith), same_square _ _ _ _ (omega arith) (omega arith))
turned-squares flank direction i j q first a b c d = absurd (true≢false (sym first))

and-turned : (a b c : Bool) → ((a && b) && c) ≡ ((c && b) && a)
and-turned true true true = refl
and-turned true true false = refl
and-turned true false true = refl
and-turned true false false = refl
and-turned false true true = refl
and-turned false true false = refl
and-turned false false true = refl
and-turned false false false = refl

abbrev has : ℕ → EdgeRule → Layout → Point → Bool
has types rule layout p = has_type types (layout rule.trigger_plane p.x p.y)

corner-turned : (rule : EdgeRule) (layout : Layout) (direction flank : Direction) (i j : ℕ) (q : Point) → rule.corner_types ≡ rule.types2 → comes_first flank direction ≡ true
    → 1 + i ≤ q.x → 1 + j ≤ q.x → 1 + i ≤ q.y → 1 + j ≤ q.y
    → is_cornered rule layout direction flank (moved (back flank) (1 + j) (moved (back direction) i q)) ≡ is_cornered rule layout flank direction (moved (back direction) (1 + i) (moved (back flank) j q))
corner-turned rule layout direction flank i j q types first a b c d =
    let p = moved (back flank) (1 + j) (moved (back direction) i q) in
    let e = moved (back direction) 1 p in
    let g = moved flank 1 e in
    let p' = moved (back direction) (1 + i) (moved (back flank) j q) in
    let e' = moved (back flank) 1 p' in
    let g' = moved direction 1 e' in
    let turn = turned-squares flank direction i j q first a b c d in
    ap (λ (set : ℕ). (has rule.types2 rule layout p && has rule.types1 rule layout e) && has set rule layout g) types
    ∙ ap (λ (s : Point). (has rule.types2 rule layout p && has rule.types1 rule layout s) && has rule.types2 rule layout g) turn.0
    ∙ ap (λ (s : Point). (has rule.types2 rule layout p && has rule.types1 rule layout e') && has rule.types2 rule layout s) turn.1
    ∙ and-turned (has rule.types2 rule layout p) (has rule.types1 rule layout e') (has rule.types2 rule layout p')
    ∙ ap (λ (s : Point). (has rule.types2 rule layout p' && has rule.types1 rule layout e') && has rule.types2 rule layout s) (sym turn.2)
    ∙ ap (λ (set : ℕ). (has rule.types2 rule layout p' && has rule.types1 rule layout e') && has set rule layout g') (sym types)

block-turned : (rule : EdgeRule) (layout : Layout) (direction flank : Direction) (x y : ℕ) → rule.corner_types ≡ rule.types2 → comes_first flank direction ≡ true → rule.corner_distance ≤ x → rule.corner_distance ≤ y
    → in_block rule layout direction (square x y) flank ≡ in_block rule layout flank (square x y) direction
block-turned rule layout direction flank x y types first wide high =
    let c = rule.corner_distance in
    let q = square x y in
    list_any_same_in_range (λ i. list_any (λ j. is_cornered rule layout direction flank (moved (back flank) (1 + j) (moved (back direction) i q))) (range_with_len 0 c))
    (λ i. list_any (λ j. is_cornered rule layout flank direction (moved (back direction) (1 + i) (moved (back flank) j q))) (range_with_len 0 c)) 0 c
    (λ i above below.
    list_any_same_in_range (λ j. is_cornered rule layout direction flank (moved (back flank) (1 + j) (moved (back direction) i q)))
    (λ j. is_cornered rule layout flank direction (moved (back direction) (1 + i) (moved (back flank) j q))) 0 c
    (λ j above' below'. corner-turned rule layout direction flank i j q types first (omega arith) (omega arith) (omega arith) (omega arith)))
    ∙ any-swap (λ i j. is_cornered rule layout flank direction (moved (back direction) (1 + i) (moved (back flank) j q))) (range_with_len 0 c) (range_with_len 0 c)

two-kept : (same r a b u a' c : Bool) → (same ≡ true → a' ≡ a)
    → ((r || ((not (same && false) && a) || ((not (same && false) && b) || false))) || ((u || ((not (same && true) && a') || ((not (same && false) && c) || false))) || false))
    ≡ ((r || (a || (b || false))) || ((u || (a' || (c || false))) || false))
two-kept false true a b u a' c is = refl
two-kept false false true b u a' c is = refl
two-kept false false false true u a' c is = refl
two-kept false false false false u a' c is = refl
two-kept true true a b u a' c is = refl
two-kept true false true b u a' c is = refl
two-kept true false false true u a' c is = refl
two-kept true false false false u a' c is = rw (is refl) refl

four-kept : (same r a b u a' c l c' d w b' d' : Bool) → (same ≡ true → (a' ≡ a) × (c' ≡ c) × (b' ≡ b) × (d' ≡ d))
    → ((r || ((not (same && false) && a) || ((not (same && false) && b) || false))) || ((u || ((not (same && true) && a') || ((not (same && false) && c) || false)))
    || ((l || ((not (same && true) && c') || ((not (same && false) && d) || false))) || ((w || ((not (same && true) && b') || ((not (same && true) && d') || false))) || false))))
    ≡ ((r || (a || (b || false))) || ((u || (a' || (c || false))) || ((l || (c' || (d || false))) || ((w || (b' || (d' || false))) || false))))
four-kept false r a b u a' c l c' d w b' d' is = refl
four-kept true true a b u a' c l c' d w b' d' is = refl
four-kept true false true b u a' c l c' d w b' d' is = refl
four-kept true false false true u a' c l c' d w b' d' is = refl
four-kept true false false false true a' c l c' d w b' d' is = refl
four-kept true false false false false a' true l c' d w b' d' is = let e = is refl in rw e.0 refl
four-kept true false false false false a' false true c' d w b' d' is = let e = is refl in rw e.0 refl
four-kept true false false false false a' false false c' true w b' d' is = let e = is refl in rw (e.0, e.1) refl
four-kept true false false false false a' false false c' false w b' d' is = let e = is refl in rw (e.0, e.1, e.2, e.3) refl

abbrev kept_blocks : EdgeRule → Layout → Bool → Point → Direction → Bool
kept_blocks rule layout same q direction = list_any (λ flank. is_kept same direction flank && in_block rule layout direction q flank) (across direction)

all-kept : (rule : EdgeRule) (layout : Layout) (same : Bool) (x y : ℕ) (directions : Directions) → (same ≡ true → rule.corner_types ≡ rule.types2) → rule.corner_distance ≤ x → rule.corner_distance ≤ y
    → list_any (λ direction. in_row rule layout direction (square x y) || kept_blocks rule layout same (square x y) direction) (directions_in directions)
    ≡ list_any (λ direction. in_row rule layout direction (square x y) || list_any (in_block rule layout direction (square x y)) (across direction)) (directions_in directions)
all-kept rule layout same x y RightAndUp types wide high =
    two-kept same _ (in_block rule layout Right (square x y) Up) _ _ (in_block rule layout Up (square x y) Right) _ (λ is. block-turned rule layout Up Right x y (types is) refl wide high)
all-kept rule layout same x y Four types wide high =
    four-kept same _ (in_block rule layout Right (square x y) Up) (in_block rule layout Right (square x y) Down) _ (in_block rule layout Up (square x y) Right) (in_block rule layout Up (square x y) Left) _
    (in_block rule layout Left (square x y) Up) (in_block rule layout Left (square x y) Down) _ (in_block rule layout Down (square x y) Right) (in_block rule layout Down (square x y) Left)
    (λ is. (
      block-turned rule layout Up Right x y (types is) refl wide high,
      block-turned rule layout Left Up x y (types is) refl wide high,
      block-turned rule layout Down Right x y (types is) refl wide high,
      block-turned rule layout Down Left x y (types is) refl wide high,
    ))

-- ---- all of a rule
reads : (frame : Frame) (m n home a b x y : ℕ) → a < m → b < m → n + home ≡ place_of frame x y → IsDeep frame (1 + m) x y
    → n + a * 1 + b * (64 * frame.words) + home + 64 * frame.words + 65 < 64 * (frame.words * frame.rows)
reads frame m n home a b x y few few' ends deep =
    let low = deep-low frame (1 + m) x y (omega arith) deep in
    let all : 1 + m - 1 ≡ m = omega arith in
    let high = mul-le b (64 * frame.words) (m - 1) (64 * frame.words) (omega arith) (omega arith) in
    let less = one-less m (64 * frame.words) (omega arith) in
    let whole : (1 + m - 1) * (64 * frame.words + 1) ≡ m * (64 * frame.words) + m = ap (λ k. k * (64 * frame.words + 1)) all ∙ omega arith in
    omega (arith, low, whole, high, less, ends, few)

pub reach-found : (rule : EdgeRule) (layout : Layout) (maps : TypeMaps) (frame : Frame) (same : Bool) (level upright blocks new : List ℕ) (home x y : ℕ)
    → IsFrame frame → maps.frame ≡ frame → ShowTypes rule layout maps → (same ≡ true → rule.corner_types ≡ rule.types2) → home ≡ (1 + max rule.distance rule.corner_distance) * (64 * frame.words)
    → length level ≡ frame.words * frame.rows → length upright ≡ frame.words * frame.rows → length blocks ≡ frame.words * frame.rows
    → ((n : ℕ) → Reads frame home level n → has_place level n ≡ list_any (λ direction. level_at maps frame rule.distance home n direction) (directions_in rule.directions))
    → ((n : ℕ) → Reads frame home upright n → has_place upright n ≡ list_any (λ direction. upright_at maps frame rule.distance home n direction) (directions_in rule.directions))
    → ((n : ℕ) → Reads frame home blocks n → 0 < rule.corner_distance → has_place blocks n
    ≡ list_any (corners_begin maps.before maps.behind maps.beside frame same rule.corner_distance home n) (directions_in rule.directions))
    → ((n : ℕ) → n + max rule.distance rule.corner_distance * (64 * frame.words + 1) + 64 < 64 * length level
    → has_place new n ≡ ((has_ahead (has_place level) 1 rule.distance n || has_ahead (has_ahead (has_place blocks) (64 * frame.words) rule.corner_distance) 1 rule.corner_distance n)
    || has_ahead (has_place upright) (64 * frame.words) rule.distance n))
    → IsDeep frame (1 + max rule.distance rule.corner_distance) x y
    → has_place new (place_of frame x y - (1 + max rule.distance rule.corner_distance) * (64 * frame.words)) ≡ reaches rule layout (square x y)
unfolding reaches
reach-found rule layout maps frame same level upright blocks new home x y is same_frame types same_types home_is long long' long'' found found' found'' spread deep =
    let d = rule.distance in
    let c = rule.corner_distance in
    let m = max d c in
    let row = 64 * frame.words in
    let h = 1 + m in
    let ds = directions_in rule.directions in
    let N = place_of frame x y in
    let n = N - h * row in
    let ends : n + h * row ≡ N = omega (arith, deep-home frame h x y deep) in
    let ends' : n + home ≡ N = omega (arith, ends, home_is) in
    let low = deep-low frame h x y (omega arith) deep in
    let all : h - 1 ≡ m = omega arith in
    let whole : (h - 1) * (row + 1) ≡ m * (row + 1) = ap (λ k. k * (row + 1)) all in
    let rD : Direction → Bool = λ direction. list_any (λ i. level_at maps frame d home (n + i * 1) direction) (range_with_len 0 d) in
    let bD : Direction → Bool = λ direction. kept_blocks_at maps frame same c home n direction in
    let uD : Direction → Bool = λ direction. list_any (λ i. upright_at maps frame d home (n + i * row) direction) (range_with_len 0 d) in
    let rows : has_ahead (has_place level) 1 d n ≡ list_any rD ds =
    list_any_same_in_range (λ i. has_place level (n + i * 1)) (λ i. list_any (λ direction. level_at maps frame d home (n + i * 1) direction) ds) 0 d
    (λ i above below. found (n + i * 1) (omega (arith, long, reads frame m n home i 0 x y (omega arith) (omega arith) ends' deep)))
    ∙ any-swap (λ i direction. level_at maps frame d home (n + i * 1) direction) (range_with_len 0 d) ds in
    let columns : has_ahead (has_place upright) row d n ≡ list_any uD ds =
    list_any_same_in_range (λ i. has_place upright (n + i * row)) (λ i. list_any (λ direction. upright_at maps frame d home (n + i * row) direction) ds) 0 d
    (λ i above below. found' (n + i * row) (omega (arith, long', reads frame m n home 0 i x y (omega arith) (omega arith) ends' deep)))
    ∙ any-swap (λ i direction. upright_at maps frame d home (n + i * row) direction) (range_with_len 0 d) ds in
    let squares : has_ahead (has_ahead (has_place blocks) row c) 1 c n ≡ list_any bD ds =
    list_any_same_in_range (λ a. list_any (λ b. has_place blocks (n + a * 1 + b * row)) (range_with_len 0 c))
    (λ a. list_any (λ b. list_any (corners_begin maps.before maps.behind maps.beside frame same c home (n + a * 1 + b * row)) ds) (range_with_len 0 c)) 0 c
    (λ a above below.
    list_any_same_in_range (λ b. has_place blocks (n + a * 1 + b * row)) (λ b. list_any (corners_begin maps.before maps.behind maps.beside frame same c home (n + a * 1 + b * row)) ds) 0 c
    (λ b above' below'. found'' (n + a * 1 + b * row) (omega (arith, long'', reads frame m n home a b x y (omega arith) (omega arith) ends' deep)) (omega arith)))
    ∙ any-four (λ a b direction flank. is_kept same direction flank && corner_begins maps.before maps.behind maps.beside frame c home (n + a * 1 + b * row) direction flank) (range_with_len 0 c) (range_with_len 0 c) ds across in
    spread n (omega (arith, low, whole, ends, long))
    ∙ rw (rows, squares, columns) (ap (λ b. b || list_any uD ds) (sym (any-or rD bD ds)) ∙ sym (any-or (λ direction. rD direction || bD direction) uD ds))
    ∙ list_any_same (λ direction. (rD direction || bD direction) || uD direction) (λ direction. in_row rule layout direction (square x y) || kept_blocks rule layout same (square x y) direction) ds
    (λ direction. rw home_is (direction-found rule layout maps frame same h n x y direction is same_frame types (omega arith) (omega arith) deep ends))
    ∙ all-kept rule layout same x y rule.directions same_types (omega (arith, deep.left)) (omega (arith, deep.below))
