-- How many lines a saved layout can have: each plane has at most as many strips as the world has squares.
use Rattle.std.proofs.Common.{◌≡◌, ℕ, ◌+◌, ◌*◌, ◌≤◌, ◌==◌, List, [], ◌∷◌, length, get_or, ap, ◌∙◌, subst, arith, count_by}
use Rattle.std.proofs.lemmas.List.{length-map}
use Rattle.std.proofs.lemmas.List.FromFn.{length-range_with_len}
use Rattle.std.proofs.lemmas.List.Sums.{count_by-le-length, length-filter, sum_by-le}
use Rattle.mls_session.specs.Common.{Picture, Piece, Rect, Tech, columns, first_name, is_corner, layer_lines, of_kind, rect_words, rows, section_lines, spaced, strips_of, tile_count, world}
use Rattle.mls_geom.proofs.ListedStrips.{AreStrips-strips_of}
use Rattle.mls_geom.proofs.StripLaws.{strips_number}

-- at most one strip begins in each square
tile_count-squares : (extent : Rect) (picture : Picture) → tile_count extent picture ≤ length (rows extent) * length (columns extent)
unfolding tile_count
tile_count-squares extent picture =
    sum_by-le (λ y. count_by (λ x. is_corner extent picture x y) (columns extent)) (length (columns extent)) (rows extent)
    (λ k d within. count_by-le-length (λ x. is_corner extent picture x (get_or (rows extent) k d)) (columns extent))

pub strips_of-squares : (extent : Rect) (picture : Picture) → length (strips_of extent picture) ≤ length (rows extent) * length (columns extent)
strips_of-squares extent picture = rw (strips_number extent picture (strips_of extent picture) (AreStrips-strips_of extent picture)) (tile_count-squares extent picture)

section_lines-few : (name : List ℕ) (strips : List Piece) → length (section_lines name strips) ≤ length strips + 1
section_lines-few name [] = omega arith
section_lines-few name (strip ∷ strips) = omega (arith, length-map (strip ∷ strips) (λ each. spaced (rect_words each.rect)))

-- a section has a line for each strip of its kind, and one more
pub kind_lines-few : (name : List ℕ) (kind : ℕ) (strips : List Piece) → length (section_lines name (of_kind kind strips)) ≤ length strips + 1
kind_lines-few name kind strips =
    let own = section_lines-few name (of_kind kind strips) in
    let some = length-filter (λ strip. strip.kind == kind) strips in
    let all = count_by-le-length (λ (strip : Piece). strip.kind == kind) strips in
    omega (arith, own, some, all)

pub layer_lines-few : (tech : Tech) (kind : ℕ) (strips : List Piece) → length (layer_lines tech kind strips) ≤ length strips + 1
layer_lines-few tech kind strips = kind_lines-few (first_name tech kind) kind strips

-- a plane of the world has at most 2^42
pub strips_few : (picture : Picture) → length (strips_of world picture) ≤ 4398046511104
strips_few picture =
    let high : length (rows world) ≡ 2097152 = length-range_with_len world.bottom 2097152 in
    let wide : length (columns world) ≡ 2097152 = length-range_with_len world.left 2097152 in
    let squares : length (rows world) * length (columns world) ≡ 4398046511104 = ap (λ n. n * length (columns world)) high ∙ ap (λ n. 2097152 * n) wide in
    subst (λ n. length (strips_of world picture) ≤ n) squares (strips_of-squares world picture)
