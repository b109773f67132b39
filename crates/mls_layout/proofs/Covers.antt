-- Pieces that cover the squares of a block, run by run.
use Rattle.std.proofs.Common.{◌≡◌, ℕ, ◌+◌, ◌-◌, ◌<◌, ◌≤◌, inl, inr, ◌⊎◌, Bool, true, false, ◌||◌, List, [], ◌∷◌, ◌++◌, length, get_or, set, drop, refl, sym, ap, subst, ◌∙◌, arith}
use Rattle.std.specs.List.{Any}
use Rattle.std.specs.Prelude.{Result, Ok, Err, OnOk}
use Rattle.std.proofs.lemmas.Bool.{cases_lt, cases_eq, or_cases, false≢true}
use Rattle.std.proofs.lemmas.Bool.Decides.{nat_tests}
use Rattle.std.proofs.lemmas.List.{drop-append-le, drop-set-add, get_or-drop, get_or-set_other, get_or_append_left, get_or_default, length-append, length-drop, length-set, length-take, take-append-drop, take-append-le, take-set-le, take_all}
use Rattle.std.proofs.lemmas.List.Elements.{All-push, All-set}
use Rattle.std.proofs.lemmas.List.Quantifiers.{Any-push, any-set}
use Rattle.mls_geom.specs.Pictures.{Picture}
use Rattle.mls_geom.specs.Rects.{Rect, IsRectangleIn, holds}
use Rattle.mls_geom.specs.declared.piece.Piece.{Piece}
use Rattle.mls_geom.proofs.Holds.{holds_between, between_holds}
use Rattle.mls_layout.proofs.Places.{rows_to}
use Rattle.mls_layout.specs.Grids.{AppendsCover, CoverSquares, GainArea, IsRunFrom, LiesOn, Raises, Shows, grid_picture, raised, row_of}

-- the columns of a row before one
abbrev pub row_to : ℕ → ℕ → Rect → Rect
row_to left row e = record { left = e.left; bottom = row; right = left; top = row + 1 }

-- the pieces cover the columns of a row before one
pub record HasColumns (block : Rect) (picture : Picture) (first row left : ℕ) (old new : List Piece) : Type 0 where
  pub from : block.left ≤ left
  pub to : left ≤ block.right
  pub gained : GainArea block picture first (row_to left row block) old new

-- ---- a piece that lies in a list stays in it, or a larger one stands for it
any-push-kept : (P : Piece → Type 0) (pieces : List Piece) (piece : Piece) → Any P pieces → Any P (pieces ++ piece ∷ [])
any-push-kept P pieces piece found =
    (found.0, found.1, omega (arith, length-append pieces (piece ∷ [])), get_or_append_left pieces (piece ∷ []) found.1 found.0 found.2 ∙ found.3, found.4)

any-set-kept : (P : Piece → Type 0) (pieces : List Piece) (index : ℕ) (piece : Piece) → index < length pieces → (P (get_or pieces index piece) → P piece) → Any P pieces
    → Any P (set pieces index piece)
any-set-kept P pieces index piece within larger found =
    elim (cases_eq found.0 index) [
      | inl here ↦
          let same = sym found.3 ∙ get_or_default pieces found.0 found.1 piece found.2 ∙ ap (λ k. get_or pieces k piece) here in
          any-set P pieces index piece within (larger (subst P same found.4))
      | inr other ↦ (found.0, found.1, omega (arith, length-set pieces index piece, found.2), get_or-set_other pieces index found.0 piece found.1 other ∙ found.3, found.4)
    ]

-- ---- the squares of a piece with a run on top of it
raised-parts : (run piece : Piece) (x y : ℕ) → LiesOn run piece → holds (raised run piece).rect x y ≡ true → (holds piece.rect x y ≡ true) ⊎ (holds run.rect x y ≡ true)
raised-parts run piece x y on inside =
    let lines = holds_between (raised run piece).rect x y inside in
    elim (cases_lt y piece.rect.top) [
      | inl below ↦ inl (between_holds piece.rect x y lines.0 lines.1 lines.2 below)
      | inr above ↦ inr (between_holds run.rect x y (omega (arith, on.left, lines.0)) (omega (arith, on.right, lines.1)) (omega (arith, on.line, above)) lines.3)
    ]

piece-raised : (run piece : Piece) (x y : ℕ) → LiesOn run piece → run.rect.bottom < run.rect.top → holds piece.rect x y ≡ true → holds (raised run piece).rect x y ≡ true
piece-raised run piece x y on tall inside =
    let lines = holds_between piece.rect x y inside in
    between_holds (raised run piece).rect x y lines.0 lines.1 lines.2 (omega (arith, on.line, lines.3))

run-raised : (run piece : Piece) (x y : ℕ) → LiesOn run piece → piece.rect.bottom < piece.rect.top → holds run.rect x y ≡ true → holds (raised run piece).rect x y ≡ true
run-raised run piece x y on tall inside =
    let lines = holds_between run.rect x y inside in
    between_holds (raised run piece).rect x y (omega (arith, on.left, lines.0)) (omega (arith, on.right, lines.1)) (omega (arith, on.line, lines.2)) lines.3

raised-legal : (extent : Rect) (run piece : Piece) → LiesOn run piece → IsRectangleIn extent run.rect → IsRectangleIn extent piece.rect → IsRectangleIn extent (raised run piece).rect
raised-legal extent run piece on run_legal legal = record {
  left_in = legal.left_in;
  wide = legal.wide;
  right_in = legal.right_in;
  bottom_in = legal.bottom_in;
  tall = omega (arith, legal.tall, on.line, run_legal.tall);
  top_in = run_legal.top_in;
}

raised-shows : (picture : Picture) (run piece : Piece) → LiesOn run piece → Shows picture run → Shows picture piece → Shows picture (raised run piece)
raised-shows picture run piece on run_shown shown x y inside = elim (raised-parts run piece x y on inside) [
  | inl below ↦ shown x y below
  | inr above ↦ run_shown x y above ∙ sym on.kind
]

-- ---- covers that gain a run
cover-push :
    (extent : Rect) (picture : Picture) (squares : ℕ → ℕ → Bool) (pieces : List Piece) (run : Piece) → IsRectangleIn extent run.rect → Shows picture run
    → CoverSquares extent picture squares pieces → CoverSquares extent picture (λ x y. squares x y || holds run.rect x y) (pieces ++ run ∷ [])
cover-push extent picture squares pieces run legal shown cover = record {
  bounded = All-push (λ piece. IsRectangleIn extent piece.rect) pieces run cover.bounded legal;
  shown = All-push (Shows picture) pieces run cover.shown shown;
  whole = λ x y inside.
      let P : Piece → Type 0 = λ piece. holds piece.rect x y ≡ true in
      elim (or_cases (squares x y) (holds run.rect x y) inside) [
        | inl before ↦ any-push-kept P pieces run (cover.whole x y before)
        | inr here ↦ Any-push P pieces run here
      ];
}

cover-raise :
    (extent : Rect) (picture : Picture) (squares : ℕ → ℕ → Bool) (pieces : List Piece) (run piece taller : Piece) (index : ℕ) → index < length pieces
    → get_or pieces index taller ≡ piece → LiesOn run piece → taller ≡ raised run piece → IsRectangleIn extent run.rect → Shows picture run
    → CoverSquares extent picture squares pieces → CoverSquares extent picture (λ x y. squares x y || holds run.rect x y) (set pieces index taller)
cover-raise extent picture squares pieces run piece taller index within at on is legal shown cover =
    let Legal : Piece → Type 0 = λ p. IsRectangleIn extent p.rect in
    let piece_legal : Legal piece = subst Legal at (cover.bounded index taller within) in
    let piece_shown : Shows picture piece = subst (Shows picture) at (cover.shown index taller within) in
    record {
      bounded = All-set Legal pieces index taller (subst Legal (sym is) (raised-legal extent run piece on legal piece_legal)) cover.bounded;
      shown = All-set (Shows picture) pieces index taller (subst (Shows picture) (sym is) (raised-shows picture run piece on shown piece_shown)) cover.shown;
      whole = λ x y inside.
          let P : Piece → Type 0 = λ p. holds p.rect x y ≡ true in
          elim (or_cases (squares x y) (holds run.rect x y) inside) [
            | inl before ↦
                any-set-kept P pieces index taller within (λ old. subst P (sym is) (piece-raised run piece x y on legal.tall (subst P at old))) (cover.whole x y before)
            | inr here ↦ any-set P pieces index taller within (subst P (sym is) (run-raised run piece x y on piece_legal.tall here))
          ];
    }

-- ---- a list that gains areas
pub gain-push : (extent : Rect) (picture : Picture) (first : ℕ) (old : List Piece) (run : Piece) → first ≤ length old → IsRectangleIn extent run.rect → Shows picture run
    → GainArea extent picture first run.rect old (old ++ run ∷ [])
gain-push extent picture first old run on legal shown = record {
  before = take-append-le first old (run ∷ []) on;
  covers = λ squares cover. subst (CoverSquares extent picture (λ x y. squares x y || holds run.rect x y)) (sym (drop-append-le first old (run ∷ []) on))
      (cover-push extent picture squares (drop first old) run legal shown cover);
}

pub gain-raise :
    (extent : Rect) (picture : Picture) (first : ℕ) (old : List Piece) (run taller : Piece) (index : ℕ) → Raises old first index run taller
    → IsRectangleIn extent run.rect → Shows picture run → GainArea extent picture first run.rect old (set old index taller)
gain-raise extent picture first old run taller index raises legal shown = record {
  before = take-set-le first old index taller raises.after;
  covers = λ squares cover.
      let place : first + (index - first) ≡ index = omega (arith, raises.after) in
      let few : index - first < length (drop first old) = omega (arith, raises.after, raises.within, length-drop first old) in
      let at = get_or-drop first old (index - first) taller ∙ ap (λ k. get_or old k taller) place in
      let now = sym (drop-set-add first old (index - first) taller) ∙ ap (λ k. drop first (set old k taller)) place in
      subst (CoverSquares extent picture (λ x y. squares x y || holds run.rect x y)) now
      (cover-raise extent picture squares (drop first old) run (get_or old index taller) taller (index - first) few at (raises.lies taller) (raises.joined taller) legal shown cover);
}

cover-same : (extent : Rect) (picture : Picture) (squares others : ℕ → ℕ → Bool) (pieces : List Piece) → ((x y : ℕ) → others x y ≡ squares x y)
    → CoverSquares extent picture squares pieces → CoverSquares extent picture others pieces
cover-same extent picture squares others pieces same cover = record {
  bounded = cover.bounded;
  shown = cover.shown;
  whole = λ x y inside. cover.whole x y (sym (same x y) ∙ inside);
}

or_none : (a b : Bool) → b ≡ false → (a || b) ≡ a
or_none true b none = refl
or_none false b none = none

or_more : (s a b c : Bool) → (a || b) ≡ c → (s || c) ≡ ((s || a) || b)
or_more true a b c is = refl
or_more false a b c is = sym is

pub gain-none : (extent : Rect) (picture : Picture) (first : ℕ) (area : Rect) (pieces : List Piece) → ((x y : ℕ) → holds area x y ≡ false)
    → GainArea extent picture first area pieces pieces
gain-none extent picture first area pieces none = record {
  before = refl;
  covers = λ squares cover. cover-same extent picture squares _ (drop first pieces) (λ x y. or_none (squares x y) (holds area x y) (none x y)) cover;
}

pub gain-more :
    (extent : Rect) (picture : Picture) (first : ℕ) (area more all : Rect) (old middle new : List Piece) → ((x y : ℕ) → (holds area x y || holds more x y) ≡ holds all x y)
    → GainArea extent picture first area old middle → GainArea extent picture first more middle new → GainArea extent picture first all old new
gain-more extent picture first area more all old middle new join one two = record {
  before = two.before ∙ one.before;
  covers = λ squares cover.
      cover-same extent picture (λ x y. (squares x y || holds area x y) || holds more x y) _ (drop first new) (λ x y. or_more (squares x y) _ _ _ (join x y))
      (two.covers (λ x y. squares x y || holds area x y) (one.covers squares cover));
}

-- nothing before the first piece was lost
pub gain-first : (extent : Rect) (picture : Picture) (first : ℕ) (area : Rect) (old new : List Piece) → first ≤ length old → GainArea extent picture first area old new → first ≤ length new
gain-first extent picture first area old new on gain = omega (arith, length-take first old, length-take first new, ap length gain.before)

-- all squares of the extent
pub gain-all : (extent : Rect) (picture : Picture) (old new : List Piece) → GainArea extent picture (length old) extent old new → AppendsCover extent picture old new
gain-all extent picture old new gain =
    let none : CoverSquares extent picture (λ x y. false) (drop (length old) old) = record {
      bounded = λ k d within. absurd (omega (arith, length-drop (length old) old));
      shown = λ k d within. absurd (omega (arith, length-drop (length old) old));
      whole = λ x y inside. absurd (false≢true inside);
    } in
    let cover = gain.covers (λ x y. false) none in (
      drop (length old) new,
      sym (take-append-drop (length old) new) ∙ ap (λ (front : List Piece). front ++ drop (length old) new) (gain.before ∙ take_all (length old) old (omega arith)),
      record { bounded = cover.bounded; shown = cover.shown; whole = cover.whole },
    )

-- ---- the rows and the columns so far
pub columns-join : (e run : Rect) (left row x y : ℕ) → e.left ≤ left → left < run.right → run.left ≡ left → run.bottom ≡ row → run.top ≡ row + 1
    → (holds (row_to left row e) x y || holds run x y) ≡ holds (row_to run.right row e) x y
columns-join e run left row x y on wide from below above = grind (arith, nat_tests)

pub rows-join : (e : Rect) (row x y : ℕ) → e.bottom ≤ row → (holds (rows_to row e) x y || holds (row_of row e) x y) ≡ holds (rows_to (row + 1) e) x y
rows-join e row x y on = grind (arith, nat_tests)

pub no-columns : (e : Rect) (left row x y : ℕ) → left ≡ e.left → holds (row_to left row e) x y ≡ false
no-columns e left row x y from = grind (arith, nat_tests)

pub no-rows : (e : Rect) (row x y : ℕ) → row ≡ e.bottom → holds (rows_to row e) x y ≡ false
no-rows e row x y from = grind (arith, nat_tests)

-- where the call before the return didn't fail
pub gain-when_ok :
    {E : Type 0} (result : Result (Unit {0}) E) (first : ℕ) (run : Piece) (old new : List Piece)
    → ((extent : Rect) (picture : Picture) → IsRectangleIn extent run.rect → Shows picture run → GainArea extent picture first run.rect old new)
    → OnOk result ((extent : Rect) (picture : Picture) → IsRectangleIn extent run.rect → Shows picture run → GainArea extent picture first run.rect old new)
gain-when_ok (Ok x) first run old new gains = gains
gain-when_ok (Err e) first run old new gains = tt

-- one run more in a row
pub columns-more :
    (block : Rect) (picture : Picture) (first row left right : ℕ) (run : Piece) (old middle new : List Piece) → right ≡ run.rect.right → IsRunFrom block picture left row run
    → block.left ≤ left → GainArea block picture first (row_to left row block) old middle → GainArea block picture first run.rect middle new
    → HasColumns block picture first row right old new
columns-more block picture first row left right run old middle new is found from one two = record {
  from = omega (arith, is, found.from, found.legal.wide, from);
  to = omega (arith, is, found.legal.right_in);
  gained = subst (λ line. GainArea block picture first (row_to line row block) old new) (sym is)
      (gain-more block picture first (row_to left row block) run.rect (row_to run.rect.right row block) old middle new
      (λ x y. columns-join block run.rect left row x y from (omega (arith, found.from, found.legal.wide)) found.from found.below found.above) one two);
}

-- one row more
pub rows-more :
    (lent squares : List ℕ) (lines block : Rect) (from first row : ℕ) (old middle new : List Piece) → lent ≡ squares → lines ≡ block → from ≡ first → block.bottom ≤ row
    → GainArea block (grid_picture squares block) first (rows_to row block) old middle → GainArea lines (grid_picture lent lines) from (row_of row lines) middle new
    → GainArea block (grid_picture squares block) first (rows_to (row + 1) block) old new
rows-more lent squares lines block from first row old middle new is same begins on one two =
    let Gains : List ℕ → Rect → ℕ → Type 0 = λ ks e n. GainArea e (grid_picture ks e) n (row_of row e) middle new in
    let two' = subst (λ ks. Gains ks block first) is (subst (λ e. Gains lent e first) same (subst (λ n. Gains lent lines n) begins two)) in
    gain-more block (grid_picture squares block) first (rows_to row block) (row_of row block) (rows_to (row + 1) block) old middle new (λ x y. rows-join block row x y on) one two'

pub all-rows :
    (block : Rect) (picture : Picture) (row : ℕ) (old new : List Piece) → row ≡ block.top → GainArea block picture (length old) (rows_to row block) old new
    → AppendsCover block picture old new
all-rows block picture row old new is gain = gain-all block picture old new (subst (λ line. GainArea block picture (length old) (rows_to line block) old new) is gain)
