-- Tiles are stitched to fresh ones, one by one: each leads to the last of those up to the square beyond it, and the last of these lead back.
use Rattle.std.proofs.Common.{◌≡◌, ℕ, ◌+◌, ◌-◌, ◌<◌, ◌≤◌, false, true, List, ◌++◌, length, take, drop, get_or, All, Some, Option, refl, sym, ap, subst, subst₂, ◌∙◌, arith, inl, inr}
use Rattle.mls_stitch.proofs.Common.{AllWithin, IsPermutation, cases_lt, false≢true, get_or_default, All-contains, AllWithin-more, Contains-append_cases, at_read, All-permutation, IsPermutation-refl, IsPermutation-sym, IsPermutation-trans, same_Some, Piece, Tile, AreInPlace, AreLed, AreListed, AreSewn, AreSewnAcross, AwaitStitches, IsLed, IsSewn, IsStitchedAt, KeepStitches, HoldsAt, LeadsTo, beyond, stitch_of, AreTiledAs, IsLaid, LaidTile, Stitch, Lb, Bl, Tr, Rt}
use Rattle.std.proofs.Math.Seq.{drop-append_seam, take-append_seam}
use Rattle.mls_stitch.proofs.FreshTiles.{entry-keys_of}
use Rattle.mls_stitch.proofs.SettingStitches.{AreLed-later, IsSet, KeepStitches-refl, KeepStitches-set, KeepStitches-trans, set_is_right}
use Rattle.mls_stitch.proofs.Sides.{HoldsAt-block, placed_tile}
use Rattle.mls_stitch.proofs.TilesBeyond.{back_early, back_later, last_has_beyond}
use Rattle.mls_stitch.specs.Lookups.{BeginUpTo, AreSortedFor, back_of, leads_to}

-- the tiles while those that lead back are set: those of the last ones before the count are right
pub record ArePartlyBack (old new : List (ℕ × Tile)) (blocks : ℕ → Option Piece) (stitch : Stitch) (entries : List LaidTile) (rest count : ℕ) : Type 0 where
  pub keeps : KeepStitches old new blocks
  pub done : AllWithin (λ other. IsStitchedAt new blocks (back_of stitch) other.id) entries rest count

module _
    {blocks : ℕ → Option Piece} (stitch : Stitch) (tile : LaidTile) (entries : List LaidTile) (count : ℕ) (listed : All (IsLaid blocks) entries) (laid : IsLaid blocks tile)
    (sorted : AreSortedFor stitch entries) (parted : BeginUpTo stitch tile.piece.rect entries count)
  where
    -- a tile whose stitch is to lead to the last of the first ones leads to each to which it is to lead, once it is set
    pub onward_set :
        {old new : List (ℕ × Tile)} {was : Tile} (d : LaidTile) → AreInPlace old blocks → 0 < count → leads_to stitch tile (get_or entries (count - 1) d) ≡ true
        → IsSet stitch old new tile.id (get_or entries (count - 1) d).id was → KeepStitches old new blocks × All (λ other. IsLed new blocks stitch tile other) entries
    onward_set d place some leads change =
        let last = get_or entries (count - 1) d in
        let held : HoldsAt blocks last.id (beyond stitch tile.piece.rect) =
        HoldsAt-block blocks last.id last.piece (beyond stitch tile.piece.rect) (listed (count - 1) d (omega (arith, parted.bound, some))) leads in
        (KeepStitches-set tile.piece change laid held place, λ k e within led. set_is_right blocks tile.piece change laid held)

    -- and it does so without that, where its stitch isn't to lead to the last of the first ones
    pub onward_none :
        {tiles : List (ℕ × Tile)} → AreInPlace tiles blocks → (0 < count → (d : LaidTile) × (leads_to stitch tile (get_or entries (count - 1) d) ≡ false))
        → All (λ other. IsLed tiles blocks stitch tile other) entries
    onward_none place none = λ k e within led.
        let (some, passes) = last_has_beyond stitch tile entries count place.tiling listed laid sorted parted k e within led in
        let (d, fails) = none some in
        absurd (false≢true (sym fails ∙ rw (get_or_default entries (count - 1) e d (omega (arith, parted.bound, some))) at passes))

    -- one more is set
    pub ArePartlyBack-set :
        {old now new : List (ℕ × Tile)} {rest : ℕ} {was : Tile} (back : Stitch) (d : LaidTile) → back ≡ back_of stitch → 0 < rest → rest ≤ count
        → ArePartlyBack old now blocks stitch entries rest count → leads_to back (get_or entries (rest - 1) d) tile ≡ true
        → IsSet back now new (get_or entries (rest - 1) d).id tile.id was → ArePartlyBack old new blocks stitch entries (rest - 1) count
    ArePartlyBack-set {now} {new} {rest} {was} back d turned some bound part leads set =
        let last = get_or entries (rest - 1) d in
        let within : rest - 1 < length entries = omega (arith, parted.bound, bound, some) in
        let held : HoldsAt blocks tile.id (beyond back last.piece.rect) = HoldsAt-block blocks tile.id tile.piece (beyond back last.piece.rect) laid leads in
        let keeps : KeepStitches now new blocks = KeepStitches-set last.piece set (listed (rest - 1) d within) held part.keeps.place in
        let right : IsStitchedAt new blocks (back_of stitch) last.id = rw turned at (set_is_right blocks last.piece set (listed (rest - 1) d within) held) in
        record {
          keeps = KeepStitches-trans part.keeps keeps;
          done = λ k e low high. elim (cases_lt k rest) [
            | inl before ↦
                let one : k ≡ rest - 1 = omega (arith, low, before) in
                rw (one, get_or_default entries (rest - 1) e d within) right
            | inr after ↦ keeps.kept (back_of stitch) (get_or entries k e).id (part.done k e after high)
          ];
        }

    -- none before them leads back
    ArePartlyBack-end :
        {old new : List (ℕ × Tile)} {rest : ℕ} → rest ≤ count → ArePartlyBack old new blocks stitch entries rest count
        → (0 < rest → (d : LaidTile) × (leads_to (back_of stitch) (get_or entries (rest - 1) d) tile ≡ false))
        → All (λ other. IsLed new blocks (back_of stitch) other tile) entries
    ArePartlyBack-end {rest} bound part none = λ k e within led.
        let tiling = part.keeps.place.tiling in
        let early : k < count = back_early stitch tile entries count tiling listed laid sorted parted k e within led in
        elim (cases_lt k rest) [
          | inl before ↦
              let (d, fails) = none (omega (arith, before)) in
              let passes = back_later stitch tile entries count tiling listed laid sorted parted k (rest - 1) e (omega (arith, before)) (omega (arith, before, bound)) led in
              absurd (false≢true (sym fails ∙ rw (get_or_default entries (rest - 1) e d (omega (arith, parted.bound, bound, before))) at passes))
          | inr after ↦ part.done k e after early
        ]

    -- so the tile is sewn to the fresh ones once its own stitch leads where it is to lead too
    pub IsSewn-side :
        {old now new : List (ℕ × Tile)} {rest : ℕ} → rest ≤ count → ArePartlyBack old now blocks stitch entries rest count
        → (0 < rest → (d : LaidTile) × (leads_to (back_of stitch) (get_or entries (rest - 1) d) tile ≡ false))
        → KeepStitches now new blocks × All (λ other. IsLed new blocks stitch tile other) entries → IsSewn old new blocks stitch tile entries
    IsSewn-side bound part none (keeps, onward) = record {
      keeps = KeepStitches-trans part.keeps keeps;
      onward = onward;
      back = λ k d within led. keeps.kept (back_of stitch) (get_or entries k d).id (ArePartlyBack-end bound part none k d within led);
    }

-- the tiles while sides are sewn: those of the first tiles are
pub record ArePartlySewn (old new : List (ℕ × Tile)) (blocks : ℕ → Option Piece) (stitch : Stitch) (tiles fresh : List LaidTile) (index : ℕ) : Type 0 where
  pub keeps : KeepStitches old new blocks
  pub onward : AllWithin (λ tile. All (λ other. IsLed new blocks stitch tile other) fresh) tiles 0 index
  pub back : AllWithin (λ tile. All (λ other. IsLed new blocks (back_of stitch) other tile) fresh) tiles 0 index

pub ArePartlySewn-more :
    {old now new : List (ℕ × Tile)} {blocks : ℕ → Option Piece} {stitch : Stitch} {tiles fresh : List LaidTile} {index : ℕ} (tile : LaidTile)
    → ArePartlySewn old now blocks stitch tiles fresh index → index < length tiles → tile ≡ get_or tiles index tile → IsSewn now new blocks stitch tile fresh
    → ArePartlySewn old new blocks stitch tiles fresh (index + 1)
ArePartlySewn-more {new} {blocks} {stitch} {tiles} {fresh} {index} tile part within is sewn = record {
  keeps = KeepStitches-trans part.keeps sewn.keeps;
  onward = AllWithin-more (λ (t : LaidTile). All (λ other. IsLed new blocks stitch t other) fresh) tiles 0 index
      (λ k d low high i e inside led. sewn.keeps.kept stitch (get_or tiles k d).id (part.onward k d low high i e inside led))
      (at_read tiles (λ (t : LaidTile). All (λ other. IsLed new blocks stitch t other) fresh) index tile within is sewn.onward);
  back = AllWithin-more (λ (t : LaidTile). All (λ other. IsLed new blocks (back_of stitch) other t) fresh) tiles 0 index
      (λ k d low high i e inside led. sewn.keeps.kept (back_of stitch) (get_or fresh i e).id (part.back k d low high i e inside led))
      (at_read tiles (λ (t : LaidTile). All (λ other. IsLed new blocks (back_of stitch) other t) fresh) index tile within is sewn.back);
}

pub AreSewn-end :
    {old new : List (ℕ × Tile)} {blocks : ℕ → Option Piece} {stitch : Stitch} {tiles fresh : List LaidTile} → ArePartlySewn old new blocks stitch tiles fresh (length tiles)
    → AreSewn old new blocks stitch tiles fresh
AreSewn-end part = record {
  keeps = part.keeps;
  onward = λ k d within. part.onward k d (omega arith) within;
  back = λ i e inside k d within. part.back k d (omega arith) within i e inside;
}

-- tiles around and fresh ones lead to each other by this stitch
record AreAllLed (tiles : List (ℕ × Tile)) (blocks : ℕ → Option Piece) (stitch : Stitch) (around fresh : List LaidTile) : Type 0 where
  inward : AreLed tiles blocks stitch around fresh
  among : AreLed tiles blocks stitch fresh fresh
  outward : AreLed tiles blocks stitch fresh around

-- a stitch of a listed tile that is to lead to a listed one does, where at least one of the two is fresh
led_listed :
    {tiles : List (ℕ × Tile)} {blocks : ℕ → Option Piece} (stitch : Stitch) (around fresh : List LaidTile) (key : ℕ) (block : Piece) → AreAllLed tiles blocks stitch around fresh
    → All (IsLaid blocks) around → All (IsLaid blocks) fresh → blocks key ≡ Some block → AreListed around fresh key (beyond stitch block.rect) → IsStitchedAt tiles blocks stitch key
led_listed {tiles} {blocks} stitch around fresh key block led laid_around laid_fresh laid (inl (key_in, (k, other, within, same, held))) =
    let (entry, found, is) = entry-keys_of fresh key key_in in
    let one : block ≡ entry.piece = same_Some block entry.piece (sym laid ∙ ap blocks (sym is) ∙ All-contains (IsLaid blocks) fresh entry laid_fresh found) in
    let leads : leads_to stitch entry other ≡ true = subst (λ (p : Piece). leads_to stitch (record { id = key; piece = p }) other ≡ true) one held in
    subst (IsStitchedAt tiles blocks stitch) is (elim (Contains-append_cases around fresh other (k, within, same)) [
      | inl beside ↦
          All-contains (λ e. IsLed tiles blocks stitch entry e) around other (All-contains (λ e. All (λ o. IsLed tiles blocks stitch e o) around) fresh entry led.outward found) beside leads
      | inr own ↦
          All-contains (λ e. IsLed tiles blocks stitch entry e) fresh other (All-contains (λ e. All (λ o. IsLed tiles blocks stitch e o) fresh) fresh entry led.among found) own leads
    ])
led_listed {tiles} {blocks} stitch around fresh key block led laid_around laid_fresh laid (inr (key_in, (k, other, within, same, held))) =
    let (entry, found, is) = entry-keys_of around key key_in in
    let one : block ≡ entry.piece = same_Some block entry.piece (sym laid ∙ ap blocks (sym is) ∙ All-contains (IsLaid blocks) around entry laid_around found) in
    let leads : leads_to stitch entry other ≡ true = subst (λ (p : Piece). leads_to stitch (record { id = key; piece = p }) other ≡ true) one held in
    subst (IsStitchedAt tiles blocks stitch) is
    (All-contains (λ e. IsLed tiles blocks stitch entry e) fresh other (All-contains (λ e. All (λ o. IsLed tiles blocks stitch e o) fresh) around entry led.inward found) (k, within, same) leads)

-- what holds of the four stitches holds of each
each_stitch : (P : Stitch → Type 0) → P Lb → P Bl → P Tr → P Rt → (stitch : Stitch) → P stitch
each_stitch P lb bl tr rt Lb = lb
each_stitch P lb bl tr rt Bl = bl
each_stitch P lb bl tr rt Tr = tr
each_stitch P lb bl tr rt Rt = rt

-- so all stitches lead where they are to lead
all_stitched :
    {old new : List (ℕ × Tile)} {blocks : ℕ → Option Piece} {around fresh : List LaidTile} → AwaitStitches old blocks around fresh → KeepStitches old new blocks
    → ((stitch : Stitch) → AreAllLed new blocks stitch around fresh) → AreTiledAs new blocks
all_stitched {old} {new} {blocks} {around} {fresh} waits keeps led = record {
  tiling = keeps.place.tiling;
  placed = keeps.place.placed;
  stitched = λ key tile block stitch there laid.
      let (before, was, here) = placed_tile old blocks key block (waits.place.placed key) laid in
      let right : IsStitchedAt new blocks stitch key = elim (waits.pending key before block stitch was laid) [
        | inl leads ↦
            keeps.kept stitch key (λ now shape is is_shape.
            subst (λ (t : Tile). LeadsTo blocks (stitch_of stitch t) (beyond stitch shape.rect)) (same_Some before now (sym was ∙ is))
            (subst (λ (p : Piece). LeadsTo blocks (stitch_of stitch before) (beyond stitch p.rect)) (same_Some block shape (sym laid ∙ is_shape)) leads))
        | inr listed ↦ led_listed stitch around fresh key block (led stitch) waits.laid_around waits.laid_fresh laid listed
      ] in
      right tile block there laid;
}

-- after a round over two sides across from each other, tiles lead to each other by the stitches over both, also where some are set later
led_both :
    {old now new : List (ℕ × Tile)} {blocks : ℕ → Option Piece} {around fresh moved : List LaidTile} (stitch : Stitch) → back_of (back_of stitch) ≡ stitch
    → AreSewnAcross old now blocks stitch around moved → KeepStitches now new blocks → IsPermutation moved fresh
    → AreAllLed new blocks stitch around fresh × AreAllLed new blocks (back_of stitch) around fresh
led_both {around = around} stitch turned sewn keeps order =
    let back = back_of stitch in
    let same = IsPermutation-refl around in (
      record {
        inward = AreLed-later stitch keeps same order sewn.onward.onward;
        among = AreLed-later stitch keeps order order sewn.among.onward;
        outward = rw turned at (AreLed-later (back_of back) keeps order same sewn.back.back);
      },
      record {
        inward = AreLed-later back keeps same order sewn.back.onward;
        among = AreLed-later back keeps order order sewn.among.back;
        outward = AreLed-later back keeps order same sewn.onward.back;
      },
    )

-- two rounds, one over the upper and the lower sides and one over the right and the left ones
pub AreTiledAs-sewn :
    {a b c : List (ℕ × Tile)} {blocks : ℕ → Option Piece} {around f g h : List LaidTile} → AwaitStitches a blocks around f → IsPermutation f g → IsPermutation g h
    → AreSewnAcross a b blocks Rt around g → AreSewnAcross b c blocks Tr around h → AreTiledAs c blocks
AreTiledAs-sewn {c = c} {blocks = blocks} {around = around} {f = f} {g = g} {h = h} waits fg gh rows columns =
    let after = columns.onward.keeps in
    let (rt, lb) = led_both Rt refl rows after (IsPermutation-sym f g fg) in
    let (tr, bl) = led_both Tr refl columns (KeepStitches-refl after.place) (IsPermutation-sym f h (IsPermutation-trans f g h fg gh)) in
    all_stitched waits (KeepStitches-trans rows.onward.keeps after) (each_stitch (λ stitch. AreAllLed c blocks stitch around f) lb bl tr rt)

-- tiles that lie in place, with the listed ones that are to be stitched
pub record AreReady (tiles : List (ℕ × Tile)) (blocks : ℕ → Option Piece) (around fresh : List LaidTile) : Type 0 where
  pub place : AreInPlace tiles blocks
  pub laid_around : All (IsLaid blocks) around
  pub laid_fresh : All (IsLaid blocks) fresh

pub ready : {tiles : List (ℕ × Tile)} {blocks : ℕ → Option Piece} {around fresh : List LaidTile} → AwaitStitches tiles blocks around fresh → AreReady tiles blocks around fresh
ready waits = record { place = waits.place; laid_around = waits.laid_around; laid_fresh = waits.laid_fresh }

-- a round has sewn some, and leaves the tiles ready for the next
pub round :
    {S : Type 0} {old new : List (ℕ × Tile)} {blocks : ℕ → Option Piece} {around fresh moved : List LaidTile} → AreReady old blocks around fresh → IsPermutation fresh moved
    → (AreInPlace old blocks → All (IsLaid blocks) around → All (IsLaid blocks) fresh → S) → (S → KeepStitches old new blocks) → S × AreReady new blocks around moved
round {blocks = blocks} before permuted sews keeps =
    let sewn = sews before.place before.laid_around before.laid_fresh in
    (sewn, record { place = (keeps sewn).place; laid_around = before.laid_around; laid_fresh = All-permutation (IsLaid blocks) _ _ permuted before.laid_fresh })

-- a list is parted in one way at a length, so the tiles wait as the list is parted
pub AwaitStitches-split :
    {tiles : List (ℕ × Tile)} {blocks : ℕ → Option Piece} {around fresh beside laid list : List LaidTile} → list ≡ around ++ fresh → list ≡ beside ++ laid → length beside ≡ length around
    → AwaitStitches tiles blocks around fresh → AwaitStitches tiles blocks beside laid
AwaitStitches-split {tiles} {blocks} {around} {fresh} {beside} {laid} one other long waits =
    let whole : beside ++ laid ≡ around ++ fresh = sym other ∙ one in
    let first : beside ≡ around = sym (take-append_seam beside laid) ∙ ap (take (length beside)) whole ∙ ap (λ n. take n (around ++ fresh)) long ∙ take-append_seam around fresh in
    let rest : laid ≡ fresh = sym (drop-append_seam beside laid) ∙ ap (drop (length beside)) whole ∙ ap (λ n. drop n (around ++ fresh)) long ∙ drop-append_seam around fresh in
    subst₂ (AwaitStitches tiles blocks) (sym first) (sym rest) waits
