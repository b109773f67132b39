-- Findings of the first piece, and what they mark.
use Rattle.std.proofs.Common.{◌≡◌, ℕ, true, List, length, Some, sym, ap, ◌∙◌}
use Rattle.std.proofs.lemmas.Option.{same_Some}
use Rattle.mls_errorplane.proofs.Common.{AgreeOutside, Checking, EdgeRule, Finding, IsExact, IsFresh, Layout, Rect, Snapshot, copied_layout, first_piece_of, forbidden, holds, marks, within, world}
use Rattle.mls_errorplane.proofs.CheckedMarks.{exact-forbidden}

-- the planes are as many as were copied, and show in the zone what was copied
abbrev pub IsShown : Snapshot → ℕ → Layout → Type 0
IsShown snapshot planes layout = (length snapshot.planes ≡ planes) × (copied_layout snapshot ≡ within snapshot.zone layout)

-- a finding of the first piece, by these rules, and of the layout as it is now is fresh
pub made-fresh :
    (rules : List EdgeRule) (planes : ℕ) (layout : Layout) (now : Checking) (finding : Finding) (piece : Rect) → Some piece ≡ first_piece_of now.dirty
    → (finding.piece ≡ piece) × (finding.rules ≡ rules) → IsShown finding.snapshot planes layout
    → IsFresh rules planes layout now finding
made-fresh rules planes layout now finding piece first same shown = record {
  rules = same.1;
  piece = sym first ∙ ap (λ (e : Rect). Some e) (sym same.0);
  planes = shown.0;
  zone = shown.1;
}

-- and only such a one
pub fresh-same :
    (rules : List EdgeRule) (planes : ℕ) (layout : Layout) (now : Checking) (finding : Finding) (piece : Rect) → Some piece ≡ first_piece_of now.dirty
    → IsFresh rules planes layout now finding → (finding.piece ≡ piece) × (finding.rules ≡ rules)
fresh-same rules planes layout now finding piece first fresh = (same_Some finding.piece piece (sym fresh.piece ∙ sym first), fresh.rules)

-- a fresh finding marks in the first piece what the rules forbid there
pub fresh-forbidden :
    (rules : List EdgeRule) (planes : ℕ) (layout : Layout) (now : Checking) (finding : Finding) → IsFresh rules planes layout now finding
    → IsExact finding.piece finding.snapshot finding.rules finding.marks → AgreeOutside world layout (λ plane x y. 0)
    → (x y : ℕ) → holds finding.piece x y ≡ true → marks finding.marks x y ≡ forbidden rules layout x y
fresh-forbidden rules planes layout now finding fresh exact space x y here =
    exact-forbidden finding.rules finding.piece layout finding.snapshot finding.marks exact fresh.zone space x y here
    ∙ ap (λ (list : List EdgeRule). forbidden list layout x y) fresh.rules
