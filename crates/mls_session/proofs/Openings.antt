-- A design is opened plane by plane.
use Rattle.std.proofs.Common.{◌≡◌, ◌≢◌, ℕ, zero, suc, ◌+◌, ◌*◌, List, [], ◌∷◌, ◌++◌, length, get_or, All, refl, sym, ap, ◌∙◌, subst, length-append, add-mul, arith}
use Rattle.std.proofs.Math.Path.{fun_ext}
use Rattle.std.proofs.lemmas.List.Elements.{All-push}
use Rattle.mls_session.proofs.Common.{AddsOwner, AddsOwners, Config, HasRightMarks, IsChecked, Layout, Pool, blank, empty_picture, layout_in, layout_of, opening, opening_checking, picture_in, shown, unreserved}
use Rattle.mls_paint.proofs.OwnerFrames.{AddsOwners-push}
use Rattle.mls_layout.proofs.PlacedUses.{flattened-no_uses}
use Rattle.mls_errorplane.proofs.EmptyLayouts.{opening-IsChecked}

-- the planes show nothing
abbrev pub AreSpace : Pool → List ℕ → Type 0
AreSpace pool owners = All (λ owner. picture_in pool owner ≡ empty_picture) owners

layout_in-AreSpace : (pool : Pool) (owners : List ℕ) → AreSpace pool owners → (plane : ℕ) → layout_in pool owners plane ≡ empty_picture
layout_in-AreSpace pool [] space plane = refl
layout_in-AreSpace pool (owner ∷ owners) space zero = space 0 owner (omega arith)
layout_in-AreSpace pool (owner ∷ owners) space (suc plane) = layout_in-AreSpace pool owners (λ k d within. space (suc k) d (omega (arith, within))) plane

-- so their layout is blank
pub layout_in-blank : (pool : Pool) (owners : List ℕ) → AreSpace pool owners → layout_in pool owners ≡ blank.paint
layout_in-blank pool owners space = fun_ext (layout_in-AreSpace pool owners space)

-- with no uses the layout is the own paint
layout_of-blank : (config : Config) → ◌≡◌ {A = Layout} (layout_of config blank) (λ plane. empty_picture)
layout_of-blank config = flattened-no_uses config.cells (λ plane. empty_picture)

-- so at first the marks are right
pub HasRightMarks-opening : (config : Config) → HasRightMarks config (opening config.rules)
HasRightMarks-opening config =
    subst (λ (layout : Layout). IsChecked config.rules layout (opening_checking config.rules)) (sym (layout_of-blank config)) (opening-IsChecked config.rules)

-- one plane of space more
pub AreSpace-push :
    (old new : Pool) (owners : List ℕ) (owner tiles : ℕ) → AreSpace old owners → All (λ other. other ≢ owner) owners → AddsOwner old new owner tiles
    → picture_in new owner ≡ empty_picture → AreSpace new (owners ++ owner ∷ [])
AreSpace-push old new owners owner tiles space differ added shows =
    All-push (λ other. picture_in new other ≡ empty_picture) owners owner
    (λ k d within. ap shown (added.others (get_or owners k d) (differ k d within)) ∙ space k d within)
    shows

-- one owner more, with the reserve of each
pub AddsOwners-plane :
    (old mid new : Pool) (owners : List ℕ) (owner reserve : ℕ) → AddsOwners old mid owners (length owners * reserve) → All (λ other. other ≢ owner) owners
    → AddsOwner mid new owner reserve → unreserved new + reserve ≡ unreserved mid
    → AddsOwners old new (owners ++ owner ∷ []) (length (owners ++ owner ∷ []) * reserve)
AddsOwners-plane old mid new owners owner reserve before differ added taken =
    let one_more : length owners * reserve + reserve ≡ length (owners ++ owner ∷ []) * reserve =
    rw (length-append owners (owner ∷ []), add-mul (length owners) 1 reserve) (omega arith) in
    subst (AddsOwners old new (owners ++ owner ∷ [])) one_more (AddsOwners-push old mid new owners owner (length owners * reserve) reserve before differ added taken)
