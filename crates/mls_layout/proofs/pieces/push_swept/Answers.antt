use Rattle.std.proofs.Common.{◌≡◌, true, IfOk, List, ◌++◌, refl, subst}
use Rattle.std.proofs.lemmas.Result.{IfOk-weaker}
use Rattle.mls_geom.specs.Locality.{AreCoveredStrips, laid}
use Rattle.mls_geom.specs.World.{world}
use Rattle.mls_geom.specs.declared.piece.Piece.{Piece}
use Rattle.mls_layout.specs.Grids.{AppendsCover}
use Rattle.mls_layout.specs.Uses.{flat_plane}
use Rattle.mls_layout.proofs.SweptPieces.{CoverBlock-strips}
use Rattle.mls_layout.proofs.pieces.push_swept.Goals as goal

pub returns-clause-appended : goal.returns-clause-appended
returns-clause-appended c =
    let pool = c.args.workspace.now.pool in
    let uses = c.args.uses.now in
    let rect = c.args.rect in
    let picture = flat_plane pool uses c.args.number c.args.plane.now in
    let old = c.args.out.now.items in
    let new = c.push_covered.new.out.items in
    let pieces = c.list_pieces.new.workspace.pieces.items in
    let listed = c.if-not-list_pieces.ensures in
    let legal = c.area.ensures.legal in
    IfOk-weaker c.push_covered.result
    (λ done. done ≡ true → (strips : List Piece) × (new ≡ old ++ strips) × AreCoveredStrips world (laid pieces) strips) (λ done. done ≡ true → AppendsCover rect picture old new)
    (λ pushed swept is.
    let (strips, added, are) = swept is in
    (strips, added, CoverBlock-strips rect pieces (listed.inside refl) picture strips legal (listed.laid refl) (listed.covered refl) are))
    (subst (λ list. IfOk c.push_covered.result (λ done. done ≡ true → (strips : List Piece) × (new ≡ old ++ strips) × AreCoveredStrips world (laid list) strips)) c.deref.ensures.value
    c.push_covered.ensures.appended)
