-- The strips that are listed are those of the type's plane.
use Rattle.std.proofs.Common.{length, ap, subst, ◌∙◌, IfSome}
use Rattle.mls_session.proofs.Common.{IsSection, ListsPlane, Pool, layer_lines, layout_in}
use Rattle.mls_session.proofs.SavedPlanes.{section-few, section_of}
use Rattle.mls_session.proofs.design.Design.list_section.Goals as goal

section :
    (c : goal.After-layer_line_count)
    → IsSection c.args.tech.now (layout_in c.args.workspace.now.pool c.args.self.now.planes) c.args.kind c.list_plane.new.workspace.pieces.items c.layer_line_count.result
section c =
    let strips = c.list_plane.new.workspace.pieces.items in
    section_of c.args.tech.now (layout_in c.args.workspace.now.pool c.args.self.now.planes) c.args.kind strips c.layer_line_count.result c.list_plane.new.listed c.requires.is_type.0
    c.requires.is_type.1 (c.list_plane.ensures.plane ∙ c.plane_of.ensures.value)
    (subst (λ (pool : Pool). IfSome c.list_plane.new.listed (ListsPlane (layout_in pool c.args.self.now.planes) strips)) c.list_plane.ensures.pool c.list_plane.ensures.lists.lists)
    (c.layer_line_count.ensures c.args.tech.now ∙ ap (λ found. length (layer_lines c.args.tech.now c.args.kind found)) c.deref.ensures.value)

pub returns-clause-section : goal.returns-clause-section
returns-clause-section c = section c

pub returns-clause-few : goal.returns-clause-few
returns-clause-few c =
    section-few c.args.tech.now (layout_in c.args.workspace.now.pool c.args.self.now.planes) c.args.kind c.list_plane.new.workspace.pieces.items c.layer_line_count.result (section c)
