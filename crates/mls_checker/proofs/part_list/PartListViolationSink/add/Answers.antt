use Rattle.std.proofs.Common.{true≢false, List, [], refl, sym, ap, subst, ◌∙◌}
use Rattle.std.specs.List.{All}
use Rattle.std.proofs.Math.Bool.{or-false}
use Rattle.mls_geom.specs.Rects.{Rect, common}
use Rattle.mls_checker.specs.Copies.{copied_layout}
use Rattle.mls_checker.specs.Marking.{squares_of}
use Rattle.mls_checker.specs.Tiles.{AreTiles, HasTile, Tile}
use Rattle.mls_checker.specs.Violations.{ListStart}
use Rattle.mls_checker.proofs.ListedParts.{listed-parts}
use Rattle.mls_checker.proofs.RectParts.{rect-covered}
use Rattle.mls_checker.proofs.part_list.PartListViolationSink.add.Goals as goal

pub returns-then-self : goal.returns-then-self
returns-then-self c rect set before = (before.0, λ short. absurd (true≢false (sym c.if-self.true ∙ short)))

pub scan_tiles-requires : goal.scan_tiles-requires
scan_tiles-requires c =
    rect-covered c.args.area c.args.self.now.rect c.common-part.result _ _ c.tiles.result.now c.area.ensures.legal c.tiles.ensures.tiles c.tiles.ensures.value (c.common-part.ensures ∙ ap (λ (e : Rect). common c.args.area e) c.area.ensures.value)

pub returns : goal.returns
returns c rect set before =
    let layout = copied_layout c.args.snapshot.now in
    let rule = c.args.rule.now in
    let area = c.args.area in
    let picture = layout rule.check_plane in
    let old = squares_of c.args.self.now.areas.items in
    let start : ListStart = record { rect = rect; rule = rule; set = old; is_short = c.args.self.now.is_short } in
    let shown : All (HasTile picture) c.tiles.result.now = subst (λ (tiles : List Tile). All (HasTile picture) tiles) (sym c.tiles.ensures.value) c.tiles.ensures.tiles.shown in
    let (parts, took, are) = c.scan_tiles.ensures picture start [] shown (before.0, refl, λ short. (short, λ x y. sym (or-false (old x y)))) in
    let are' : AreTiles (common area rect) picture parts =
    subst (λ (e : Rect). AreTiles e picture parts) (c.common-part.ensures ∙ ap (λ (e : Rect). common area e) (c.area.ensures.value ∙ before.0)) are in (
      took.0,
      λ short x y. (let now = took.2 short in listed-parts rule layout rect area set old _ parts are' (before.1 now.0) now.1 x y),
    )
