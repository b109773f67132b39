-- The text of a layout reads back as the layout.
use Rattle.std.proofs.Common.{All, get_or}
use Rattle.std.specs.Prelude.{IfSome}
use Rattle.mls_geom.specs.Layouts.{Layout}
use Rattle.mls_geom.specs.Pictures.{Picture}
use Rattle.mls_geom.specs.Rects.{IsRectangleIn}
use Rattle.mls_geom.specs.StripLists.{strips_of}
use Rattle.mls_geom.specs.World.{world}
use Rattle.mls_geom.proofs.ListedStrips.{AreStrips-strips_of}
use Rattle.mls_geom.proofs.StripPictures.{IsRectangleIn-IsStrip}
use Rattle.mls_tech.specs.Readings.{HasNames, Tech}
use Rattle.mls_text.specs.Lines.{IsUnbroken}
use Rattle.mls_library.specs.SavedCells.{HoldsOwnTypes, ReadsAs, saved_text, strips_on, type_numbers}
use Rattle.mls_library.proofs.SavedLayouts.{layout_of-layers_rects, type_numbers-within}
use Rattle.mls_library.proofs.SavedNames.{first_name-names}
use Rattle.mls_library.proofs.SavedReading.{IsNamed, layers_rects, reading_of-file_lines}

-- strips of a picture lie in the world
pub legal_strips : (picture : Picture) → All (λ strip. IsRectangleIn world strip.rect) (strips_of world picture)
legal_strips picture k d within =
    let are = AreStrips-strips_of world picture in
    IsRectangleIn-IsStrip world picture (get_or (strips_of world picture) k d) (are.each k d within)

pub named_types : (tech : Tech) → HasNames tech.types tech.type_planes → All (IsNamed tech) (type_numbers tech)
named_types tech names k d within = let inside = type_numbers-within tech k d within in first_name-names tech names (get_or (type_numbers tech) k d) inside.0 inside.1

pub saved-reads-back : (tech : Tech) (layout : Layout) → HasNames tech.types tech.type_planes → IfSome tech.name IsUnbroken → HoldsOwnTypes tech layout → ReadsAs tech (saved_text tech layout) layout
saved-reads-back tech layout names unbroken own = (
  layers_rects tech (strips_on layout) (type_numbers tech),
  reading_of-file_lines tech (strips_on layout) (λ plane. legal_strips (layout plane)) (named_types tech names) unbroken,
  layout_of-layers_rects tech layout (strips_on layout) (λ plane. AreStrips-strips_of world (layout plane)) own,
)
