mod AlikePlanes
mod AlikeUses
mod CoveredBlocks
mod CoveredKinds
mod Covers
pub mod FlatLayouts
mod FoundTiles
mod FoundUses
mod LaidPieces
pub mod LentPlanes
pub mod LikeSquares
mod ListedTiles
mod MovedParts
mod OwnPaint
mod PaintedTiles
pub mod PlacedUses
mod Places
mod ShownPieces
mod ShownUses
mod SweptPieces
mod UniformRows
mod UsedCells
