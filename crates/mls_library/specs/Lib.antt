pub mod Bounds
pub mod CellFiles
pub mod Faults
pub mod Inner
pub mod Libraries
pub mod MarkedCells
pub mod SavedCells
