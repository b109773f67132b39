-- The inner words of the sweep, which no public contract names.
pub mod ActivePieces
pub mod BandLines
pub mod Chains
pub mod Changing
pub mod Events
pub mod Hidden
pub mod KeptRows
pub mod RowRooms
pub mod Rows
pub mod Slots
pub mod Stacks
pub mod SweepRooms
pub mod Trees
