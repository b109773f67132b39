pub mod DrcLines
pub mod Faults
pub mod FileLines
pub mod FileNumbers
pub mod Inner
pub mod Names
pub mod Readings
pub mod TypeLists
