pub mod Compiling
pub mod Directions
pub mod Faults
pub mod Halos
pub mod PlaneTypes
pub mod RuleLists
pub mod RuleSets
