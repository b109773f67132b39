pub mod Countdowns
pub mod Groups
pub mod Scripts
pub mod Sorting
