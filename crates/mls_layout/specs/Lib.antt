pub mod Grids
pub mod Inner
pub mod Likenesses
pub mod Moves
pub mod Strips
pub mod Uses
pub mod Workspaces
