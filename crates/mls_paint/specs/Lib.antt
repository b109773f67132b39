pub mod Changes
pub mod Owners
pub mod Painting
pub mod Planes
pub mod Plans
pub mod Scratches
