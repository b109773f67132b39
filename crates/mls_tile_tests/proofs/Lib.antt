pub mod PlaneStrips
