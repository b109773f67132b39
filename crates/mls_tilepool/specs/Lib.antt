pub mod Chains
pub mod Pools
