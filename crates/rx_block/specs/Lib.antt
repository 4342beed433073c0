pub mod Fresh
pub mod Combine
pub mod Keeps
pub mod Lookup
pub mod Outputs
pub mod Laws
pub mod Noise
pub mod NoiseLaws
