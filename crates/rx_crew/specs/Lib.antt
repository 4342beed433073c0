pub mod Kernel
pub mod Board
pub mod Evaluation
pub mod Noise
pub mod Work
pub mod Laws
