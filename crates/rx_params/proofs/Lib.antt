pub mod Accepted
pub mod Refusals
pub mod Rotations
pub mod Sizes
mod Examples
pub mod Texts
mod ExamplesText
