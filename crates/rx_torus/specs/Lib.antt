pub mod Streams
pub mod Kinds
pub mod Offsets
