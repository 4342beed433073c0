pub mod Offset
mod Examples
