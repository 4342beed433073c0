pub mod Tables
pub mod Values
pub mod Planned
pub mod Rows
pub mod Results
