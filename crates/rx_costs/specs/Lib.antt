pub mod Logs
pub mod Rounds
pub mod Table
pub mod Laws
