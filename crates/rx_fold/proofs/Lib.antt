mod Examples
pub mod Equal
pub mod Stand
pub mod Needs
pub mod Numbering
pub mod Facts
pub mod Transfers
pub mod Tags
pub mod Results
pub mod Again
mod Firsts
mod Found
mod Marks
mod Made
mod Lists
