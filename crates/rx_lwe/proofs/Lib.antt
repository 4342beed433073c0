pub mod Draws
pub mod Bodies
pub mod Keys
pub mod Encrypted
pub mod Noises
pub mod Rows
pub mod Marks
pub mod Made
pub mod Switched
pub mod SeededRows
pub mod SeededSwitch
mod Examples
