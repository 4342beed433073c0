pub mod Numbers
pub mod Lines
pub mod Items
pub mod Encrypted
pub mod KeptItems
pub mod LineDigits
mod Examples
