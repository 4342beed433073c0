pub mod Places
pub mod Steps
pub mod LineValues
pub mod PortDigits
pub mod Ports
pub mod Ranges
pub mod Held
pub mod Wanted
pub mod InputFits
pub mod OutputFits
pub mod Whole
pub mod InputCells
pub mod Beginning
mod Realizing
mod Wholes
mod Numbers
mod Orders
mod Single
mod Shifts
mod Arguments
mod Bitwise
mod Rules
mod Others
mod Examples
