pub mod Rule
pub mod Steps
pub mod Tells
pub mod Seats
pub mod Meaning
pub mod Closing
