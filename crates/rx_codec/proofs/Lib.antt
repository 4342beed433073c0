pub mod Fields
pub mod Accepted
pub mod Params
pub mod Clients
pub mod Servers
pub mod Loops
pub mod Named
pub mod Words
pub mod BlockFields
pub mod NamesAndForms
pub mod ItemFields
pub mod Ciphers
pub mod Manys
pub mod NetFields
pub mod Nets
mod Examples
mod ExamplesFiles
