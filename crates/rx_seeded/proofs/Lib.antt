pub mod Unlike
pub mod Magics
pub mod Filled
pub mod WrongMasks
pub mod SeededServers
pub mod BodiesFiles
pub mod SeededCiphers
pub mod EitherVersion
pub mod RowParts
pub mod FreshBodies
mod Examples
