pub mod FileKinds
pub mod Masks
pub mod SeededServer
pub mod SeededCipher
pub mod Versions
pub mod Laws
