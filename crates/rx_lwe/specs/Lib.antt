pub mod Secret
pub mod Lwe
pub mod SwitchKeys
pub mod Seeded
