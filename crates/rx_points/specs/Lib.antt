pub mod Numbers
pub mod Windows
pub mod Residues
pub mod Rows
