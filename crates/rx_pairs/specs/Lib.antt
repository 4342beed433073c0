pub mod PairFile
pub mod Laws
