pub mod PairFiles
mod Examples
