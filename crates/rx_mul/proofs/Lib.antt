pub mod PairRows
pub mod Grouped
pub mod Reduction
pub mod LastSum
