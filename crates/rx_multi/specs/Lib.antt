pub mod PairKeys
pub mod Turns
pub mod PairBootstrap
pub mod Laws
