pub mod InputBlocks
