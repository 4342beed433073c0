pub mod Sizes
pub mod RowWords
pub mod HiddenWords
pub mod MadeKeys
pub mod MarkPowers
pub mod Turning
pub mod Budget
pub mod Lookup
pub mod SeededKeys
mod Examples
