pub mod FileLemmas
mod KnownLemmas
mod Examples
