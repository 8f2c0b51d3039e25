-- Lemmas that dependent crates use too.
pub mod BlankCuts
pub mod Bytes
pub mod Joined
pub mod MappedLists
pub mod Options
pub mod Searches
pub mod Steps
pub mod Views
