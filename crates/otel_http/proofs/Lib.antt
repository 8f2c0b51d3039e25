pub mod LineLemmas
pub mod Reading
pub mod ThereAndBack
pub mod Written
