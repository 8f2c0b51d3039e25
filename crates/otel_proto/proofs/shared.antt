-- Lemmas that crates above use too.
pub mod Outputs
pub mod ReadBack
pub mod Readable
