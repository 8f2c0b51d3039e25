-- Lemmas that dependent crates use too.
pub mod Header
pub mod Numerals
pub mod Readings
