-- Lemmas that crates above use too.
pub mod BatchLemmas
pub mod Places
