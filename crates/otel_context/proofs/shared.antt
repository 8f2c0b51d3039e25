-- Lemmas that crates above use too.
pub mod BaggageAppends
pub mod BaggageEscapes
pub mod BaggageLists
pub mod BaggagePuts
pub mod BaggageTrims
pub mod LiveLemmas
pub mod SpansLemmas
