-- Lemmas that crates above use too.
pub mod Maps
pub mod Rising
pub mod Setting
pub mod GhostSteps
