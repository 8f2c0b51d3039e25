pub mod Events
pub mod Extracted
pub mod Failures
pub mod Lines
pub mod NamedContext
pub mod Outcome
pub mod Report
pub mod Run
