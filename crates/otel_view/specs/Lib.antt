pub mod Chosen
pub mod Color
pub mod Logs
pub mod Progress
pub mod Skipped
pub mod Summary
pub mod Trace
