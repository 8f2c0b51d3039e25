pub mod Severity
pub mod Value
pub mod Attributes
pub mod Location
pub mod Bridge
