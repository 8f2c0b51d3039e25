pub mod Headers
pub mod Injector
pub mod Lines
