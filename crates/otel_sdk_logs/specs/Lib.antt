pub mod Cuts
pub mod Attributes
pub mod LogRecord
pub mod Processor
pub mod Batch
pub mod Provider
