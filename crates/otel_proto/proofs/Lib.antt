pub mod shared
pub mod TreeFields
pub mod Varints
