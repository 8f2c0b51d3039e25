pub mod shared
pub mod Decided
pub mod MapTrees
pub mod Sorting
pub mod Walk
