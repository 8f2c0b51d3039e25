pub mod HeaderLemmas
pub mod Joined
pub mod Overlap
pub mod Sending
pub mod ThereAndBack
