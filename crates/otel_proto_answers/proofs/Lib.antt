pub mod Answering
pub mod Joined
pub mod Merging
pub mod ReadBack
pub mod Shorter
pub mod Steps
