pub mod Answers
pub mod Laws
pub mod Parts
pub mod Seen
pub mod Views
