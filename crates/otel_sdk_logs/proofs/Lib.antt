mod Cuts
pub mod Lists
pub mod Shutdowns
