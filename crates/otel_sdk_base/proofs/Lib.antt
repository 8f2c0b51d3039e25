pub mod shared
mod FirstChars
pub mod Lists
pub mod PieceTurns
mod SetInTurn
