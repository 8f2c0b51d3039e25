pub mod Common
pub mod Laws
pub mod Output
pub mod Trees
pub mod Wire
pub mod Written
