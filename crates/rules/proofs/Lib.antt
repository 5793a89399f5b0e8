pub mod Laws
pub mod Looks
pub mod Down
pub mod Folds
pub mod Determined
