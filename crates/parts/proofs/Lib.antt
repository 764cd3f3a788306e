pub mod Bools
pub mod Folds
pub mod Loops
pub mod Filling
pub mod Ranging
pub mod Determined
pub mod Along
pub mod Profiles
