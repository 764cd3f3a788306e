pub mod Determined
pub mod Plain
pub mod NextAsked
pub mod Profiles
