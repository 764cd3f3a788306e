pub mod Turns
pub mod Moving
pub mod Determined
