pub mod Turning
pub mod Determined
