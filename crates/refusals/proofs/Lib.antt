pub mod Far
pub mod Refusals
pub mod Apart
pub mod Determined
