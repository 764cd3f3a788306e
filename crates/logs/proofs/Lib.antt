pub mod Steady
pub mod Accepted
pub mod Judging
pub mod Turning
pub mod Meeting
pub mod Beside
pub mod Going
pub mod Determined
