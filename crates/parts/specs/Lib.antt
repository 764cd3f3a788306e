pub mod Answer
pub mod Fold
pub mod State
pub mod Profile
pub mod Parts
pub mod Range
