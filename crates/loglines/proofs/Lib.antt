pub mod Parts
pub mod ReadsBack
pub mod Quickly
pub mod Offs
pub mod Rest
