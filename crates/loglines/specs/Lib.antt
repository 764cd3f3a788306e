pub mod Log
pub mod Parts
pub mod Quick
