pub mod Parts
pub mod Pasting
pub mod Lengths
pub mod Numbers
pub mod Determined
