pub mod Good
pub mod Bits
pub mod ReadsBack
pub mod Numbers
pub mod Determined
