pub mod Tests
pub mod Ranges
pub mod Good
pub mod Places
pub mod Numbers
pub mod ReadsBack
pub mod Determined
