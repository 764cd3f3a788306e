pub mod Field
pub mod Bytes
pub mod Number
