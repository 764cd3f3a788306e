pub mod Written
pub mod Text
pub mod Room
