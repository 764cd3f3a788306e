pub mod Letters
pub mod Turns
pub mod Shortly
pub mod Numbers
pub mod Determined
