pub mod Determined
pub mod Walks
