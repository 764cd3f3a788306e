pub mod Told
pub mod Pair
