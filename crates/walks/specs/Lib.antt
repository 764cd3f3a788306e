pub mod Walk
pub mod Pieces
pub mod Claims
