pub mod Piece
pub mod Claims
