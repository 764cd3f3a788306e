pub mod Image
pub mod Claims
