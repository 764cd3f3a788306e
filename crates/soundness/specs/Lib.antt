pub mod Sound
pub mod Agreement
pub mod Claims
