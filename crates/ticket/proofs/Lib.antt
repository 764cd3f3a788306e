pub mod Circle
pub mod Laws
pub mod Determined
