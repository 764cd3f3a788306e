pub mod Kinds
pub mod Order
pub mod Issue
pub mod Laws
pub mod Determined
pub mod Claims
