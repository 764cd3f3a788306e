pub mod Best
pub mod Line
pub mod Pairs
pub mod Claims
pub mod Shown
pub mod Settle
pub mod Dropping
pub mod InFront
