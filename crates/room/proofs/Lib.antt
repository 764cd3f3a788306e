pub mod Lines
pub mod Chains
pub mod Counted
pub mod Planned
pub mod Reached
pub mod Determined
pub mod Holding
