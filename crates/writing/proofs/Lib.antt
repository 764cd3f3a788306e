pub mod ReadsBack
pub mod AsWritten
pub mod Standing
pub mod Lengths
pub mod Determined
pub mod Headed
