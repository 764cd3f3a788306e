pub mod Ending
pub mod Parsed
pub mod StepLine
pub mod Short
pub mod Bytes
pub mod Reading
pub mod ShortLine
