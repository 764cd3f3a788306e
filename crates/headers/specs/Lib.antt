pub mod ParsedHeader
pub mod HeaderLine
pub mod Header
