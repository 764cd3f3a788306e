pub mod Run
pub mod Todo
pub mod Due
