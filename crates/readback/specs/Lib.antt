pub mod Configurations
pub mod Reading
pub mod Answers
pub mod Inner
