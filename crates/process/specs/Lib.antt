pub mod States
pub mod Steps
pub mod Labels
pub mod StateWords
pub mod Outcomes
pub mod Answers
pub mod Inner
