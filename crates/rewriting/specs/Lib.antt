pub mod Rewriting
pub mod Outcomes
pub mod Answers
pub mod Sequences
pub mod Inner
