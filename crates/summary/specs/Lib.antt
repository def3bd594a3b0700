-- What a reader must believe: sets in 64-bit words, the summary of a marking, what the calls do, the answers' numbers, and what is claimed.
pub mod Sets
pub mod Summary
pub mod Calls
pub mod Answers
pub mod Claims
pub mod Inner
