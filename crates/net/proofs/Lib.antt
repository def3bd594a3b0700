-- Laws that the proofs of `net` share.
pub mod Marks
pub mod Images
pub mod Lent
pub mod Puts
pub mod Steps
pub mod Looks
pub mod Runs
pub mod Passes
pub mod Encode
pub mod Outcomes
pub mod Built
pub mod Cases
