-- Laws that the proofs of `summary` share, and the theorem.
pub mod Digits
pub mod Tested
pub mod Counting
pub mod Frame
pub mod Stays
pub mod Sound
pub mod Entries
pub mod Tells
pub mod Painting
pub mod Answering
pub mod Cases
