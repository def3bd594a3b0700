-- Laws that the proofs of functions cite.
pub mod Stored
pub mod Marks
pub mod Belongs
pub mod Placed
pub mod Rowed
pub mod Sections
pub mod Preparation
