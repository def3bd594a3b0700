pub mod Causes
pub mod Accepted
pub mod Answer
pub mod Known
pub mod Inner
