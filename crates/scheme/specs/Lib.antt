pub mod Words
pub mod Owners
pub mod Scheme
pub mod Kinds
pub mod Index
pub mod Spans
pub mod Inner
pub mod Numbers
