pub mod Climb
pub mod Tally
pub mod SpanLists
pub mod Scatter
pub mod Indexed
pub mod Parts
pub mod Joined
