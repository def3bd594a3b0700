-- Definitions that only promises of private functions cite.
pub mod Writing
pub mod Spans
pub mod Parts
pub mod Released
