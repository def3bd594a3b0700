-- Definitions for promises of functions that a user of the library need not call.
pub mod Arcs
pub mod Sets
pub mod Plan
pub mod Holding
pub mod Counting
pub mod Meeting
