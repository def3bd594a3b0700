-- Definitions for promises of functions that a user of the library need not call.
pub mod Scatter
pub mod Filling
