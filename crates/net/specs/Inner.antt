-- What only the promises of private functions cite.
pub mod Arcs
pub mod Passes
