-- Definitions and facts that only promises of private functions cite.
pub mod Scope
pub mod Shaped
