-- Definitions that only promises of private functions cite.
pub mod Hits
pub mod Standing
pub mod Noting
pub mod Showing
pub mod Holding
pub mod Freeing
pub mod Settling
