-- What only promises of private functions cite.
pub mod Belonging
pub mod Copying
pub mod Counting
pub mod Placing
pub mod Writing
pub mod Preparing
