-- What only the proof of demand 3 cites.
pub mod Marks
pub mod Shapes
pub mod Standing
pub mod Starting
pub mod Runs
