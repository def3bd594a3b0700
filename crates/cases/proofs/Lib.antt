mod Computing
pub mod AllRight
pub mod WrongCounts
