pub mod Calls
pub mod Demand
pub mod Fresh
pub mod SelfCalls
pub mod Inner
