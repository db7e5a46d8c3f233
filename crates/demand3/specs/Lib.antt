pub mod CallList
pub mod Demand3
pub mod laws
