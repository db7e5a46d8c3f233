pub mod Walk
pub mod Bound
pub mod Runs
pub mod Statements
pub mod Cost
pub mod laws
