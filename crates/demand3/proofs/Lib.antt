mod Started
pub mod laws
