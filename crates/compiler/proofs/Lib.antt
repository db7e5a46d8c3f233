mod Computed
pub mod laws
