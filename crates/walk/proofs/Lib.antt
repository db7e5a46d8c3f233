mod Stopped
mod Computed
pub mod laws
