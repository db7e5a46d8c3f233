pub mod Value
pub mod Slot
pub mod Limits
pub mod laws
pub mod inner
