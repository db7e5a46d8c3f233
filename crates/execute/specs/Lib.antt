pub mod laws
pub mod inner
