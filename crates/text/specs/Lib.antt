pub mod Text
pub mod Put
pub mod inner
pub mod laws
