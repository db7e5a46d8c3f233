-- The definitions of this crate's contracts (Run, Made), and the laws that they rest on.
pub mod laws
pub mod inner
