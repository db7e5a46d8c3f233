-- The definitions of this crate's contracts (Parts), and the laws that they rest on.
pub mod laws
pub mod inner
