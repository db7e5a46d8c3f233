-- The definitions of this crate's contracts (Weights, BoundOf), and the laws that they rest on.
pub mod inner
pub mod laws
