-- Definitions that only contracts inside the engine cite.
pub mod Fields
pub mod OrMax
pub mod Patterns
pub mod Reciprocal
