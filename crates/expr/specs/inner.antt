-- Definitions that only contracts inside the engine cite.
pub mod Arrays
pub mod Awaits
pub mod Parts
