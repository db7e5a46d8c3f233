-- Definitions that only contracts inside the engine cite.
pub mod Fetch
pub mod Shows
