-- Definitions that only contracts inside the engine cite.
pub mod Literals
pub mod Made
pub mod Run
