-- Definitions that only contracts inside the engine cite.
pub mod Answer
pub mod Pass
pub mod Room
pub mod Under
