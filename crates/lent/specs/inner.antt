-- Definitions that only contracts inside the engine cite.
pub mod Words
pub mod Answers
