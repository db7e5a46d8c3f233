-- Laws and lemmas, and definitions that only proofs need. A reader may skip them.
pub mod Kept
pub mod Outcomes
pub mod RunLaws
pub mod StateLaws
pub mod StopLaws
